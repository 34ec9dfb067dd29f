-- The steps of a policy path: what the readers of each spelling answer, by positions, and what a step's answer says.
use Prim.Native.Nat.{ℕ, zero, suc, ◌+◌, ◌-◌, ◌≤◌, ◌<◌}
use mathlib.Core.Path.{◌≡◌, refl, sym, ap, ◌∙◌}
use mathlib.Core.Bool.{Bool, true, false, not, ◌&&◌, and-true}
use Rattle.std.specs.Prelude.{Option, None, Some, MatchOption}
use mathlib.Core.List.{List, [], ◌∷◌, ◌++◌}
use native.Mathlib.Omega.{arith}
use lib.ListN.{length, get_or, take, drop, length-append, length-take, length-drop}
use lib.Seq.{length-take-le, take_all}
use lib.Dec.{ltb}
use borrow.Author.Tests.{ne_eqb, ltb-true, ltb-false}
use Rattle.rows.specs.Positions.{Reader, Reads, placed, run_end, LeavesEnd, Takes}
use Rattle.rows.proofs.Positions.{here, run-within, placed-reads, placed-none, none-placed, reads-placed}
use Rattle.model.specs.Base.{Bytes, Opened, text, any, all, range, is_some, ◌>>=◌, ◌<|>◌, after, if_after, within, is_digit}
use Rattle.model.specs.Names.{name_byte, is_name_of, is_name, is_key, is_letter, plain_byte, is_plain}
use Rattle.model.specs.Limits.{max_name, max_listed, max_key}
use Rattle.model.specs.Paths.{Step, Operator, names, wildcard, environment, equals, is_in, operator_text, identifier_byte, starts_well}
use Rattle.model.specs.Paths.{read_quoted, read_either, in_brackets, read_wildcard, read_identifier, read_dotted, read_environment, read_names, read_list, read_selector, read_step}
use Rattle.model.proofs.Lists.{by_cases, never, none-some, all-imp, all_true, true-all, any-range}
use Rattle.model.proofs.Reading.{within-bounds, either-some, span-passes}
use Rattle.lexical.specs.declared.class.Class.TheVariants.{Name, Identifier, Plain}
use Rattle.lexical.specs.Classes.{scan_end, read_between, text_answer}
use Rattle.lexical.proofs.Runs.{within-above, span-at, byte-stands}
use Rattle.lexical.proofs.Slices.{after-at, after-no}
use Rattle.lexical.proofs.Between.{scan-bad, scan-at, scan-within, between-gives, between-leaves, quoted-between}
use Rattle.steps.specs.Steps.{StepIs}
use Rattle.steps.specs.declared.step.Step as code
use Rattle.layout.proofs.Named.{push-whole}
use Rattle.paths.proofs.InBrackets.{brackets-unopened, brackets-empty, brackets-unclosed, brackets-closed, brackets-leave, brackets-shorten}
use Rattle.lexical.proofs.Readers.{placed-or, leaves-or, word-not, word-then, leaves_word, word-taken, leaves-if-word, leaves-some, leaves-bind, scanned, scanned-not, scanned-is, leaves-scanned}

-- ── Answers ──
-- the answer r of f, or else that of g
pub either-step : (f g : Reader ℕ Step) (s : Bytes) (at : ℕ) (r x : Option (code.Step × ℕ)) → StepIs r (placed f s at)
    → MatchOption r (StepIs x (placed g s at)) (λ p. x ≡ Some p) → StepIs x (placed (λ b. f b <|> g b) s at)
unfolding ◌<|>◌
either-step f g s at None x h e = (e.0 ∙ sym (placed-or f g s at ∙ rw (← h.0)), e.1)
either-step f g s at (Some p) x h e = rw e (sym (placed-or f g s at ∙ rw (← h.0)), h.1)

-- ── Classes of bytes that a name may have ──
-- a class with no byte from 0x7B on is part of another where the bytes below are
narrower : (p q : ℕ → Bool) → any (λ x. p x && not (q x)) (range 0 0x7B) ≡ false → ((x : ℕ) → 0x7B ≤ x → p x ≡ false)
    → (x : ℕ) → p x ≡ true → q x ≡ true
narrower p q t above x h = by_cases (q x) (λ e. e) (λ e. by_cases (ltb x 0x7B)
    (λ l. never (sym (any-range _ 0 0x7B x (omega arith) (omega (arith, ltb-true x 0x7B l)) (rw (h, e))) ∙ t))
    (λ l. never (sym h ∙ above x (ltb-false x 0x7B l))))

identifier-name : (x : ℕ) → identifier_byte x ≡ true → name_byte x ≡ true
unfolding Opened identifier_byte is_letter name_byte
identifier-name = narrower identifier_byte name_byte refl (λ x h.
    rw (within-above 0x41 0x5A x (omega arith), within-above 0x61 0x7A x (omega arith), within-above 48 57 x (omega arith), ne_eqb x 0x5F (λ e. omega arith)))

plain-name : (x : ℕ) → plain_byte x ≡ true → name_byte x ≡ true
unfolding Opened plain_byte is_letter name_byte
plain-name = narrower plain_byte name_byte refl (λ x h.
    rw (within-above 0x41 0x5A x (omega arith), within-above 0x61 0x7A x (omega arith), within-above 48 57 x (omega arith), ne_eqb x 0x2D (λ e. omega arith), ne_eqb x 0x5F (λ e. omega arith)))

-- ── The bytes of such a class from `at` on, up to `to` ──
module _ (p : ℕ → Bool) (named : (x : ℕ) → p x ≡ true → name_byte x ≡ true)
    (s : Bytes) (at to : ℕ) (is : to ≡ run_end p s at) (l : at ≤ length s) where
  part_length : length (take (to - at) (drop at s)) ≡ to - at
  part_length = length-take-le _ _ (rw length-drop (omega (arith, run-within p s at to is l)))

  part-passes : all p (take (to - at) (drop at s)) ≡ true
  part-passes = rw (span-at p s at to is) at (span-passes p (drop at s))

  -- they are a name by their number alone
  part-named : (most : ℕ) → is_name_of most (take (to - at) (drop at s)) ≡ within 1 most (to - at)
  unfolding is_name_of
  part-named most =
      let part = take (to - at) (drop at s) in
      let a : all name_byte part ≡ true = true-all name_byte part (all-imp _ _ named part (all_true p part part-passes)) in
      rw (part_length, a) (and-true _)

  -- a slot of such a name holds all of it
  part-whole : to - at ≤ max_key → take max_key (take (to - at) (drop at s)) ≡ take (to - at) (drop at s)
  part-whole h = take_all max_key _ (rw part_length h)

-- ── An identifier ──
abbrev well_named : Bytes → Bool
well_named n = is_key n && starts_well n

abbrev one_name : Bytes → Step
one_name n = names (n ∷ [])

-- `scan` answers x
module _ (s : Bytes) (at : ℕ) (l : at ≤ length s) (x : Option ℕ) (answer : x ≡ scan_end Identifier 1 max_key s at) where
  pub identifier-misfit : x ≡ None → None ≡ placed read_identifier s at
  unfolding read_identifier scanned is_key
  identifier-misfit i =
      scanned-not identifier_byte well_named one_name s at _ refl
      (rw (part-named identifier_byte identifier-name s at _ refl l max_key, scan-bad Identifier 1 max_key s at x answer i))

  module _ (to : ℕ) (i : x ≡ Some to) where
    ends : to ≡ run_end identifier_byte s at
    ends = (scan-at Identifier 1 max_key s at x answer to i).0

    -- it is right by its first byte
    by_first : well_named (take (to - at) (drop at s)) ≡ not (is_digit (get_or s at 0))
    unfolding is_key starts_well
    by_first =
        let w = scan-within Identifier 1 max_key s at x answer l to i in
        let n : to - at ≡ suc (to - at - 1) = omega arith in
        let f : starts_well (take (to - at) (drop at s)) ≡ not (is_digit (get_or s at 0)) = rw (here 0 s at (omega arith), n) in
        rw (part-named identifier_byte identifier-name s at to ends l max_key, (scan-at Identifier 1 max_key s at x answer to i).1, f)

    pub identifier-digit : is_digit (get_or s at 0) ≡ true → None ≡ placed read_identifier s at
    unfolding read_identifier scanned
    identifier-digit d = scanned-not identifier_byte well_named one_name s at to ends (by_first ∙ rw d)

    pub identifier-is : is_digit (get_or s at 0) ≡ false → Some (names (take max_key (take (to - at) (drop at s)) ∷ []), to) ≡ placed read_identifier s at
    unfolding read_identifier scanned
    identifier-is d =
        let w = scan-within Identifier 1 max_key s at x answer l to i in
        rw (part-whole identifier_byte identifier-name s at to ends l (omega arith))
        (scanned-is identifier_byte well_named one_name s at to ends l (by_first ∙ rw d))

-- ── A plain name behind the word of an operator ──
module _ (o : Operator) (word : Bytes) (own : word ≡ operator_text o) (s : Bytes) (at : ℕ) where
  behind-word : placed (λ x. after word x >>= scanned plain_byte is_plain (environment o)) s at ≡ placed (read_environment o) s at
  unfolding read_environment scanned
  behind-word = rw own

  pub environment-not : is_some (after word (drop at s)) ≡ false → None ≡ placed (read_environment o) s at
  environment-not h = word-not word _ s at h ∙ behind-word

  -- behind the word `scan` answers x
  module _ (l : at ≤ length s) (h : is_some (after word (drop at s)) ≡ true) (x : Option ℕ) (answer : x ≡ scan_end Plain 1 max_name s (at + length word)) where
    plain_fits : (to : ℕ) → to ≡ run_end plain_byte s (at + length word)
        → is_plain (take (to - (at + length word)) (drop (at + length word) s)) ≡ within 1 max_name (to - (at + length word))
    unfolding is_plain is_name
    plain_fits to is =
        let m = (after-at word s at l h).1 in
        rw (part-named plain_byte plain-name s (at + length word) to is m max_name, part-passes plain_byte plain-name s (at + length word) to is m) (and-true _)

    pub environment-misfit : x ≡ None → None ≡ placed (read_environment o) s at
    environment-misfit i =
        scanned-not plain_byte is_plain (environment o) s (at + length word) _ refl (plain_fits _ refl ∙ scan-bad Plain 1 max_name s (at + length word) x answer i)
        ∙ word-then word _ s at l h ∙ behind-word

    pub environment-is : (to : ℕ) → x ≡ Some to
        → Some (environment o (take max_key (take (to - (at + length word)) (drop (at + length word) s))), to) ≡ placed (read_environment o) s at
    environment-is to i =
        let m = (after-at word s at l h).1 in
        let (is, fits) = scan-at Plain 1 max_name s (at + length word) x answer to i in
        let w = scan-within Plain 1 max_name s (at + length word) x answer m to i in
        rw (part-whole plain_byte plain-name s (at + length word) to is m (omega arith))
        (scanned-is plain_byte is_plain (environment o) s (at + length word) to is m (plain_fits to is ∙ fits)
        ∙ word-then word _ s at l h ∙ behind-word)

-- ── A wildcard, and what stands behind a dot ──
module _ (s : Bytes) (at : ℕ) where
  pub wildcard-not : is_some (after (0x2A ∷ []) (drop at s)) ≡ false → None ≡ placed read_wildcard s at
  unfolding read_wildcard text
  wildcard-not h = word-not (0x2A ∷ []) (λ r. Some (wildcard, r)) s at h

  pub wildcard-is : at ≤ length s → is_some (after (0x2A ∷ []) (drop at s)) ≡ true → Some (wildcard, at + 1) ≡ placed read_wildcard s at
  unfolding read_wildcard text
  wildcard-is l h =
      let m = (after-at (0x2A ∷ []) s at l h).1 in
      sym (placed-reads (λ r. Some (wildcard, r)) s (at + 1) wildcard (at + 1) (record { from = omega arith; to = m; is = refl }))
      ∙ word-then (0x2A ∷ []) (λ r. Some (wildcard, r)) s at l h

  pub dotted-not : is_some (after (0x2E ∷ []) (drop at s)) ≡ false → None ≡ placed read_dotted s at
  unfolding read_dotted text
  dotted-not h = word-not (0x2E ∷ []) (λ x. read_wildcard x <|> read_identifier x) s at h

  pub dotted-then : at ≤ length s → is_some (after (0x2E ∷ []) (drop at s)) ≡ true
      → placed (λ x. read_wildcard x <|> read_identifier x) s (at + 1) ≡ placed read_dotted s at
  unfolding read_dotted text
  dotted-then l h = word-then (0x2E ∷ []) (λ x. read_wildcard x <|> read_identifier x) s at l h

-- ── A name in either quote ──
quoted-leaves : (q : ℕ) → LeavesEnd (read_quoted (q ∷ []))
quoted-leaves q s t h = between-leaves Name q 1 max_key s t (sym (quoted-between q s) ∙ h)

either-leaves : LeavesEnd read_either
unfolding read_either text
either-leaves = leaves-or (read_quoted (0x27 ∷ [])) (read_quoted (0x22 ∷ [])) (quoted-leaves 0x27) (quoted-leaves 0x22)

either-gives : (s b r : Bytes) → read_either s ≡ Some (b, r) → (length s ≡ length b + 2 + length r) × (1 ≤ length b) × (length b ≤ max_key)
unfolding read_either text
either-gives s b r h = either-some _ _ _ h (by 0x22) (by 0x27)
  where
    by : (q : ℕ) → read_quoted (q ∷ []) s ≡ Some (b, r) → (length s ≡ length b + 2 + length r) × (1 ≤ length b) × (length b ≤ max_key)
    by q e =
        let g = between-gives Name q 1 max_key s b r (sym (quoted-between q s) ∙ e) in
        let w = within-bounds 1 max_key _ g.fits in
        (omega (arith, simp length-append at (ap length g.is)), w.0, w.1)

-- a name in quotes stands from `at` to e
pub record NameStands (s : Bytes) (at e : ℕ) : Type 0 where
  pub at_least : at + 3 ≤ e
  pub at_most : e ≤ at + 2 + max_key
  pub reads : Reads read_either s at (take (e - 2 - at) (drop (at + 1) s)) e

module _ (s : Bytes) (at : ℕ) where
  either-placed : placed read_either s at ≡ (placed (read_between Name 0x27 1 max_key) s at <|> placed (read_between Name 0x22 1 max_key) s at)
  unfolding read_either text placed
  either-placed = placed-or (read_quoted (0x27 ∷ [])) (read_quoted (0x22 ∷ [])) s at ∙ rw (quoted-between 0x27, quoted-between 0x22)

  -- `between` answers x of single quotes, or else y of double ones
  pub either-quote : (x y : Option ℕ) → text_answer s at x ≡ placed (read_between Name 0x27 1 max_key) s at
      → MatchOption x (text_answer s at y ≡ placed (read_between Name 0x22 1 max_key) s at) (λ e. y ≡ Some e) → text_answer s at y ≡ placed read_either s at
  unfolding text_answer ◌<|>◌
  either-quote None y a h = h ∙ sym (either-placed ∙ rw (← a))
  either-quote (Some e) y a h = rw h (sym (either-placed ∙ rw (← a)))

  -- for a caller of `either_at`: what its answer says
  module _ (x : Option ℕ) (answer : text_answer s at x ≡ placed read_either s at) where
    pub either-bad : x ≡ None → read_either (drop at s) ≡ None
    unfolding text_answer
    either-bad i = none-placed _ s at (sym (rw i at answer))

    pub either-at : at ≤ length s → (e : ℕ) → x ≡ Some e → NameStands s at e
    unfolding text_answer
    either-at l e i =
        let r = reads-placed _ s at either-leaves l _ e (sym (rw i at answer)) in
        let g = either-gives _ _ _ r.is in
        let n : e ≡ at + 2 + length (take (e - 2 - at) (drop (at + 1) s)) = omega (arith, g.0, length-drop at s, length-drop e s, r.to) in
        record { at_least = omega arith; at_most = omega arith; reads = r }

-- ── Names with commas between ──
names-leave : (k : ℕ) (ns : List Bytes) → LeavesEnd (read_names k ns)
unfolding read_names text
names-leave zero ns = λ s t h. none-some h
names-leave (suc k) ns =
    leaves-bind read_either (λ n r. if_after (after (0x2C ∷ []) r) (read_names k (ns ++ n ∷ [])) (Some (ns ++ n ∷ [], r))) either-leaves
    (λ n. leaves-if-word (0x2C ∷ []) (read_names k (ns ++ n ∷ [])) (λ r. Some (ns ++ n ∷ [], r)) (names-leave k (ns ++ n ∷ [])) (leaves-some (ns ++ n ∷ [])))

pub names-bad : (k : ℕ) (ns : List Bytes) (s : Bytes) → read_either s ≡ None → read_names k ns s ≡ None
unfolding read_names ◌>>=◌
names-bad zero ns s h = refl
names-bad (suc k) ns s h = rw h

pub names-full : (n : ℕ) (ns : List Bytes) (s : Bytes) → max_listed ≤ n → read_names (max_listed - n) ns s ≡ None
unfolding read_names
names-full n ns s h = let z : max_listed - n ≡ zero = omega arith in rw z

-- a loop over at most four names: the name from `from` to e is pushed behind the names ns, of which there are n; then they are ns₁
module _ (s : Bytes) (from e : ℕ) (stands : NameStands s from e) (ns ns₁ : List Bytes)
    (pushed : ns₁ ≡ take max_listed (ns ++ take max_key (take (e - 1 - (from + 1)) (drop (from + 1) s)) ∷ []))
    (n : ℕ) (is : n ≡ length ns) (room : n < max_listed) where
  name-pushed : ns₁ ≡ ns ++ take (e - 2 - from) (drop (from + 1) s) ∷ []
  name-pushed =
      let m : e - 1 - (from + 1) ≡ e - 2 - from = omega arith in
      let name = take (e - 2 - from) (drop (from + 1) s) in
      pushed ∙ rw m (push-whole max_key max_listed ns name (omega arith) (simp length-take (omega (arith, stands.at_most))))

  name-read : read_names (max_listed - n) ns (drop from s)
      ≡ if_after (after (0x2C ∷ []) (drop e s)) (read_names (max_listed - (n + 1)) ns₁) (Some (ns₁, drop e s))
  unfolding read_names text ◌>>=◌
  name-read = let k : max_listed - n ≡ suc (max_listed - (n + 1)) = omega arith in rw (k, stands.reads.is, name-pushed)

  -- no comma follows
  pub names-last : is_some (after (0x2C ∷ []) (drop e s)) ≡ false → read_names (max_listed - n) ns (drop from s) ≡ Some (ns₁, drop e s)
  unfolding if_after
  names-last h = name-read ∙ rw (after-no (0x2C ∷ []) (drop e s) h)

  -- a comma follows
  pub names-turn : is_some (after (0x2C ∷ []) (drop e s)) ≡ true
      → (e + 1 ≤ length s) × (n + 1 ≡ length ns₁) × (read_names (max_listed - n) ns (drop from s) ≡ read_names (max_listed - (n + 1)) ns₁ (drop (e + 1) s))
  unfolding if_after
  names-turn h =
      let a = after-at (0x2C ∷ []) s e stands.reads.to h in
      (a.1, rw (name-pushed, length-append) (omega arith), name-read ∙ rw a.0)

module _ (s : Bytes) (at : ℕ) where
  pub list-none : read_names max_listed [] (drop at s) ≡ None → None ≡ placed read_list s at
  unfolding read_list ◌>>=◌
  list-none h = sym (placed-none _ s at (rw h))

  pub list_is : (ns : List Bytes) (e : ℕ) → at ≤ e → e ≤ length s → read_names max_listed [] (drop at s) ≡ Some (ns, drop e s)
      → Some (names ns, e) ≡ placed read_list s at
  unfolding read_list ◌>>=◌
  list_is ns e p q h = sym (placed-reads _ s at (names ns) e (record { from = p; to = q; is = rw h }))

-- ── What stands in brackets ──
selector-leaves : LeavesEnd read_selector
unfolding read_selector read_wildcard read_environment read_list scanned
selector-leaves =
    leaves-or (λ x. read_wildcard x <|> read_environment equals x <|> read_environment is_in x) read_list
    (leaves-or (λ x. read_wildcard x <|> read_environment equals x) (read_environment is_in)
    (leaves-or read_wildcard (read_environment equals) (leaves_word (text "*") (λ r. Some (wildcard, r)) (leaves-some wildcard)) (own equals)) (own is_in))
    (leaves-bind (read_names max_listed []) (λ ns r. Some (names ns, r)) (names-leave max_listed []) (λ ns. leaves-some (names ns)))
  where
    own : (o : Operator) → LeavesEnd (λ x. after (operator_text o) x >>= scanned plain_byte is_plain (environment o))
    own o = leaves_word (operator_text o) _ (leaves-scanned plain_byte is_plain (environment o))

module _ (s : Bytes) (at : ℕ) where
  pub bracketed-not : is_some (after (0x5B ∷ []) (drop at s)) ≡ false → None ≡ placed (in_brackets read_selector) s at
  bracketed-not h = sym (placed-none _ s at (brackets-unopened read_selector s at h))

  module _ (o : is_some (after (0x5B ∷ []) (drop at s)) ≡ true) where
    pub bracketed-empty : None ≡ placed read_selector s (at + 1) → None ≡ placed (in_brackets read_selector) s at
    bracketed-empty i = sym (placed-none _ s at (brackets-empty read_selector s at o (none-placed read_selector s (at + 1) (sym i))))

    -- t is read behind the opening bracket
    module _ (t : Step) (e : ℕ) (i : Some (t, e) ≡ placed read_selector s (at + 1)) where
      selected : Reads read_selector s (at + 1) t e
      selected = reads-placed read_selector s (at + 1) selector-leaves (byte-stands 0x5B s at o).0 t e (sym i)

      pub bracketed-unclosed : is_some (after (0x5D ∷ []) (drop e s)) ≡ false → None ≡ placed (in_brackets read_selector) s at
      bracketed-unclosed j = sym (placed-none _ s at (brackets-unclosed read_selector s at o t e selected j))

      pub bracketed-is : is_some (after (0x5D ∷ []) (drop e s)) ≡ true → Some (t, e + 1) ≡ placed (in_brackets read_selector) s at
      bracketed-is j = sym (placed-reads _ s at t (e + 1) (brackets-closed read_selector s at o t e selected j))

-- ── A step ──
-- behind the dot
dot-leaves : LeavesEnd (λ x. read_wildcard x <|> read_identifier x)
unfolding read_wildcard read_identifier scanned
dot-leaves =
    leaves-or read_wildcard read_identifier (leaves_word (text "*") (λ r. Some (wildcard, r)) (leaves-some wildcard))
    (leaves-scanned identifier_byte well_named one_name)

pub step-leaves : LeavesEnd read_step
unfolding read_step read_dotted
step-leaves =
    leaves-or read_dotted (in_brackets read_selector) (leaves_word (text ".") _ dot-leaves) (brackets-leave read_selector selector-leaves)

pub step-shortens : (s : Bytes) (t : Step × Bytes) → read_step s ≡ Some t → length t.1 < length s
unfolding read_step read_dotted text
step-shortens s t h = either-some _ _ _ h
    (λ i. brackets-shorten read_selector selector-leaves s t i)
    (λ i. omega (arith, word-taken (0x2E ∷ []) _ dot-leaves s t i))

-- for a caller of `step_at`: what its answer says
module _ (s : Bytes) (at : ℕ) where
  pub step-none : None ≡ placed read_step s at → read_step (drop at s) ≡ None
  step-none h = none-placed read_step s at (sym h)

  pub step-takes : at ≤ length s → (t : Step) (e : ℕ) → Some (t, e) ≡ placed read_step s at → Takes read_step s at t e
  step-takes l t e h =
      let q = reads-placed read_step s at step-leaves l t e (sym h) in
      (omega (arith, step-shortens (drop at s) _ q.is, length-drop at s, length-drop e s, q.to), q)
