-- Values and paths: what their readers give is valid, and what is valid reads back from its spelling.
use Prim.Native.Nat.{ℕ, zero, suc, ◌+◌, ◌-◌, ◌≤◌}
use mathlib.Core.Path.{◌≡◌, refl, sym, ap, ◌∙◌}
use Rattle.std.specs.Prelude.{Option, None, Some}
use mathlib.Core.List.{List, [], ◌∷◌, ◌++◌, map, map-map, map-append, append_assoc, append-nil}
use mathlib.Core.Bool.{Bool, true, false, ◌&&◌}
use lib.Dec.{leb, lit≤}
use lib.ListN.{length, length-append}
use lib.IntN.{pos, negsuc}
use native.Mathlib.Omega.{arith}
use borrow.Author.Tests.{leb-true, le-leb}
use Rattle.model.specs.Base.{Bytes, text, all, joined, between, ◌>>=◌, ◌>>◌, ◌<|>◌, check, after, if_after, span}
use Rattle.model.specs.Base.{within, is_digit, is_decimal, worth, decimal}
use Rattle.model.specs.Limits.{max_name, max_key, max_depth, max_string, max_positive, max_negative, max_listed, max_path_text}
use Rattle.model.specs.Names.{name_byte, is_name_of, is_name, is_key, is_letter, plain_byte, is_plain}
use Rattle.model.specs.Values.{Value, truth, string, whole, string_byte, valid_value, quoted, value_text}
use Rattle.model.specs.Values.{read_truth, read_string, read_pos, read_neg, read_value, value_of}
use Rattle.model.specs.Fields.{Keys, valid_keys}
use Rattle.model.specs.Paths.{Operator, equals, is_in, Step, names, wildcard, environment, Steps}
use Rattle.model.specs.Paths.{operator_text, name_text, step_text, steps_text, as_steps, keys_text}
use Rattle.model.specs.Paths.{read_quoted, read_either, in_brackets, read_wildcard, read_identifier, read_dotted, read_environment, read_names, read_list, read_selector, read_step}
use Rattle.model.specs.Paths.{read_all, read_path, steps_of, read_key_step, keys_of}
use Rattle.model.specs.Claims.{StepsReadBack, OneSpelling, KeysAsWritten, ValueAsWritten}
use Rattle.model.proofs.Lists.{never, and_both, both-and, none-some, bytes_eq, joined-append}
use Rattle.model.proofs.Reading.{within-yes, within-bounds, all_snoc, some_same, bind-some, check-some, either-some, after-cases}
use Rattle.model.proofs.Reading.{Stops, span-all, span-passes, span-joins, after-other, after-some, after-span}
use Rattle.model.proofs.Reading.{digit-bounds, decimal-digits, worth-decimal, decimal-length, decimal-is, decimal-worth}

-- ── Names ──
pub record Named (most : ℕ) (n : Bytes) : Type 0 where
  pub low : 1 ≤ length n
  pub high : length n ≤ most
  pub passes : all name_byte n ≡ true

pub named : (most : ℕ) (n : Bytes) → is_name_of most n ≡ true → Named most n
unfolding is_name_of
named most n h =
    let t = and_both _ _ h in
    let w = within-bounds 1 most (length n) t.0 in
    record { low = w.0; high = w.1; passes = t.1 }

pub name-named : (n : Bytes) → is_name n ≡ true → Named max_name n
unfolding is_name
name-named n h = named max_name n h

pub key-named : (k : Bytes) → is_key k ≡ true → Named max_key k
unfolding is_key
key-named k h = named max_key k h

-- a key ends at a byte that is in no name, such as a quote
pub key-span : (k r : Bytes) → is_key k ≡ true → Stops name_byte r → span name_byte (k ++ r) ≡ (k, r)
key-span k r h st = span-all name_byte k r (key-named k h).passes st

-- ── A value that was read ──
-- the value is valid, and the text begins with its spelling
abbrev pub Spells : Bytes → Value × Bytes → Type 0
Spells s t = (valid_value t.0 ≡ true) × (s ≡ value_text t.0 ++ t.1)

module _ (s : Bytes) (t : Value × Bytes) where
  truth-spells : read_truth s ≡ Some t → Spells s t
  unfolding read_truth valid_value value_text
  truth-spells h = either-some _ _ _ h
      (λ e. bind-some _ _ _ e λ r u v. rw (← some_same v) (refl, after-some _ s r u))
      (λ e. bind-some _ _ _ e λ r u v. rw (← some_same v) (refl, after-some _ s r u))

  string-spells : read_string s ≡ Some t → Spells s t
  unfolding read_string valid_value value_text quoted text
  string-spells h = bind-some _ _ _ h λ s₁ e i. check-some _ _ _ i λ l j. bind-some _ _ _ j λ r u v.
      let z = append_assoc (span string_byte s₁).0 (0x22 ∷ []) r in
      let w = after-some _ s s₁ e ∙ ap (0x22 ∷◌) (after-span string_byte _ s₁ r u ∙ sym z) in
      rw (← some_same v) (both-and _ _ l (span-passes string_byte s₁), w)

  pos-spells : read_pos s ≡ Some t → Spells s t
  unfolding read_pos valid_value value_text
  pos-spells h = check-some _ _ _ h λ c v.
      let d = and_both (is_decimal (span is_digit s).0) _ c in
      rw (← some_same v) (d.1, rw (decimal-worth _ d.0) (sym (span-joins is_digit s)))

  neg-spells : read_neg s ≡ Some t → Spells s t
  unfolding read_neg valid_value value_text text
  neg-spells h = bind-some _ _ _ h λ s₁ e i. check-some _ _ _ i λ c v.
      let a = (span is_digit s₁).0 in
      let d = and_both (is_decimal a) _ c in
      let l = within-bounds 1 max_negative (worth 0 a) d.1 in
      let n : suc (worth 0 a - 1) ≡ worth 0 a = omega arith in
      let w = after-some _ s s₁ e ∙ ap (0x2D ∷◌) (sym (span-joins is_digit s₁)) in
      rw (← some_same v) (le-leb (suc (worth 0 a - 1)) max_negative (omega arith), rw (n, decimal-worth a d.0) w)

  pub value-spells : read_value s ≡ Some t → Spells s t
  unfolding read_value
  value-spells h =
      either-some _ _ _ h neg-spells λ i. either-some _ _ _ i pos-spells λ j. either-some _ _ _ j string-spells truth-spells

pub value-valid : (s r : Bytes) (v : Value) → read_value s ≡ Some (v, r) → valid_value v ≡ true
value-valid s r v h = (value-spells s (v, r) h).0

-- ── A value's spelling, read ──
truth-reads : (b : Bool) (r : Bytes) → read_value (value_text (truth b) ++ r) ≡ Some (truth b, r)
unfolding read_value read_truth value_text text after ◌>>=◌ ◌<|>◌
truth-reads true r = refl
truth-reads false r = refl

string-reads : (s r : Bytes) → valid_value (string s) ≡ true → read_value (value_text (string s) ++ r) ≡ Some (string s, r)
unfolding read_value read_truth read_string valid_value value_text quoted text after ◌>>=◌ ◌>>◌ ◌<|>◌
string-reads s r h =
    let w = and_both (leb (length s) max_string) _ h in
    let e = span-all string_byte s (0x22 ∷ r) w.1 (unfold string_byte within in refl) in
    rw (append_assoc s (0x22 ∷ []) r, e, w.0) (unfold check in refl)

-- no other value begins with a digit
only-number : (a r : Bytes) → is_decimal a ≡ true → all is_digit a ≡ true → read_value (a ++ r) ≡ read_pos (a ++ r) <|> read_neg (a ++ r)
unfolding read_value read_truth read_string text ◌>>=◌ ◌<|>◌
only-number [] r h k = never (unfold is_decimal in sym h)
only-number (d ∷ a) r h k =
    let w = digit-bounds d (unfold all in (and_both _ _ k).0) in
    rw (
      after-other 0x74 d _ (a ++ r) (λ e. omega arith),
      after-other 0x66 d _ (a ++ r) (λ e. omega arith),
      after-other 0x22 d _ (a ++ r) (λ e. omega arith),
    )

pos-reads : (n : ℕ) (r : Bytes) → n ≤ max_positive → Stops is_digit r → read_value (decimal n ++ r) ≡ Some (whole (pos n), r)
unfolding read_pos check ◌>>◌ ◌<|>◌
pos-reads n r l st =
    let w = decimal-digits n in
    only-number (decimal n) r (decimal-is n) w ∙ rw (span-all is_digit (decimal n) r w st, decimal-is n, worth-decimal n, le-leb n max_positive l)

neg-reads : (n : ℕ) (r : Bytes) → suc n ≤ max_negative → Stops is_digit r → read_value (0x2D ∷ decimal (suc n) ++ r) ≡ Some (whole (negsuc n), r)
unfolding read_value read_truth read_string read_pos read_neg text after check ◌>>=◌ ◌>>◌ ◌<|>◌
neg-reads n r l st =
    let a = decimal (suc n) in
    let miss = span-all is_digit [] (0x2D ∷ a ++ r) (unfold all in refl) (unfold is_digit within in refl) in
    let e = span-all is_digit a r (decimal-digits (suc n)) st in
    let z : suc n - 1 ≡ n = omega arith in
    rw (miss, e, decimal-is (suc n), worth-decimal (suc n), within-yes 1 max_negative (suc n) (omega arith) (omega arith), z) (unfold is_decimal in refl)

-- whatever stands behind it, but for a digit behind a number
pub value-reads : (v : Value) (r : Bytes) → valid_value v ≡ true → Stops is_digit r → read_value (value_text v ++ r) ≡ Some (v, r)
unfolding valid_value value_text text
value-reads (truth b) r h st = truth-reads b r
value-reads (string s) r h st = string-reads s r h
value-reads (whole (pos n)) r h st = pos-reads n r (leb-true _ _ h) st
value-reads (whole (negsuc n)) r h st = neg-reads n r (leb-true _ _ h) st

-- ── A value that is the whole text ──
value-of-spells : (s : Bytes) (v : Value) → value_of s ≡ Some v → (valid_value v ≡ true) × (value_text v ≡ s)
unfolding value_of
value-of-spells s v h = bind-some _ _ _ h λ t e i. check-some _ _ _ i λ c j.
    let w = value-spells s t e in
    rw (← some_same j) (w.0, sym (w.1 ∙ ap (value_text t.0 ++◌) (bytes_eq _ _ c) ∙ append-nil _))

pub value-of-valid : (s : Bytes) (v : Value) → value_of s ≡ Some v → valid_value v ≡ true
value-of-valid s v h = (value-of-spells s v h).0

-- a value has one spelling
pub value-as-written : ValueAsWritten
value-as-written s v h = (value-of-spells s v h).1

pub value-length : (v : Value) → valid_value v ≡ true → length (value_text v) ≤ 34
unfolding valid_value value_text text quoted
value-length (truth true) h = lit≤ tt
value-length (truth false) h = lit≤ tt
value-length (string s) h = rw (length-append s) (omega (arith, leb-true (length s) max_string (and_both _ _ h).0))
value-length (whole (pos n)) h = omega (arith, decimal-length n 9 (omega (arith, leb-true n max_positive h)))
value-length (whole (negsuc n)) h = omega (arith, decimal-length (suc n) 9 (omega (arith, leb-true (suc n) max_negative h)))

-- ── A path, piece by piece ──
-- where a reader gives good pieces, they are good all along the path
module _ {A : Type 0} (one : Bytes → Option (A × Bytes)) (good : A → Bool) (gives : (s : Bytes) (t : A × Bytes) → one s ≡ Some t → good t.0 ≡ true) where
  all-gives : (k : ℕ) (p q : List A) (s : Bytes) → read_all one k p s ≡ Some q → all good p ≡ true →
      (length q ≤ length p + k) × (all good q ≡ true)
  unfolding read_all
  all-gives zero p q [] h g = rw (← some_same h) (omega arith, g)
  all-gives zero p q (x ∷ s) h g = none-some h
  all-gives (suc k) p q [] h g = rw (← some_same h) (omega arith, g)
  all-gives (suc k) p q (x ∷ s) h g = bind-some _ _ _ h λ t e i.
      let w = all-gives k (p ++ t.0 ∷ []) q t.1 i (all_snoc good p t.0 g (gives _ t e)) in
      (omega (arith, w.0, length-append p (t.0 ∷ [])), w.1)

  path-gives : (s : Bytes) (q : List A) → read_path one s ≡ Some q → (within 1 max_depth (length q) && all good q) ≡ true
  unfolding read_path
  path-gives s q h = bind-some _ _ _ h λ s₁ e i. bind-some _ _ _ i λ p u j. check-some _ _ _ j λ l v.
      let w = all-gives max_depth [] p s₁ u (unfold all in refl) in
      rw (← some_same v) (both-and _ _ (within-yes 1 max_depth (length p) (leb-true 1 _ l) (omega arith)) w.1)

-- where it reads a good piece back from its spelling, it does so all along the path
module _ {A : Type 0} (one : Bytes → Option (A × Bytes)) (good : A → Bool) (spell : A → Bytes)
    (reads : (a : A) (r : Bytes) → good a ≡ true → one (spell a ++ r) ≡ Some (a, r)) (ends : one [] ≡ None) where
  one_more : (k : ℕ) (p : List A) (s r : Bytes) (a : A) → one s ≡ Some (a, r) → read_all one (suc k) p s ≡ read_all one k (p ++ a ∷ []) r
  unfolding read_all ◌>>=◌
  one_more k p [] r a h = none-some (sym ends ∙ h)
  one_more k p (x ∷ s) r a h = rw h

  all-reads : (k : ℕ) (p q : List A) → length q ≤ k → all good q ≡ true → read_all one k p (joined (map spell q)) ≡ Some (p ++ q)
  unfolding joined all
  all-reads zero p [] l g = unfold read_all in ap Some (sym (append-nil p))
  all-reads (suc k) p [] l g = unfold read_all in ap Some (sym (append-nil p))
  all-reads zero p (a ∷ q) l g = absurd (omega arith)
  all-reads (suc k) p (a ∷ q) l g =
      let w = and_both (good a) _ g in
      let e = one_more k p _ _ a (reads a (joined (map spell q)) w.0) in
      e ∙ all-reads k (p ++ a ∷ []) q (omega arith) w.1 ∙ ap Some (append_assoc p (a ∷ []) q)

  path-reads : (q : List A) → (within 1 max_depth (length q) && all good q) ≡ true → read_path one (text "$" ++ joined (map spell q)) ≡ Some q
  unfolding read_path text after check ◌>>=◌ ◌>>◌
  path-reads q h =
      let w = and_both _ _ h in
      let l = within-bounds 1 max_depth (length q) w.0 in
      rw (all-reads max_depth [] q l.1 w.1, le-leb 1 (length q) l.0)

-- ── Names in quotes ──
quoted-gives : (q s : Bytes) (t : Bytes × Bytes) → read_quoted q s ≡ Some t → (is_key t.0 ≡ true) × (s ≡ q ++ (t.0 ++ (q ++ t.1)))
unfolding read_quoted
quoted-gives q s t h = bind-some _ _ _ h λ s₁ e i. check-some _ _ _ i λ c j. bind-some _ _ _ j λ r u v.
    rw (← some_same v) (c, after-some q s s₁ e ∙ ap (q ++◌) (after-span name_byte q s₁ r u))

quoted-reads : (n r : Bytes) → is_key n ≡ true → read_quoted (text "'") (name_text n ++ r) ≡ Some (n, r)
unfolding read_quoted name_text text after check ◌>>=◌ ◌>>◌
quoted-reads n r h = rw (append_assoc n (0x27 ∷ []) r, key-span n (0x27 ∷ r) h (unfold name_byte within in refl), h)

-- ── A field's path ──
-- a key's spelling: a step of one name
unfoldable pub key_text : Bytes → Bytes
key_text k = step_text (names (k ∷ []))

key-gives : (s : Bytes) (t : Bytes × Bytes) → read_key_step s ≡ Some t → (is_key t.0 ≡ true) × (s ≡ key_text t.0 ++ t.1)
unfolding read_key_step in_brackets key_text step_text name_text between
key-gives s t h = bind-some _ _ _ h λ s₁ e i. bind-some _ _ _ i λ k u j. bind-some _ _ _ j λ r v z.
    let w = quoted-gives _ s₁ k u in
    rw (← some_same z) (w.0, simp append_assoc (cc (after-some _ s s₁ e, w.1, after-some _ k.1 r v)))

pub keys-valid : (s : Bytes) (p : Keys) → keys_of s ≡ Some p → valid_keys p ≡ true
unfolding keys_of valid_keys
keys-valid s p h = path-gives read_key_step is_key (λ s t h. (key-gives s t h).0) s p h

pub keys-text : (p : Keys) → keys_text p ≡ text "$" ++ joined (map key_text p)
unfolding keys_text steps_text as_steps key_text
keys-text p = rw (map-map step_text (λ k. names (k ∷ [])) p)

-- what is spelled so far, and the text still to read, are the spelling of all that will be read
keys-joined : (k : ℕ) (p q : Keys) (s : Bytes) → read_all read_key_step k p s ≡ Some q → joined (map key_text q) ≡ joined (map key_text p) ++ s
unfolding read_all joined
keys-joined zero p q [] h = rw (← some_same h) (sym (append-nil _))
keys-joined zero p q (x ∷ s) h = none-some h
keys-joined (suc k) p q [] h = rw (← some_same h) (sym (append-nil _))
keys-joined (suc k) p q (x ∷ s) h = bind-some _ _ _ h λ t e i.
    keys-joined k (p ++ t.0 ∷ []) q t.1 i ∙ rw (key-gives _ t e).1 (simp (map-append, joined-append, append_assoc))

-- a field's path has one spelling
pub keys-as-written : KeysAsWritten
unfolding keys_of read_path joined
keys-as-written s p h = bind-some _ _ _ h λ s₁ e i. bind-some _ _ _ i λ q u j. check-some _ _ _ j λ l v.
    rw (← some_same v, keys-text q, keys-joined max_depth [] q s₁ u) (sym (after-some _ s s₁ e))

-- ── A step that was read ──
-- a step that some text spells
unfoldable pub valid_step : Step → Bool
valid_step (names ns) = within 1 max_listed (length ns) && all is_key ns
valid_step wildcard = true
valid_step (environment e n) = is_plain n

one_name_lem : (n : Bytes) → is_key n ≡ true → valid_step (names (n ∷ [])) ≡ true
unfolding valid_step all within
one_name_lem n h = rw h

either-gives : (s : Bytes) (t : Bytes × Bytes) → read_either s ≡ Some t → is_key t.0 ≡ true
unfolding read_either
either-gives s t h = either-some _ _ _ h (λ e. (quoted-gives _ s t e).0) (λ e. (quoted-gives _ s t e).0)

names-give : (k : ℕ) (ns : List Bytes) (s : Bytes) (t : List Bytes × Bytes) → read_names k ns s ≡ Some t → all is_key ns ≡ true →
    (1 ≤ length t.0) × (length t.0 ≤ length ns + k) × (all is_key t.0 ≡ true)
unfolding read_names
names-give zero ns s t h g = none-some h
names-give (suc k) ns s t h g = bind-some _ _ _ h λ n e i.
    let c = all_snoc is_key ns n.0 g (either-gives s n e) in
    let l = length-append ns (n.0 ∷ []) in
    after-cases _ _ _ _ i (λ o j. rw (← some_same j) (omega arith, omega arith, c)) λ r u v.
    let w = names-give k (ns ++ n.0 ∷ []) r t v c in
    (w.0, omega arith, w.2)

-- what stands between brackets
brackets-give : {A : Type 0} (inner : Bytes → Option (A × Bytes)) (P : A → Type 0) → ((s : Bytes) (t : A × Bytes) → inner s ≡ Some t → P t.0) →
    (s : Bytes) (t : A × Bytes) → in_brackets inner s ≡ Some t → P t.0
unfolding in_brackets
brackets-give inner P gives s t h = bind-some _ _ _ h λ s₁ e i. bind-some _ _ _ i λ a u j. bind-some _ _ _ j λ r v z.
    rw (← some_same z) (gives s₁ a u)

module _ (s : Bytes) (t : Step × Bytes) where
  wildcard-gives : read_wildcard s ≡ Some t → valid_step t.0 ≡ true
  unfolding read_wildcard valid_step
  wildcard-gives h = bind-some _ _ _ h λ r e v. rw (← some_same v)

  identifier-gives : read_identifier s ≡ Some t → valid_step t.0 ≡ true
  unfolding read_identifier
  identifier-gives h = check-some _ _ _ h λ c v. rw (← some_same v) (one_name_lem _ (and_both _ _ c).0)

  environment-gives : (o : Operator) → read_environment o s ≡ Some t → valid_step t.0 ≡ true
  unfolding read_environment valid_step
  environment-gives o h = bind-some _ _ _ h λ s₁ u i. check-some _ _ _ i λ c z. rw (← some_same z) c

  list-gives : read_list s ≡ Some t → valid_step t.0 ≡ true
  unfolding read_list valid_step
  list-gives h = bind-some _ _ _ h λ n u z.
      let w = names-give max_listed [] s n u (unfold all in refl) in
      rw (← some_same z) (both-and _ _ (within-yes 1 max_listed (length n.0) w.0 (omega arith)) w.2)

  selector-gives : read_selector s ≡ Some t → valid_step t.0 ≡ true
  unfolding read_selector
  selector-gives h =
      either-some _ _ _ h list-gives λ i. either-some _ _ _ i (environment-gives is_in) λ j.
      either-some _ _ _ j (environment-gives equals) wildcard-gives

dotted-gives : (s : Bytes) (t : Step × Bytes) → read_dotted s ≡ Some t → valid_step t.0 ≡ true
unfolding read_dotted
dotted-gives s t h = bind-some _ _ _ h λ r e i. either-some _ _ _ i (identifier-gives r t) (wildcard-gives r t)

step_gives : (s : Bytes) (t : Step × Bytes) → read_step s ≡ Some t → valid_step t.0 ≡ true
unfolding read_step
step_gives s t h = either-some _ _ _ h (brackets-give read_selector (λ a. valid_step a ≡ true) selector-gives s t) (dotted-gives s t)

-- ── A step's standard spelling, read ──
listed : List Bytes → Bytes
listed ns = between (text ",") (map name_text ns)

listed_more : (n m : Bytes) (ns : List Bytes) (r : Bytes) → listed (n ∷ m ∷ ns) ++ r ≡ name_text n ++ (0x2C ∷ listed (m ∷ ns) ++ r)
unfolding listed between text
listed_more n m ns r = append_assoc (name_text n) _ r

listed-reads : (k : ℕ) (ns : List Bytes) (n : Bytes) (t : List Bytes) (r : Bytes) → suc (length t) ≤ k → all is_key (n ∷ t) ≡ true →
    read_names k ns (listed (n ∷ t) ++ 0x5D ∷ r) ≡ Some (ns ++ n ∷ t, 0x5D ∷ r)
unfolding read_names read_either text after if_after ◌>>=◌ ◌<|>◌ all
listed-reads zero ns n t r l g = absurd (omega arith)
listed-reads (suc k) ns n [] r l g = unfold listed between in rw (quoted-reads n (0x5D ∷ r) (and_both (is_key n) _ g).0)
listed-reads (suc k) ns n (m ∷ t) r l g =
    let w = and_both (is_key n) _ g in
    let e = quoted-reads n (0x2C ∷ listed (m ∷ t) ++ 0x5D ∷ r) w.0 in
    let i = listed-reads k (ns ++ n ∷ []) m t r (omega arith) w.1 in
    rw (listed_more n m t (0x5D ∷ r), e, i, append_assoc ns (n ∷ []) (m ∷ t))

-- no other selector begins as names do
only-listed : (n : Bytes) (ns : List Bytes) (r : Bytes) → read_selector (listed (n ∷ ns) ++ r) ≡ read_list (listed (n ∷ ns) ++ r)
unfolding read_selector read_wildcard read_environment operator_text listed name_text between text after ◌>>=◌ ◌<|>◌
only-listed n [] r = refl
only-listed n (m ∷ ns) r = refl

-- what the brackets hold, read back
brackets-read : {A : Type 0} (inner : Bytes → Option (A × Bytes)) (a : A) (w r : Bytes) → inner (w ++ 0x5D ∷ r) ≡ Some (a, 0x5D ∷ r) →
    in_brackets inner (0x5B ∷ w ++ 0x5D ∷ r) ≡ Some (a, r)
unfolding in_brackets text after ◌>>=◌
brackets-read inner a w r h = rw h

-- a step in brackets is no dotted one
step-brackets : (a : Step) (w r : Bytes) → read_selector (w ++ 0x5D ∷ r) ≡ Some (a, 0x5D ∷ r) → read_step (0x5B ∷ w ++ 0x5D ∷ r) ≡ Some (a, r)
unfolding read_step read_dotted text after ◌>>=◌ ◌<|>◌
step-brackets a w r h = brackets-read read_selector a w r h

list-reads : (n : Bytes) (ns : List Bytes) (r : Bytes) → valid_step (names (n ∷ ns)) ≡ true →
    read_list (listed (n ∷ ns) ++ 0x5D ∷ r) ≡ Some (names (n ∷ ns), 0x5D ∷ r)
unfolding read_list valid_step ◌>>=◌
list-reads n ns r h =
    let w = and_both _ _ h in
    rw (listed-reads max_listed [] n ns r (within-bounds 1 max_listed (suc (length ns)) w.0).1 w.1)

names-reads : (n : Bytes) (ns : List Bytes) (r : Bytes) → valid_step (names (n ∷ ns)) ≡ true →
    read_step (step_text (names (n ∷ ns)) ++ r) ≡ Some (names (n ∷ ns), r)
unfolding step_text text listed
names-reads n ns r h =
    ap (λ (x : Bytes). read_step (0x5B ∷ x)) (append_assoc (listed (n ∷ ns)) (0x5D ∷ []) r)
    ∙ step-brackets (names (n ∷ ns)) (listed (n ∷ ns)) r (only-listed n ns (0x5D ∷ r) ∙ list-reads n ns r h)

-- a plain name ends at the bracket
plain-span : (n r : Bytes) → is_plain n ≡ true → span plain_byte (n ++ 0x5D ∷ r) ≡ (n, 0x5D ∷ r)
unfolding is_plain
plain-span n r h = span-all plain_byte n _ (and_both (is_name n) _ h).1 (unfold plain_byte is_letter is_digit within in refl)

environment-reads : (o : Operator) (n r : Bytes) → is_plain n ≡ true → read_selector (operator_text o ++ n ++ 0x5D ∷ r) ≡ Some (environment o n, 0x5D ∷ r)
unfolding read_selector read_wildcard read_environment operator_text text after check ◌>>=◌ ◌>>◌ ◌<|>◌
environment-reads equals n r h = rw (plain-span n r h, h)
environment-reads is_in n r h = rw (plain-span n r h, h)

regroup : (a n r : Bytes) → (a ++ (n ++ 0x5D ∷ [])) ++ r ≡ (a ++ n) ++ 0x5D ∷ r
regroup a n r = simp append_assoc

step-reads : (a : Step) (r : Bytes) → valid_step a ≡ true → read_step (step_text a ++ r) ≡ Some (a, r)
step-reads (names []) r h = never (unfold valid_step within in sym h)
step-reads (names (n ∷ ns)) r h = names-reads n ns r h
step-reads wildcard r h = unfold step_text text in (step-brackets wildcard (0x2A ∷ []) r (unfold read_selector read_wildcard text after ◌>>=◌ ◌<|>◌ in refl))
step-reads (environment o n) r h = unfold step_text text in (
    ap (λ (x : Bytes). read_step (0x5B ∷ x)) (regroup (operator_text o) n r)
    ∙ step-brackets (environment o n) (operator_text o ++ n) r (environment-reads o n r (unfold valid_step in h)))

-- ── A policy path ──
no_step : read_step [] ≡ None
unfolding read_step read_dotted in_brackets text after ◌>>=◌ ◌<|>◌
no_step = refl

-- a path that some text spells
unfoldable pub valid_steps : Steps → Bool
valid_steps p = within 1 max_depth (length p) && all valid_step p && leb (length (steps_text p)) max_path_text

steps-parts : (p : Steps) → valid_steps p ≡ true →
    ((within 1 max_depth (length p) && all valid_step p) ≡ true) × (leb (length (steps_text p)) max_path_text ≡ true)
unfolding valid_steps
steps-parts p h = and_both (within 1 max_depth (length p) && all valid_step p) _ h

pub steps-valid : (s : Bytes) (p : Steps) → steps_of s ≡ Some p → valid_steps p ≡ true
unfolding steps_of valid_steps
steps-valid s p h = bind-some _ _ _ h λ q e i. check-some _ _ _ i λ c v.
    rw (← some_same v) (both-and _ _ (path-gives read_step valid_step step_gives s q e) c)

pub steps-length : (s : Bytes) (p : Steps) → steps_of s ≡ Some p → length (steps_text p) ≤ max_path_text
steps-length s p h = leb-true _ _ (steps-parts p (steps-valid s p h)).1

pub steps-of-text : (p : Steps) → valid_steps p ≡ true → steps_of (steps_text p) ≡ Some p
unfolding steps_of ◌>>=◌ ◌>>◌ check
steps-of-text p h =
    let w = steps-parts p h in
    let e : read_path read_step (steps_text p) ≡ Some p = unfold steps_text in path-reads read_step valid_step step_text step-reads no_step p w.0 in
    rw (e, w.1)

pub steps-read-back : StepsReadBack
steps-read-back s p h = steps-of-text p (steps-valid s p h)

pub one-spelling : OneSpelling
one-spelling s₁ s₂ p₁ p₂ h₁ h₂ e = some_same (sym (steps-read-back s₁ p₁ h₁) ∙ ap steps_of e ∙ steps-read-back s₂ p₂ h₂)
