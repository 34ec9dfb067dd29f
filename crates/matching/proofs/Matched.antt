-- Matching by loops: what is left of a test over rows, of a user's environment lines and of two paths at a place.
use Prim.Native.Nat.{ℕ, zero, suc, ◌+◌, ◌*◌, ◌-◌, ◌≤◌, ◌<◌, min}
use mathlib.Core.Path.{◌≡◌, refl, sym, ap, ◌∙◌}
use mathlib.Core.Bool.{Bool, true, false, ◌&&◌, ◌||◌, and-true, and-false, and_assoc}
use mathlib.Core.List.{List, [], ◌∷◌}
use native.Mathlib.Omega.{arith}
use lib.ListN.{length, get_or, take, drop}
use lib.Seq.{take-take}
use Rattle.layout.specs.Layout.{in_use, name_row, key_row, name_in, counted}
use Rattle.layout.proofs.Used.{used-last, used-more, byte-empty, byte_full, row-left, rows-over}
use Rattle.rows.proofs.Parts.{part-part}
use Rattle.model.specs.Base.{Bytes, any, among, keep, ◌≐◌}
use Rattle.model.specs.Fields.{Keys}
use Rattle.model.specs.Limits.{max_bindings, max_depth}
use Rattle.model.specs.Paths.{Step, Steps}
use Rattle.model.specs.Paths as paths
use Rattle.model.specs.Tables.{Binding}
use Rattle.model.specs.Rights.{listed, first_is, admits, matches}
use Rattle.model.proofs.Lists.{by_cases, never, and_both, or-neither, all_keep, all_map, any_false, false-any, keep-yes, keep-no}
use Rattle.paths.specs.Layout.{path_in}
use Rattle.steps.specs.Steps.{step_row, names_in, by_kind, kind_of, step_in, steps_in}
use Rattle.steps.specs.Environments.{binding_row, binding_in, bindings_in}
use Rattle.steps.specs.declared.step.Kind.{Kind}
use Rattle.steps.proofs.StepRows.{step-told}
use Rattle.layout.proofs.Counts.{length-counted, counted_step, counted-over}
use Rattle.matching.specs.Parts.{decides, may_admit, is_met, asks, has_value, paired, may_match}

-- ── Whether any row of a slot passes, from the row i on ──
module _ {A : Type 0} (decode : Bytes → A) (k m : ℕ) (p : A → Bool) (s : Bytes) (i : ℕ) where
  -- a is the one at i, and r says whether it passes
  pub any_step : {a : A} {r : Bool} → i < min (get_or s 0 0) m → a ≡ decode (take k (drop (i * k + 1) s)) → r ≡ p a
      → any p (drop i (counted decode k m s)) ≡ (r || any p (drop (i + 1) (counted decode k m s)))
  unfolding any
  any_step h e t = rw (counted_step decode k m s i h, t, e)

  pub any-over : min (get_or s 0 0) m ≤ i → any p (drop i (counted decode k m s)) ≡ false
  unfolding any
  any-over h = rw (counted-over decode k m s i h)

-- ── A user's environment lines: rows of a name and a value ──
abbrev line_at : Bytes → ℕ → Bytes
line_at s i = take binding_row (drop (i * binding_row) s)

-- what is left of the lines from the row i on: none behind the last
pub lines-over : (s : Bytes) (i : ℕ) → length (in_use binding_row max_bindings s) ≤ i → drop i (bindings_in s) ≡ []
unfolding bindings_in
lines-over s i h = rows-over binding_in binding_row max_bindings s refl i h

module _ (s : Bytes) (i : ℕ) (h : i < max_bindings) (passed : i ≤ length (in_use binding_row max_bindings s)) where
  pub lines-stop : get_or s (i * binding_row) 0 ≡ 0 → drop i (bindings_in s) ≡ []
  lines-stop e = lines-over s i (used-last binding_row max_bindings s i h passed refl (byte-empty binding_row max_bindings s i (omega arith) e))

  -- a row that is not empty
  module _ (f : get_or s (i * binding_row) 0 ≡ 0 → ⊥) where
    pub line-more : i < length (in_use binding_row max_bindings s)
    line-more = used-more binding_row max_bindings s i h passed refl (byte_full binding_row max_bindings s i (omega arith) f)

    line-next : drop i (bindings_in s) ≡ binding_in (line_at s i) ∷ drop (i + 1) (bindings_in s)
    unfolding bindings_in
    line-next = row-left binding_in binding_row max_bindings s refl i line-more refl

    -- the first of them has this name and value
    pub line-first : {name value : Bytes} → name ≡ name_in (take name_row (drop (i * binding_row) s)) → value ≡ name_in (take key_row (drop (i * binding_row + name_row) s))
        → drop i (bindings_in s) ≡ record { name = name; value = value } ∷ drop (i + 1) (bindings_in s)
    unfolding binding_in
    line-first e v = line-next ∙ rw (take-take name_row binding_row (drop (i * binding_row) s) (omega arith), part-part (i * binding_row) binding_row s name_row key_row (omega arith), e, v)

-- ── What an environment step asks of the values that are listed under its name ──
unfoldable pub asked : paths.Operator → Bytes → List Bytes → Bool
asked paths.equals k vs = first_is k vs
asked paths.is_in k vs = among k vs

pub admits-listed : (bs : List Binding) (o : paths.Operator) (n k : Bytes) → admits bs (paths.environment o n) k ≡ asked o k (listed bs n)
unfolding admits asked
admits-listed bs paths.equals n k = refl
admits-listed bs paths.is_in n k = refl

-- the key is none of them
asked-absent : (o : paths.Operator) (k : Bytes) (vs : List Bytes) → among k vs ≡ false → asked o k vs ≡ false
unfolding asked first_is among any
asked-absent paths.equals k [] h = refl
asked-absent paths.equals k (v ∷ vs) h = (or-neither (k ≐ v) (among k vs) h).0
asked-absent paths.is_in k vs h = h

pub asked-none : (o : paths.Operator) (n k : Bytes) {bs : List Binding} → bs ≡ [] → asked o k (listed bs n) ≡ false
unfolding listed keep among any
asked-none o n k e = rw e (asked-absent o k [] refl)

-- an environment step that admits a key has a line with that value
pub admits-held : (bs : List Binding) (o : paths.Operator) (n k : Bytes) → has_value bs k ≡ false → admits bs (paths.environment o n) k ≡ false
unfolding has_value listed among
admits-held bs o n k h =
    let named = keep (λ (b : Binding). b.name ≐ n) bs in
    let apart = all_keep _ (λ (b : Binding). b.name ≐ n) bs (any_false (λ (b : Binding). k ≐ b.value) bs h) in
    admits-listed bs o n k
    ∙ asked-absent o k (listed bs n) (false-any (λ (v : Bytes). k ≐ v) _ (all_map (λ (v : Bytes). (k ≐ v) ≡ false) (λ (b : Binding). b.value) named apart))

-- a line with the name n or another, whose value was compared with k: it decides, or leaves the question for the lines behind it
module _ (b : Binding) (bs : List Binding) (n k : Bytes) where
  pub said-listed : (o : paths.Operator) (r : Bool) → r ≡ (k ≐ b.value) → (b.name ≐ n) ≡ true → decides o r ≡ true → asked o k (listed (b ∷ bs) n) ≡ r
  unfolding asked first_is listed among any
  said-listed paths.equals r t y d = rw (keep-yes (λ (b : Binding). b.name ≐ n) b bs y, ← t)
  said-listed paths.is_in r t y d = rw (keep-yes (λ (b : Binding). b.name ≐ n) b bs y, ← t, d)

  pub other-listed : (o : paths.Operator) → (b.name ≐ n) ≡ false → asked o k (listed (b ∷ bs) n) ≡ asked o k (listed bs n)
  unfolding listed
  other-listed o y = rw (keep-no (λ (b : Binding). b.name ≐ n) b bs y)

  pub left-listed : (o : paths.Operator) (r : Bool) → r ≡ (k ≐ b.value) → decides o r ≡ false → asked o k (listed (b ∷ bs) n) ≡ asked o k (listed bs n)
  unfolding asked listed among any
  left-listed paths.equals r t d = never d
  left-listed paths.is_in r t d = by_cases (b.name ≐ n)
      (λ y. rw (keep-yes (λ (b : Binding). b.name ≐ n) b bs y, ← t, d))
      (λ y. rw (keep-no (λ (b : Binding). b.name ≐ n) b bs y))

-- ── What a step admits: its kind k was matched with v, and the names are the part of its row behind the first byte ──
module _ (row key : Bytes) {k v : Kind} (h : k ≡ kind_of (get_or row 0 0)) (e : k ≡ v) where
  pub may-admit-told : may_admit (step_in row) key ≡ may_admit (by_kind v (names_in (take (length row - 1) (drop 1 row)))) key
  may-admit-told = rw (step-told row h e)

  pub is-met-told : (bs : List Binding) → is_met bs (step_in row) key ≡ is_met bs (by_kind v (names_in (take (length row - 1) (drop 1 row)))) key
  is-met-told bs = rw (step-told row h e)

-- a step admits a key where the key may be admitted and the lines let it be
admits-parts : (bs : List Binding) (t : Step) (k : Bytes) → admits bs t k ≡ (may_admit t k && is_met bs t k)
unfolding admits may_admit is_met
admits-parts bs (paths.names ns) k = sym (and-true (among k ns))
admits-parts bs paths.wildcard k = refl
admits-parts bs (paths.environment o n) k = refl

-- a step that does not ask the lines admits what it may admit
admits-unasked : (bs : List Binding) (t : Step) (k : Bytes) → asks t ≡ false → admits bs t k ≡ may_admit t k
unfolding asks admits may_admit
admits-unasked bs (paths.names ns) k h = refl
admits-unasked bs paths.wildcard k h = refl
admits-unasked bs (paths.environment o n) k h = never h

-- one that asks them does not admit what no line has as its value
admits-unheld : (bs : List Binding) (t : Step) (k : Bytes) → asks t ≡ true → has_value bs k ≡ false → admits bs t k ≡ false
unfolding asks
admits-unheld bs (paths.names ns) k a h = never (sym a)
admits-unheld bs paths.wildcard k a h = never (sym a)
admits-unheld bs (paths.environment o n) k a h = admits-held bs o n k h

-- ── A policy path and a field's path, from the step i on ──
module _ (test : Step → Bytes → Bool) where
  paired-lengths : (ts : Steps) (ks : Keys) → paired test ts ks ≡ true → length ts ≡ length ks
  unfolding paired
  paired-lengths [] [] h = refl
  paired-lengths [] (k ∷ ks) h = never (sym h)
  paired-lengths (t ∷ ts) [] h = never (sym h)
  paired-lengths (t ∷ ts) (k ∷ ks) h = ap suc (paired-lengths ts ks (and_both (test t k) (paired test ts ks) h).1)

  module _ (s slot : Bytes) where
    pub paired-counts : paired test (steps_in s) (path_in slot) ≡ true → min (get_or slot 0 0) max_depth ≡ min (get_or s 0 0) max_depth
    unfolding steps_in path_in
    paired-counts h =
        sym (length-counted name_in key_row max_depth slot) ∙ sym (paired-lengths (steps_in s) (path_in slot) h) ∙ length-counted step_in step_row max_depth s

    pub paired-unlike : (min (get_or slot 0 0) max_depth ≡ min (get_or s 0 0) max_depth → ⊥) → paired test (steps_in s) (path_in slot) ≡ false
    paired-unlike f = by_cases (paired test (steps_in s) (path_in slot)) (λ e. absurd (f (paired-counts e))) (λ e. e)

    module _ (i : ℕ) where
      -- the step in the row at i passes with the key at i, or not
      pub paired-step : {row key : Bytes} {r : Bool} → i < min (get_or s 0 0) max_depth → i < min (get_or slot 0 0) max_depth
          → row ≡ take step_row (drop (i * step_row + 1) s) → key ≡ name_in (take key_row (drop (i * key_row + 1) slot)) → r ≡ test (step_in row) key
          → paired test (drop i (steps_in s)) (drop i (path_in slot)) ≡ (r && paired test (drop (i + 1) (steps_in s)) (drop (i + 1) (path_in slot)))
      unfolding steps_in path_in paired
      paired-step p q e k t = rw (counted_step step_in step_row max_depth s i p, counted_step name_in key_row max_depth slot i q, t, e, k)

      pub paired-end : min (get_or s 0 0) max_depth ≤ i → min (get_or slot 0 0) max_depth ≤ i → paired test (drop i (steps_in s)) (drop i (path_in slot)) ≡ true
      unfolding steps_in path_in paired
      paired-end p q = rw (counted-over step_in step_row max_depth s i p, counted-over name_in key_row max_depth slot i q)

and-swap : (a b c d : Bool) → (a && b && (c && d)) ≡ (a && c && (b && d))
and-swap a true c d = simp (and-true, and_assoc)
and-swap a false c d = simp and-false

-- a path matches where it may match and the lines meet each step
pub matches-parts : (bs : List Binding) (ts : Steps) (ks : Keys) → matches bs ts ks ≡ (may_match ts ks && paired (is_met bs) ts ks)
unfolding matches may_match paired
matches-parts bs [] [] = refl
matches-parts bs [] (k ∷ ks) = refl
matches-parts bs (t ∷ ts) [] = refl
matches-parts bs (t ∷ ts) (k ∷ ks) =
    rw (matches-parts bs ts ks, admits-parts bs t k) (and-swap (may_admit t k) (is_met bs t k) (may_match ts ks) (paired (is_met bs) ts ks))

-- where it may not match, it does not
pub matches-not : (bs : List Binding) (ts : Steps) (ks : Keys) → may_match ts ks ≡ false → matches bs ts ks ≡ false
matches-not bs ts ks h = matches-parts bs ts ks ∙ rw h

-- where no step asks the lines, a path that may match does
pub matches-unasked : (bs : List Binding) (ts : Steps) (ks : Keys) → any asks ts ≡ false → may_match ts ks ≡ true → matches bs ts ks ≡ true
unfolding any may_match paired matches
matches-unasked bs [] [] h m = refl
matches-unasked bs [] (k ∷ ks) h m = m
matches-unasked bs (t ∷ ts) [] h m = m
matches-unasked bs (t ∷ ts) (k ∷ ks) h m =
    let no = or-neither (asks t) (any asks ts) h in
    let may = and_both (may_admit t k) (may_match ts ks) m in
    rw (admits-unasked bs t k no.0, may.0) (matches-unasked bs ts ks no.1 may.1)

-- where a step asks the lines and none has its key as the value, the path does not match
pub matches-unheld : (bs : List Binding) (ts : Steps) (ks : Keys) (i : ℕ) (z : Step) → i < length ts → asks (get_or ts i z) ≡ true → has_value bs (get_or ks i []) ≡ false
    → matches bs ts ks ≡ false
unfolding matches
matches-unheld bs [] ks i z h a v = absurd (omega arith)
matches-unheld bs (t ∷ ts) [] i z h a v = refl
matches-unheld bs (t ∷ ts) (k ∷ ks) zero z h a v = rw (admits-unheld bs t k a v)
matches-unheld bs (t ∷ ts) (k ∷ ks) (suc i) z h a v = rw (matches-unheld bs ts ks i z (omega arith) a v) (and-false (admits bs t k))
