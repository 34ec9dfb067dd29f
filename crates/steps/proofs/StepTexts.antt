-- The texts of a policy path: names with commas between, a step, and how long they are.
use Prim.Native.Nat.{ℕ, zero, suc, ◌+◌, ◌*◌, ◌≤◌, ◌<◌, min}
use mathlib.Core.Path.{◌≡◌, refl, sym, ap, ◌∙◌}
use mathlib.Core.List.{List, [], ◌∷◌, ◌++◌, map, map-map, map-append, append_assoc}
use native.Mathlib.Nat.{mul-le-mul_right}
use native.Mathlib.Omega.{arith}
use lib.Dec.{ltb}
use lib.ListN.{length, get_or, take, drop, length-take, length-append, length-map, get_or-eq_default}
use borrow.Author.Tests.{ltb-true, ltb-false}
use Rattle.model.specs.Base.{Bytes, text, between}
use Rattle.model.specs.Paths.{Operator, equals, is_in, operator_text, name_text, step_text}
use Rattle.model.proofs.Lists.{by_cases}
use Rattle.layout.specs.Layout.{key_row, name_in, counted_rows, counted}
use Rattle.steps.specs.declared.step.Operator.TheVariants.{Equals, In}
use Rattle.steps.specs.declared.step.Kind.{Kind}
use Rattle.steps.specs.declared.step.Kind.TheVariants.{Names, Wildcard, Environment}
use Rattle.steps.specs.Steps.{spelled_step, names_in, by_kind, kind_of, step_in}
use Rattle.layout.proofs.Counts.{length-rows-counted, counted-short, length-counted, counted-at, counted-more, counted-all}
use Rattle.layout.proofs.Named.{name-length}
use Rattle.steps.proofs.StepRows.{step-told}
use Rattle.model.specs.Limits.{max_key, max_listed}

-- ── Texts with a text between each two ──
-- what stands before the text at the place i: nothing before the first
abbrev pub divider : Bytes → ℕ → Bytes
divider c zero = []
divider c (suc i) = c

module _ (c : Bytes) where
  pub divider-some : (i : ℕ) → 0 < i → divider c i ≡ c
  divider-some zero h = absurd (omega arith)
  divider-some (suc i) h = refl

  pub divider-none : (i : ℕ) → i ≤ 0 → divider c i ≡ []
  divider-none zero h = refl
  divider-none (suc i) h = absurd (omega arith)

  regroup : (y b d x : Bytes) → y ++ (c ++ (b ++ d ++ x)) ≡ y ++ (c ++ b) ++ d ++ x
  regroup y b d x = simp append_assoc

  -- one text more
  between_more : (xs : List Bytes) (x : Bytes) → between c (xs ++ x ∷ []) ≡ between c xs ++ divider c (length xs) ++ x
  unfolding between
  between_more [] x = refl
  between_more (y ∷ []) x = sym (append_assoc y c x)
  between_more (y ∷ (z ∷ xs)) x = ap (λ (r : Bytes). y ++ (c ++ r)) (between_more (z ∷ xs) x) ∙ regroup y (between c (z ∷ xs)) c x

-- where each, with what stands between, has at most b bytes
module _ (c : Bytes) (b : ℕ) (spell : Bytes → Bytes) (short : (r : Bytes) → length (spell r) + length c ≤ b) where
  between-length : (rs : List Bytes) → length (between c (map spell rs)) ≤ length rs * b
  unfolding between
  between-length [] = omega arith
  between-length (r ∷ []) = omega (arith, short r)
  between-length (r ∷ (s ∷ rs)) = simp length-append (omega (arith, short r, between-length (s ∷ rs)))

-- ── Names ──
-- in single quotes with commas between
unfoldable pub spelled_names : List Bytes → Bytes
spelled_names ns = between (text ",") (map name_text ns)

-- the first i of the names in a slot, and one more
pub names-step : (s : Bytes) (i : ℕ) → i < min (get_or s 0 0) max_listed
    → spelled_names (take (i + 1) (names_in s))
    ≡ spelled_names (take i (names_in s)) ++ divider (text ",") i ++ name_text (name_in (take key_row (drop (i * key_row + 1) s)))
unfolding spelled_names names_in
names-step s i h =
    let ns = counted name_in key_row max_listed s in
    let l : i < length ns = rw length-counted h in
    let n : length (map name_text (take i ns)) ≡ i = simp (length-map, length-take) (omega arith) in
    rw (counted-more name_in key_row max_listed s i h, map-append, between_more, n)

-- all of them
pub names-all : (s : Bytes) (i : ℕ) → min (get_or s 0 0) max_listed ≤ i → take i (names_in s) ≡ names_in s
unfolding names_in
names-all s i h = counted-all name_in key_row max_listed s i h

-- the names of a step, in quotes, with commas between
pub names-length : (s : Bytes) → length (spelled_names (names_in s)) ≤ max_listed * (max_key + 3)
unfolding spelled_names names_in counted name_text text
names-length s =
    let rs = counted_rows key_row max_listed s in
    let l : length rs ≤ max_listed = omega (arith, length-rows-counted key_row max_listed s) in
    rw (counted-short name_in key_row max_listed s, map-map name_text (λ r. name_in (take key_row r)))
    (omega (arith, between-length (text ",") (max_key + 3) (λ r. name_text (name_in (take key_row r))) short rs, mul-le-mul_right (max_key + 3) l))
  where
    short : (r : Bytes) → length (name_text (name_in (take key_row r))) + length (text ",") ≤ (max_key + 3)
    short r = simp length-append (omega (arith, name-length max_key (take key_row r) refl (simp length-take (omega arith))))

-- the first of them, if there is one
module _ (s : Bytes) where
  pub first-name : 0 < min (get_or s 0 0) max_listed → get_or (names_in s) 0 [] ≡ name_in (take key_row (drop 1 s))
  unfolding names_in
  first-name h = counted-at name_in key_row max_listed s 0 [] h

  pub first-none : min (get_or s 0 0) max_listed ≤ 0 → get_or (names_in s) 0 [] ≡ []
  unfolding names_in
  first-none h = get_or-eq_default (counted name_in key_row max_listed s) [] (rw length-counted h)

  pub first-length : length (get_or (names_in s) 0 []) ≤ max_key
  first-length = by_cases (ltb 0 (min (get_or s 0 0) max_listed))
      (λ e. name-length max_key _ (first-name (ltb-true _ _ e)) (simp length-take (omega arith)))
      (λ e. rw (first-none (ltb-false _ _ e)) (omega arith))

-- ── Steps ──
-- the word of an operator has at most 3 bytes
pub operator-length : (o : Operator) → length (operator_text o) ≤ 3
unfolding operator_text text
operator-length equals = omega arith
operator-length is_in = omega arith

-- a step is longest where it has four names
kind-length : (k : Kind) (s : Bytes) → length (step_text (by_kind k (names_in s))) ≤ spelled_step
unfolding step_text operator_text text
kind-length Names s = unfold spelled_names in simp length-append (omega (arith, names-length s))
kind-length Wildcard s = omega arith
kind-length (Environment Equals) s = simp length-append (omega (arith, first-length s))
kind-length (Environment In) s = simp length-append (omega (arith, first-length s))

pub step-length : (row : Bytes) → length (step_text (step_in row)) ≤ spelled_step
step-length row = rw (step-told row refl refl) (kind-length (kind_of (get_or row 0 0)) _)
