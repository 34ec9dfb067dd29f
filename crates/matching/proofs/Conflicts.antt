-- Steps that overlap, what is left of two paths in conflict from a place on, and what their lengths say.
use Prim.Native.Nat.{ℕ, ◌+◌, ◌*◌, ◌-◌, ◌≤◌, ◌<◌, min}
use mathlib.Core.Path.{◌≡◌, refl, ◌∙◌}
use mathlib.Core.Bool.{Bool, true, false, ◌&&◌, and-false, or-false}
use mathlib.Core.List.{List, [], ◌∷◌}
use native.Mathlib.Omega.{arith}
use lib.ListN.{length, get_or, take, drop}
use Rattle.model.specs.Limits.{max_depth}
use Rattle.model.specs.Base.{Bytes, any, among}
use Rattle.model.specs.Paths.{Step, Steps, names, wildcard, environment}
use Rattle.model.specs.Rights.{overlap, is_above, conflict}
use Rattle.steps.specs.Steps.{step_row, names_in, by_kind, kind_of, step_in, steps_in}
use Rattle.steps.specs.declared.step.Kind.{Kind}
use Rattle.steps.specs.declared.step.Kind.TheVariants.{Names, Wildcard, Environment}
use Rattle.steps.proofs.StepRows.{step-told}
use Rattle.layout.proofs.Counts.{length-counted, counted_step, counted-over}

-- ── A step of another kind than a list of names overlaps every step ──
-- what the code's `else` tells of a kind
abbrev NoNames : Kind → Type 0
NoNames k = k ≡ Names → ⊥

kind-left : (k : Kind) (ns : List Bytes) (t : Step) → NoNames k → overlap (by_kind k ns) t ≡ true
unfolding overlap
kind-left Names ns t o = absurd (o refl)
kind-left Wildcard ns t o = refl
kind-left (Environment x) ns t o = refl

kind-right : (t : Step) (k : Kind) (ns : List Bytes) → NoNames k → overlap t (by_kind k ns) ≡ true
unfolding overlap
kind-right (names a) Names ns o = absurd (o refl)
kind-right (names a) Wildcard ns o = refl
kind-right (names a) (Environment x) ns o = refl
kind-right wildcard k ns o = refl
kind-right (environment x n) k ns o = refl

-- the same of the steps in the rows x and y
module _ (x y : Bytes) where
  pub overlap-left : {k : Kind} → k ≡ kind_of (get_or x 0 0) → NoNames k → overlap (step_in x) (step_in y) ≡ true
  unfolding step_in
  overlap-left h o = kind-left (kind_of (get_or x 0 0)) (names_in (drop 1 x)) (step_in y) (rw h at o)

  pub overlap-right : {k : Kind} → k ≡ kind_of (get_or y 0 0) → NoNames k → overlap (step_in x) (step_in y) ≡ true
  unfolding step_in
  overlap-right h o = kind-right (step_in x) (kind_of (get_or y 0 0)) (names_in (drop 1 y)) (rw h at o)

  -- both are lists of names, which are the parts behind the first bytes
  pub overlap-names : {j k : Kind} → j ≡ kind_of (get_or x 0 0) → j ≡ Names → k ≡ kind_of (get_or y 0 0) → k ≡ Names
      → overlap (step_in x) (step_in y) ≡ any (λ n. among n (names_in (take (length y - 1) (drop 1 y)))) (names_in (take (length x - 1) (drop 1 x)))
  unfolding overlap
  overlap-names h e i f = rw (step-told x h e, step-told y i f)

-- ── Whether a path is above another, from the step i on ──
module _ (a b : Bytes) (i : ℕ) where
  -- the steps in the rows x and y at i overlap, or not
  pub above_step : {x y : Bytes} {r : Bool} → i < min (get_or a 0 0) max_depth → i < min (get_or b 0 0) max_depth
      → x ≡ take step_row (drop (i * step_row + 1) a) → y ≡ take step_row (drop (i * step_row + 1) b) → r ≡ overlap (step_in x) (step_in y)
      → is_above (drop i (steps_in a)) (drop i (steps_in b)) ≡ (r && is_above (drop (i + 1) (steps_in a)) (drop (i + 1) (steps_in b)))
  unfolding steps_in is_above
  above_step p q e f t = rw (counted_step step_in step_row max_depth a i p, counted_step step_in step_row max_depth b i q, t, e, f)

  -- the first ends, and the second goes on
  pub above-end : min (get_or a 0 0) max_depth ≤ i → i < min (get_or b 0 0) max_depth → is_above (drop i (steps_in a)) (drop i (steps_in b)) ≡ true
  unfolding steps_in is_above
  above-end p q = rw (counted-over step_in step_row max_depth a i p, counted_step step_in step_row max_depth b i q)

-- ── Only a shorter path is above another ──
not-above : (p q : Steps) → length q ≤ length p → is_above p q ≡ false
unfolding is_above
not-above [] [] h = refl
not-above [] (u ∷ q) h = absurd (omega arith)
not-above (t ∷ p) [] h = refl
not-above (t ∷ p) (u ∷ q) h = rw (not-above p q (omega arith)) (and-false (overlap t u))

longer-not-above : (a b : Bytes) → min (get_or b 0 0) max_depth ≤ min (get_or a 0 0) max_depth → is_above (steps_in a) (steps_in b) ≡ false
unfolding steps_in
longer-not-above a b h = not-above (steps_in a) (steps_in b) (simp length-counted h)

-- so the lengths say which of two paths can be above the other
module _ (a b : Bytes) where
  pub conflict-shorter : min (get_or a 0 0) max_depth < min (get_or b 0 0) max_depth → conflict (steps_in a) (steps_in b) ≡ is_above (steps_in a) (steps_in b)
  unfolding conflict
  conflict-shorter h = rw (longer-not-above b a (omega arith)) (or-false (is_above (steps_in a) (steps_in b)))

  pub conflict-longer : min (get_or b 0 0) max_depth ≤ min (get_or a 0 0) max_depth → conflict (steps_in a) (steps_in b) ≡ is_above (steps_in b) (steps_in a)
  unfolding conflict
  conflict-longer h = rw (longer-not-above a b h)

  pub conflict-equal : min (get_or a 0 0) max_depth ≡ min (get_or b 0 0) max_depth → conflict (steps_in a) (steps_in b) ≡ false
  conflict-equal h = conflict-longer (omega arith) ∙ longer-not-above b a (omega arith)
