-- A text before and behind its first byte c, by positions.
use Prim.Native.Nat.{ℕ, ◌+◌, ◌-◌, ◌≤◌, ◌<◌}
use mathlib.Core.Path.{◌≡◌, refl, ap₂, ◌∙◌}
use Rattle.std.specs.Prelude.{Option, None, Some}
use mathlib.Core.List.{[], ◌∷◌}
use lib.Dec.{eqb}
use lib.ListN.{length, take, drop}
use Rattle.rows.specs.Rows.{up_to}
use Rattle.rows.specs.Positions.{run, run_end}
use Rattle.rows.proofs.Positions.{here, over, run-part, run-rest}
use Rattle.model.specs.Base.{Bytes, ◌>>=◌, in_front, cut}
use Rattle.model.proofs.Lists.{by_cases}
use Rattle.lexical.specs.Classes.{is_not}

-- the bytes before the first c, and then the text's end or that c with what follows
cut_of : Bytes → Bytes → Option (Bytes × Bytes)
cut_of a [] = None
cut_of a (x ∷ r) = Some (a, r)

one_more : (x : ℕ) (a r : Bytes) → (cut_of a r >>= λ p. Some (in_front x p)) ≡ cut_of (x ∷ a) r
unfolding cut_of ◌>>=◌ in_front
one_more x a [] = refl
one_more x a (y ∷ r) = refl

cut-run : (c : ℕ) (s : Bytes) → cut c s ≡ cut_of (run (is_not c) s) (drop (length (run (is_not c) s)) s)
unfolding cut cut_of up_to is_not
cut-run c [] = refl
cut-run c (x ∷ s) = by_cases (eqb x c) (λ e. rw e) (λ e. rw (e, cut-run c s) (one_more x (run (is_not c) s) (drop (length (run (is_not c) s)) s)))

-- the first c from the position `at` on stands at e, or there is none
module _ (c : ℕ) (s : Bytes) (at e : ℕ) (is : e ≡ run_end (is_not c) s at) where
  cut_at : cut c (drop at s) ≡ cut_of (take (e - at) (drop at s)) (drop e s)
  cut_at = cut-run c (drop at s) ∙ ap₂ cut_of (run-part (is_not c) s at e is) (run-rest (is_not c) s at e is)

  pub cut-none : length s ≤ e → cut c (drop at s) ≡ None
  unfolding cut_of
  cut-none h = cut_at ∙ rw (over s e h)

  pub cut-here : e < length s → cut c (drop at s) ≡ Some (take (e - at) (drop at s), drop (e + 1) s)
  unfolding cut_of
  cut-here h = cut_at ∙ rw (here 0 s e h)
