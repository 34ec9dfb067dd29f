-- A class of bytes that the code decides by a `match`: the class is computed at each number of an arm.
use Prim.Native.Nat.{ℕ, suc, ◌-◌, ◌≤◌}
use mathlib.Core.Path.{◌≡◌, sym, ◌∙◌}
use mathlib.Core.Bool.{Bool, true, false, not, ◌&&◌}
use mathlib.Core.List.{List, [], ◌∷◌}
use mathlib.Core.Logic.{inl, inr, ⊎_elim}
use native.Mathlib.Omega.{arith}
use mir.Val.{has_key}
use types.Run.{OneOf, hit}
use borrow.Author.Tests.{not-false}
use Rattle.model.specs.Base.{any, range}
use Rattle.model.proofs.Lists.{by_cases, never, or-neither, any-range}

-- the class p does not answer v at x
abbrev pub differs : (ℕ → Bool) → Bool → ℕ → Bool
differs p true x = not (p x)
differs p false x = p x

agrees : (p : ℕ → Bool) (v : Bool) (x : ℕ) → differs p v x ≡ false → v ≡ p x
agrees p true x h = sym (not-false (p x) h)
agrees p false x h = sym h

-- an arm of single numbers
pub keyed : (p : ℕ → Bool) (v : Bool) (ks : List ℕ) → any (differs p v) ks ≡ false → (b : ℕ) → OneOf ks b → v ≡ p b
unfolding any
keyed p v [] t b h = absurd h
keyed p v (k ∷ []) t b e = rw e (agrees p v k (or-neither (differs p v k) false t).0)
keyed p v (k ∷ j ∷ ks) t b (inl e) = rw e (agrees p v k (or-neither (differs p v k) _ t).0)
keyed p v (k ∷ j ∷ ks) t b (inr h) = keyed p v (j ∷ ks) (or-neither (differs p v k) _ t).1 b h

-- an arm of the numbers from lo to hi, where the single numbers of an earlier arm are left out
pub clear : (p : ℕ → Bool) (v : Bool) (ks : List ℕ) (lo hi : ℕ) → any (λ x. not (has_key ks x) && differs p v x) (range lo (suc hi - lo)) ≡ false
    → (b : ℕ) → lo ≤ b → b ≤ hi → (OneOf ks b → ⊥) → v ≡ p b
clear p v ks lo hi t b l h f = by_cases (has_key ks b)
    (λ e. absurd (f (hit ks b (rw e tt))))
    (λ e. by_cases (differs p v b)
    (λ d. never (sym (any-range _ lo (suc hi - lo) b l (omega arith) (rw (e, d))) ∙ t))
    (λ d. agrees p v b d))

-- the numbers of four arms of one number each, all left out
pub apart : {i j k l b : ℕ} → (((Unit {0} × (OneOf (i ∷ []) b → ⊥)) × (OneOf (j ∷ []) b → ⊥)) × (OneOf (k ∷ []) b → ⊥)) × (OneOf (l ∷ []) b → ⊥)
    → OneOf (i ∷ j ∷ k ∷ l ∷ []) b → ⊥
apart f = ⊎_elim f.0.0.0.1 (⊎_elim f.0.0.1 (⊎_elim f.0.1 f.1))
