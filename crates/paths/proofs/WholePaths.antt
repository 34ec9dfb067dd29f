-- A path that is the whole text, whatever its steps are: what a loop that reads it has left at a position.
use Prim.Native.Nat.{ℕ, zero, suc, ◌-◌, ◌≤◌, ◌<◌}
use mathlib.Core.Path.{◌≡◌, refl, ◌∙◌}
use mathlib.Core.Bool.{true, false}
use Rattle.std.specs.Prelude.{Option, None, Some}
use mathlib.Core.List.{List, [], ◌∷◌, ◌++◌}
use native.Mathlib.Omega.{arith}
use borrow.Author.Tests.{le-leb}
use lib.Dec.{leb}
use lib.ListN.{length, drop, length-append}
use Rattle.rows.specs.Positions.{Reader, Reads}
use Rattle.rows.proofs.Positions.{here, over}
use Rattle.model.specs.Base.{Bytes, text, is_some, ◌>>=◌, ◌>>◌, check, after}
use Rattle.model.specs.Limits.{max_depth}
use Rattle.model.specs.Paths.{read_all, read_path}
use Rattle.lexical.proofs.Runs.{bind-same, bind-bind}
use Rattle.lexical.proofs.Slices.{after-yes, after-no}

module _ {A : Type 0} (one : Reader ℕ A) where
  -- what is read of the rest of a text, behind the steps p
  unfoldable pub left : List A → Bytes → Option (List A)
  left p s = read_all one (max_depth - length p) p s >>= λ q. check (leb 1 (length q)) >> Some q

  pub path-unopened : (s : Bytes) → is_some (after (0x24 ∷ []) s) ≡ false → read_path one s ≡ None
  unfolding read_path text ◌>>=◌
  path-unopened s h = rw (after-no (0x24 ∷ []) s h)

  pub path-opened : (s : Bytes) → is_some (after (0x24 ∷ []) s) ≡ true → read_path one s ≡ left [] (drop 1 s)
  unfolding read_path left text ◌>>=◌
  path-opened s h = rw (after-yes (0x24 ∷ []) s h).0

  -- where nothing is left, those that were read are all
  all_end : (k : ℕ) (p : List A) → read_all one k p [] ≡ Some p
  unfolding read_all
  all_end zero p = refl
  all_end (suc k) p = refl

  module _ (s : Bytes) (at : ℕ) (p : List A) where
    pub left-full : at < length s → max_depth ≤ length p → left p (drop at s) ≡ None
    unfolding left read_all ◌>>=◌
    left-full h f = let z : max_depth - length p ≡ zero = omega arith in rw (z, here 0 s at h)

    -- the text is at its end: a path has one step at least
    pub left-none : length s ≤ at → length p ≡ 0 → left p (drop at s) ≡ None
    unfolding left ◌>>=◌ ◌>>◌ check
    left-none h z = rw (over s at h, all_end, z)

    pub left-all : length s ≤ at → (length p ≡ 0 → ⊥) → left p (drop at s) ≡ Some p
    unfolding left ◌>>=◌ ◌>>◌ check
    left-all h f = rw (over s at h, all_end, le-leb 1 (length p) (omega (arith, f)))

    -- where there is a next step and room for it
    module _ (h : at < length s) (f : length p < max_depth) where
      all-next : (k : ℕ) → read_all one (suc k) p (drop at s) ≡ (one (drop at s) >>= λ t. read_all one k (p ++ t.0 ∷ []) t.1)
      unfolding read_all
      all-next k = rw (here 0 s at h)

      left-next : left p (drop at s) ≡ (one (drop at s) >>= λ t. left (p ++ t.0 ∷ []) t.1)
      unfolding left
      left-next =
          let z : max_depth - length p ≡ suc (max_depth - suc (length p)) = omega arith in
          rw (z, all-next, bind-bind) (bind-same (one (drop at s)) _ _ (λ t.
          let n : length (p ++ t.0 ∷ []) ≡ suc (length p) = rw length-append (omega arith) in rw n))

      pub left-bad : one (drop at s) ≡ None → left p (drop at s) ≡ None
      unfolding ◌>>=◌
      left-bad n = left-next ∙ rw n

      pub left_step : (a : A) (e : ℕ) → Reads one s at a e → left p (drop at s) ≡ left (p ++ a ∷ []) (drop e s)
      unfolding ◌>>=◌
      left_step a e r = left-next ∙ rw r.is
