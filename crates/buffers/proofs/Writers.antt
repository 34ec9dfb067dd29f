-- Texts that are written piece by piece: nothing, one behind the other, the digits of a number.
use Prim.Native.Nat.{ℕ, ◌+◌, ◌/◌, ◌%◌, ◌≤◌, ◌<◌}
use mathlib.Core.Path.{◌≡◌, refl, sym, ◌∙◌}
use mathlib.Core.List.{[], ◌∷◌, ◌++◌}
use native.Mathlib.Nat.{add-zero}
use native.Mathlib.Omega.{arith}
use lib.ListN.{length, length-append}
use Rattle.rows.specs.Rows.{Wrote}
use Rattle.rows.proofs.Writing.{written_none, written-append}
use Rattle.model.specs.Base.{Bytes, decimal}
use Rattle.model.proofs.Reading.{decimal-one, decimal-more}

-- no text is written
pub wrote_none : (at : ℕ) (o : Bytes) → Wrote at [] o at o
wrote_none at o = (sym (add-zero at), sym (written_none at o))

-- one text and then another are both
pub wrote-both : (at m e : ℕ) (xs ys o p q : Bytes) → Wrote at xs o m p → Wrote m ys p e q → Wrote at (xs ++ ys) o e q
wrote-both at m e xs ys o p q a b =
    (omega (arith, length-append xs ys), b.1 ∙ rw (a.0, a.1) (written-append at xs ys o))

-- ── A number in decimal ──
module _ (at e n : ℕ) (o q : Bytes) where
  pub wrote_one : n < 10 → Wrote at ((48 + n % 10) ∷ []) o e q → Wrote at (decimal n) o e q
  wrote_one h w = let r : n % 10 ≡ n = omega arith in rw (decimal-one n h) (rw r at w)

  pub wrote-more : (m : ℕ) (p : Bytes) → 10 ≤ n → Wrote at (decimal (n / 10)) o m p → Wrote m ((48 + n % 10) ∷ []) p e q
      → Wrote at (decimal n) o e q
  wrote-more m p h v w = rw (decimal-more n h) (wrote-both at m e _ _ o p q v w)

pub digits-one : (n : ℕ) → n < 10 → length (decimal n) ≡ 1
digits-one n h = rw (decimal-one n h) refl

pub digits_more : (n : ℕ) → 10 ≤ n → length (decimal n) ≡ length (decimal (n / 10)) + 1
digits_more n h = rw (decimal-more n h, length-append (decimal (n / 10)) _) refl
