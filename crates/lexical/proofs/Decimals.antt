-- Reading a number digit by digit: n is the number so far, and the digits that are left decide.
use Rattle.std.specs.Prelude.{if◌then◌else◌}
use Prim.Native.Nat.{ℕ, ◌+◌, ◌-◌, ◌*◌, ◌≤◌, ◌<◌}
use mathlib.Core.Path.{◌≡◌, refl, sym}
use Rattle.std.specs.Prelude.{Option, None, Some}
use mathlib.Core.Bool.{Bool, true, false, ◌&&◌}
use mathlib.Core.List.{[], ◌∷◌}
use native.Mathlib.Omega.{arith}
use lib.Dec.{leb}
use lib.ListN.{length, get_or, drop}
use borrow.Author.Tests.{leb-true, leb-false, le-leb, lt-leb}
use Rattle.rows.proofs.Positions.{here, over}
use Rattle.model.specs.Base.{Bytes, all, within, is_digit, worth, is_decimal, number}
use Rattle.model.proofs.Lists.{by_cases, and_both, none-some}
use Rattle.model.proofs.Reading.{some_same}

-- what a number is worth, where all that is left are digits and it is at most m
unfoldable pub counted : ℕ → ℕ → Bytes → Option ℕ
counted m n ds = if all is_digit ds && leb (worth n ds) m then Some (worth n ds) else None

and-true : (b : Bool) → (b && true) ≡ b
and-true true = refl
and-true false = refl

and-false : (b : Bool) → (b && false) ≡ false
and-false true = refl
and-false false = refl

-- digits only make a number greater
worth-more : (n : ℕ) (ds : Bytes) → n ≤ worth n ds
unfolding worth
worth-more n [] = omega arith
worth-more n (d ∷ ds) = omega (arith, worth-more (n * 10 + (d - 48)) ds)

-- ── One step at the position i ──
module _ (m n : ℕ) (s : Bytes) (i : ℕ) where
  pub counted_step : i < length s → is_digit (get_or s i 0) ≡ true → counted m n (drop i s) ≡ counted m (n * 10 + (get_or s i 0 - 48)) (drop (i + 1) s)
  unfolding counted all worth
  counted_step h e = rw (here 0 s i h, e)

  pub counted_stop : i < length s → is_digit (get_or s i 0) ≡ false → counted m n (drop i s) ≡ None
  unfolding counted all
  counted_stop h e = rw (here 0 s i h, e)

  pub counted-end : length s ≤ i → n ≤ m → counted m n (drop i s) ≡ Some n
  unfolding counted all worth
  counted-end h k = rw (over s i h, le-leb n m k)

-- beyond the most there is no number, whatever follows
pub counted-past : (m n : ℕ) (ds : Bytes) → m < n → counted m n ds ≡ None
unfolding counted
counted-past m n ds h = rw (lt-leb (worth n ds) m (omega (arith, worth-more n ds)), and-false)

-- ── Which texts are decimal ──
-- a digit that is no zero
first-digit : (d : ℕ) → (d ≡ 48 → ⊥) → within 49 57 d ≡ is_digit d
unfolding within is_digit
first-digit d h = by_cases (leb 48 d)
    (λ e. rw (e, le-leb 49 d (omega (arith, leb-true 48 d e))))
    (λ e. rw (e, lt-leb 49 d (omega (arith, leb-false 48 d e))))

-- not empty, and no zero before another digit: each is a digit
decimal-plain : (s : Bytes) → 0 < length s → (get_or s 0 0 ≡ 48 → length s ≤ 1) → is_decimal s ≡ all is_digit s
unfolding is_decimal all
decimal-plain [] h k = absurd (omega arith)
decimal-plain (d ∷ []) h k = sym (and-true (is_digit d))
decimal-plain (d ∷ e ∷ ds) h k = rw (first-digit d (λ z. absurd (omega (arith, k z))))

decimal-padded : (s : Bytes) → get_or s 0 0 ≡ 48 → 1 < length s → is_decimal s ≡ false
unfolding is_decimal within
decimal-padded [] h k = absurd (omega arith)
decimal-padded (d ∷ []) h k = absurd (omega arith)
decimal-padded (d ∷ e ∷ ds) h k = rw h

-- ── A number, from its first byte ──
module _ (m : ℕ) (s : Bytes) where
  pub number-empty : length s ≡ 0 → number m s ≡ None
  unfolding number is_decimal
  number-empty h = rw (nothing s h)
    where
      nothing : (s : Bytes) → length s ≡ 0 → s ≡ []
      nothing [] h = refl
      nothing (d ∷ s) h = absurd (omega arith)

  pub number-padded : get_or s 0 0 ≡ 48 → 1 < length s → number m s ≡ None
  unfolding number
  number-padded h k = rw (decimal-padded s h k)

  pub number-plain : 0 < length s → (get_or s 0 0 ≡ 48 → length s ≤ 1) → number m s ≡ counted m 0 s
  unfolding number counted
  number-plain h k = rw (decimal-plain s h k)

  -- what an answer says
  pub number-some : (n : ℕ) → number m s ≡ Some n → (is_decimal s ≡ true) × (worth 0 s ≡ n) × (n ≤ m)
  unfolding number
  number-some n h = by_cases (is_decimal s && leb (worth 0 s) m)
      (λ e. let (d, l) = and_both _ _ e in
      let w = some_same (rw e at h) in
      (d, w, omega (arith, leb-true (worth 0 s) m l)))
      (λ e. none-some (rw e at h))

  pub number-none : number m s ≡ None → (is_decimal s && leb (worth 0 s) m) ≡ false
  unfolding number
  number-none h = by_cases (is_decimal s && leb (worth 0 s) m) (λ e. none-some (sym (rw e at h))) (λ e. e)
