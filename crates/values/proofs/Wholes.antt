-- An i32 written by its sign and the digits of its size.
use mathlib.Core.Path.{◌≡◌}
use mathlib.Core.Bool.{true, false, true≢false}
use mathlib.Core.List.{◌++◌}
use native.Mathlib.Omega.{arith}
use borrow.Author.Tests.{ltb-true}
use lib.IntN.{ℤ, pos, negsuc, nat_abs}
use lib.Signed.{lt_z}
use mir.Syntax.{w32}
use mir.Val.{SFits, to_z, of_z}
use mir.Facts.{to_z-of_z}
use Rattle.model.specs.Base.{text, decimal}
use Rattle.model.specs.Values.{whole, value_text}

pub below_zero : (z : ℤ) → SFits w32 z → lt_z (to_z w32 (of_z w32 z)) (pos 0) ≡ true → value_text (whole z) ≡ text "-" ++ decimal (nat_abs (to_z w32 (of_z w32 z)))
unfolding value_text
below_zero (pos n) f l = absurd (omega (arith, ltb-true n 0 (rw (to_z-of_z f) at l)))
below_zero (negsuc n) f l = rw (to_z-of_z f)

pub from_zero : (z : ℤ) → SFits w32 z → lt_z (to_z w32 (of_z w32 z)) (pos 0) ≡ false → value_text (whole z) ≡ decimal (nat_abs (to_z w32 (of_z w32 z)))
unfolding value_text
from_zero (pos n) f l = rw (to_z-of_z f)
from_zero (negsuc n) f l = absurd (true≢false (rw (to_z-of_z f) at l))
