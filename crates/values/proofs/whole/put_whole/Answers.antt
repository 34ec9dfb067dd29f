use native.Mathlib.Omega.{arith}
use Rattle.model.specs.Base.{text}
use Rattle.model.proofs.Reading.{decimal-length}
use Rattle.buffers.proofs.Writers.{wrote-both}
use Rattle.values.proofs.Wholes.{below_zero, from_zero}
use Rattle.values.proofs.whole.put_whole.Goals as goal

-- The sign, where there is one, and the digits of the size, which are ten at most.

pub put_decimal-requires : goal.put_decimal-requires
put_decimal-requires c = omega (arith, decimal-length c.unsigned_abs-size.result 9 (omega arith))

pub returns-then-z-lt0 : goal.returns-then-z-lt0
unfolding text
returns-then-z-lt0 c =
    rw (below_zero _ c.ranges.z c.if-z-lt0.true, ← c.unsigned_abs-size.ensures.value)
    (wrote-both _ _ _ _ _ _ _ _ c.put_byte-to.ensures c.put_decimal.ensures)

pub put_decimal-requires-2 : goal.put_decimal-requires-2
put_decimal-requires-2 c = omega (arith, decimal-length c.unsigned_abs-size.result 9 (omega arith))

pub returns : goal.returns
returns c = rw (from_zero _ c.ranges.z c.if-z-lt0.false, ← c.unsigned_abs-size.ensures.value) c.put_decimal-2.ensures
