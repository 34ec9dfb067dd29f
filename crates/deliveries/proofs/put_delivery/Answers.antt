use native.Mathlib.Omega.{arith}
use Rattle.model.specs.Base.{text}
use Rattle.buffers.proofs.Writers.{wrote-both}
use Rattle.deliveries.proofs.Delivered.{number-length, delivery-pieces}
use Rattle.deliveries.proofs.put_delivery.Goals as goal

-- The five pieces of the line are written one behind the other; the number has at most ten digits.

pub put_decimal-to-requires : goal.put_decimal-to-requires
put_decimal-to-requires c =
    let d = number-length c.ranges.n in
    omega arith

pub put_byte-to-requires : goal.put_byte-to-requires
put_byte-to-requires c =
    let d = number-length c.ranges.n in
    omega arith

pub put-to-requires-2 : goal.put-to-requires-2
put-to-requires-2 c =
    let d = number-length c.ranges.n in
    omega arith

pub put_byte-requires : goal.put_byte-requires
put_byte-requires c =
    let d = number-length c.ranges.n in
    omega arith

pub returns : goal.returns
unfolding text
returns c =
    let d = number-length c.ranges.n in
    let end = wrote-both _ _ _ _ _ _ _ _ c.put-to-2.ensures c.put_byte.ensures in
    let part = wrote-both _ _ _ _ _ _ _ _ c.put_byte-to.ensures end in
    let rest = wrote-both _ _ _ _ _ _ _ _ c.put_decimal-to.ensures part in
    record { wrote = rw delivery-pieces (wrote-both _ _ _ _ _ _ _ _ c.put-to.ensures rest); upper_bound = omega arith }
