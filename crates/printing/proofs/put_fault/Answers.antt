use Prim.Native.Nat.{ℕ, ◌≤◌, ◌<◌, ◌^◌}
use native.Mathlib.Omega.{arith}
use lib.ListN.{length}
use Rattle.model.specs.Base.{text, decimal}
use Rattle.buffers.proofs.Writers.{wrote-both}
use Rattle.printing.specs.Printed.{most_digits}
use Rattle.printing.proofs.Pieces.{usize-length, fault-pieces}
use Rattle.printing.proofs.put_fault.Goals as goal

-- The seven pieces of a fault's line are written one behind the other.

-- the three numbers are short
short : (n t l : ℕ) → n < 2 ^ 64 → t < 2 ^ 64 → l < 2 ^ 64
    → (length (decimal n) ≤ most_digits) × (length (decimal t) ≤ most_digits) × (length (decimal l) ≤ most_digits)
short n t l hn ht hl = (usize-length n hn, usize-length t ht, usize-length l hl)

pub put_decimal-to-requires : goal.put_decimal-to-requires
put_decimal-to-requires c = let d = short _ _ _ c.ranges.number.fits c.ranges.text.fits c.ranges.line.fits in omega arith

pub put_byte-to-requires : goal.put_byte-to-requires
put_byte-to-requires c = let d = short _ _ _ c.ranges.number.fits c.ranges.text.fits c.ranges.line.fits in omega arith

pub put_decimal-to-requires-2 : goal.put_decimal-to-requires-2
put_decimal-to-requires-2 c = let d = short _ _ _ c.ranges.number.fits c.ranges.text.fits c.ranges.line.fits in omega arith

pub put_byte-to-requires-2 : goal.put_byte-to-requires-2
put_byte-to-requires-2 c = let d = short _ _ _ c.ranges.number.fits c.ranges.text.fits c.ranges.line.fits in omega arith

pub put_decimal-to-requires-3 : goal.put_decimal-to-requires-3
put_decimal-to-requires-3 c = let d = short _ _ _ c.ranges.number.fits c.ranges.text.fits c.ranges.line.fits in omega arith

pub put_byte-requires : goal.put_byte-requires
put_byte-requires c = let d = short _ _ _ c.ranges.number.fits c.ranges.text.fits c.ranges.line.fits in omega arith

pub returns : goal.returns
unfolding text
returns c =
    let end = wrote-both _ _ _ _ _ _ _ _ c.put_decimal-to-3.ensures c.put_byte.ensures in
    let line = wrote-both _ _ _ _ _ _ _ _ c.put_byte-to-2.ensures end in
    let place = wrote-both _ _ _ _ _ _ _ _ c.put_decimal-to-2.ensures line in
    let rest = wrote-both _ _ _ _ _ _ _ _ c.put_byte-to.ensures place in
    let behind = wrote-both _ _ _ _ _ _ _ _ c.put_decimal-to.ensures rest in
    let d = short _ _ _ c.ranges.number.fits c.ranges.text.fits c.ranges.line.fits in
    record { wrote = rw fault-pieces (wrote-both _ _ _ _ _ _ _ _ c.put-to.ensures behind); upper_bound = omega arith }
