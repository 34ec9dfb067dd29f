use native.Mathlib.Omega.{arith}
use Rattle.model.specs.Base.{text}
use Rattle.buffers.proofs.Writers.{wrote-both}
use Rattle.printing.proofs.Pieces.{usize-length}
use Rattle.printing.proofs.put_numbered.Goals as goal

-- The three pieces of the line are written one behind the other.

pub put_decimal-to-requires : goal.put_decimal-to-requires
put_decimal-to-requires c =
    let d = usize-length c.args.n c.ranges.n.fits in
    omega arith

pub put_byte-requires : goal.put_byte-requires
put_byte-requires c =
    let d = usize-length c.args.n c.ranges.n.fits in
    omega arith

pub returns : goal.returns
unfolding text
returns c =
    let d = usize-length c.args.n c.ranges.n.fits in
    let end = wrote-both _ _ _ _ _ _ _ _ c.put_decimal-to.ensures c.put_byte.ensures in
    record { wrote = wrote-both _ _ _ _ _ _ _ _ c.put-to.ensures end; upper_bound = omega arith }
