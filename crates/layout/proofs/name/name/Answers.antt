use native.Mathlib.Omega.{arith}
use native.Mathlib.Nat.{add-sub_cancel_left}
use lib.ListN.{get_or, drop, length-drop}
use Rattle.rows.proofs.Writing.{take-clipped}
use Rattle.layout.specs.Layout.{name_in}
use Rattle.layout.proofs.name.name.Goals as goal

-- The part behind the first byte, of as many bytes as that says or as there are.

pub overflow_cast-row : goal.overflow_cast-row
overflow_cast-row c = omega (arith, c.shared_slice_known-2-1.given 0)

pub returns : goal.returns
unfolding name_in
returns c =
    let row = c.args.row.now in
    rw add-sub_cancel_left (take-clipped (get_or row 0 0) c.min-end.result (drop 1 row) (omega (arith, c.min-end.ensures, length-drop 1 row)))
