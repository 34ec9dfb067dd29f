use Prim.Native.Nat.{◌+◌, ◌*◌, ◌≤◌}
use native.Mathlib.Omega.{arith}
use lib.ListN.{length, length-take, length-drop}
use Rattle.layout.proofs.Changed.{copied-in, room-behind}
use Rattle.layout.proofs.Counts.{rows_pushed, rows-filled}
use Rattle.layout.proofs.Tight.{tight-counted}
use Rattle.layout.proofs.counted.push_row.Goals.{Then-n-most}
use Rattle.layout.proofs.counted.push_row.Goals as goal

-- The row is written behind the last, and counted; where there is no room, nothing is written.

-- there is room for a row more
inside : (c : Then-n-most) → c.count-n.result * c.args.size + c.args.size + 1 ≤ length c.args.slot.now
inside c = omega (arith, room-behind c.args.size c.args.most c.count-n.result c.if-n-most.true, c.requires.0)

pub overflow_mul-start : goal.overflow_mul-start
overflow_mul-start c = omega (arith, inside c)

pub overflow_add-start : goal.overflow_add-start
overflow_add-start c = omega (arith, inside c)

pub slice_bounds-copy-count : goal.slice_bounds-copy-count
slice_bounds-copy-count c = omega (arith, inside c)

pub slice_bounds-copy-start : goal.slice_bounds-copy-start
slice_bounds-copy-start c = omega (arith, inside c)

pub copy-requires : goal.copy-requires
copy-requires c = simp (length-take, length-drop) (omega (arith, inside (goal.at.copy-requires c).Then-n-most, c.requires.3))

pub returns-then-n-most : goal.returns-then-n-most
returns-then-n-most c =
    let a = c.args in
    let n = c.count-n in
    let bytes = copied-in (n.result * a.size + 1) a.row.now a.slot.now _ c.copy.ensures in record {
      slot_after = rw (bytes, c.requires.3)
          (rows_pushed a.size a.most a.slot.now a.row.now n.result n.ensures c.if-n-most.true (omega (arith, inside (goal.at.returns-then-n-most c).Then-n-most, c.requires.2)) c.requires.3);
      keeps = λ tight. rw (bytes, c.requires.3)
          (tight-counted a.size a.most a.slot.now a.row.now n.result n.ensures c.if-n-most.true c.requires.0 c.requires.3 tight);
    }

pub returns-else-n-most : goal.returns-else-n-most
returns-else-n-most c =
    let a = c.args in
    record { slot_after = rows-filled a.size a.most a.slot.now a.row.now _ c.count-n.ensures c.if-n-most.false; keeps = λ tight. tight }
