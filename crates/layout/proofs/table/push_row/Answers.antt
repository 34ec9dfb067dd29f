use Prim.Native.Nat.{◌+◌, ◌*◌, ◌≤◌}
use native.Mathlib.Omega.{arith}
use lib.ListN.{length, length-take, length-drop}
use Rattle.layout.proofs.Changed.{copied-in, row_inside, used-pushed, used-full}
use Rattle.layout.proofs.Tight.{tight-pushed}
use Rattle.layout.proofs.table.push_row.Goals.{Then-n-most}
use Rattle.layout.proofs.table.push_row.Goals as goal

-- The row is written behind the last, and the row behind it is made empty; where there is no room, nothing is written.

-- there is room for a row more
inside : (c : Then-n-most) → c.row_count-n.result * c.args.size + c.args.size ≤ length c.args.t.now
inside c = row_inside c.args.size c.args.most c.args.t.now c.requires.0 c.row_count-n.result c.if-n-most.true

pub overflow_mul-start : goal.overflow_mul-start
overflow_mul-start c = omega (arith, inside c)

pub overflow_add-end : goal.overflow_add-end
overflow_add-end c = omega (arith, inside c)

pub put_byte-requires : goal.put_byte-requires
put_byte-requires c = omega (arith, inside (goal.at.put_byte-requires c).Then-n-most, c.well_formed)

pub slice_bounds-copy-count : goal.slice_bounds-copy-count
slice_bounds-copy-count c = omega (arith, inside (goal.at.slice_bounds-copy-count c).Then-n-most, c.put_byte.auto.out)

pub slice_bounds-copy-start : goal.slice_bounds-copy-start
slice_bounds-copy-start c = omega (arith, inside (goal.at.slice_bounds-copy-start c).Then-n-most, c.put_byte.auto.out)

pub copy-requires : goal.copy-requires
copy-requires c =
    simp (length-take, length-drop) (omega (arith, inside (goal.at.copy-requires c).Then-n-most, c.put_byte.auto.out, c.requires.1))

pub returns-then-n-most : goal.returns-then-n-most
returns-then-n-most c =
    let a = c.args in
    let n = c.row_count-n in
    let bytes = copied-in (n.result * a.size) a.row.now c.put_byte.new.out _ c.copy.ensures in record {
      t_after = rw (bytes, c.requires.1)
          (used-pushed a.size a.most n.result a.t.now a.row.now n.ensures c.requires.0 c.if-n-most.true c.put_byte.ensures.1 c.requires.1 c.requires.2);
      keeps = λ tight. rw (bytes, c.requires.1)
          (tight-pushed a.size a.most a.t.now c.requires.0 tight n.result a.row.now n.ensures c.if-n-most.true c.put_byte.ensures.1 c.requires.1 c.requires.2);
    }

pub returns-else-n-most : goal.returns-else-n-most
returns-else-n-most c =
    let a = c.args in
    record { t_after = used-full a.size a.most _ a.t.now a.row.now c.row_count-n.ensures c.requires.0 c.if-n-most.false; keeps = λ tight. tight }
