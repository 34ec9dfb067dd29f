use Prim.Native.Nat.{◌+◌, ◌*◌, ◌≤◌}
use native.Mathlib.Omega.{arith}
use lib.ListN.{length, length-take, length-drop}
use Rattle.layout.proofs.Changed.{copied-in, used-inside, used-set}
use Rattle.layout.proofs.table.replace_row.Goals.{Start}
use Rattle.layout.proofs.table.replace_row.Goals as goal

-- The row is written over the one at its place.

-- the row lies in the table
inside : (c : Start) → c.args.i * c.args.size + c.args.size ≤ length c.args.t.now
inside c = used-inside c.args.size c.args.most c.args.t.now c.requires.holds.0 c.args.i c.requires.i_in_bounds

pub overflow_mul-start : goal.overflow_mul-start
overflow_mul-start c = omega (arith, inside (goal.at.overflow_mul-start c).Start)

pub slice_bounds-copy-count : goal.slice_bounds-copy-count
slice_bounds-copy-count c = omega (arith, inside (goal.at.slice_bounds-copy-count c).Start)

pub slice_bounds-copy-start : goal.slice_bounds-copy-start
slice_bounds-copy-start c = omega (arith, inside (goal.at.slice_bounds-copy-start c).Start)

pub copy-requires : goal.copy-requires
copy-requires c = simp (length-take, length-drop) (omega (arith, c.requires.holds.1, inside (goal.at.copy-requires c).Start))

pub returns : goal.returns
returns c =
    let a = c.args in
    let p = c.requires.holds in
    let copied = copied-in (a.i * a.size) a.row.now a.t.now _ c.copy.ensures in
    record { t_after = rw (copied, p.1) (used-set a.size a.most a.i a.row.now a.t.now p.0 p.1 p.2 c.requires.i_in_bounds); t_after_2 = rw (copied, p.1) }
