use native.Mathlib.Omega.{arith}
use Prim.Native.Nat.{◌*◌, ◌≤◌}
use native.Mathlib.Nat.{mul-le-mul_right}
use lib.ListN.{length-take}
use Rattle.layout.proofs.Used.{counted-fit}
use Rattle.layout.proofs.Tight.{copied-whole}
use Rattle.layout.proofs.table.copy_rows.Goals.{After-row_count}
use Rattle.layout.proofs.table.copy_rows.Goals as goal

-- The rows in use lie in both tables: copied to where they end, and the rest of the other table wiped.

-- where the copied rows end
inside : (c : After-row_count)
    → c.row_count.result * c.args.size
    ≤ c.args.most * c.args.size
inside c =
    let a = c.args in
    mul-le-mul_right a.size (counted-fit a.size a.most a.from.now c.row_count.ensures)

pub overflow_mul-end : goal.overflow_mul-end
overflow_mul-end c = omega (arith, inside c)

pub slice_bounds-copy-end : goal.slice_bounds-copy-end
slice_bounds-copy-end c = simp length-take (omega (arith, inside (goal.at.slice_bounds-copy-end c).After-row_count))

pub copy-requires : goal.copy-requires
copy-requires c = simp length-take (omega (arith, inside (goal.at.copy-requires c).After-row_count))

pub slice_bounds-wipe-count : goal.slice_bounds-wipe-count
slice_bounds-wipe-count c = omega (arith, inside (goal.at.slice_bounds-wipe-count c).After-row_count)

pub slice_bounds-wipe-start : goal.slice_bounds-wipe-start
slice_bounds-wipe-start c = omega (arith, inside (goal.at.slice_bounds-wipe-start c).After-row_count)

pub slice_bounds-wipe-end : goal.slice_bounds-wipe-end
slice_bounds-wipe-end c = omega (arith, inside (goal.at.slice_bounds-wipe-end c).After-row_count)

pub returns : goal.returns
returns c =
    copied-whole c.args.size c.args.most c.args.from.now c.requires.0 c.requires.2 c.row_count.ensures
    c.args.to.now _ _ c.requires.1 c.copy.ensures c.wipe.ensures
