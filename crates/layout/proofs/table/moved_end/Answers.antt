use native.Mathlib.Omega.{arith}
use native.Mathlib.Nat.{mul-le-mul_right}
use Prim.Native.Nat.{◌≤◌}
use Rattle.layout.proofs.Changed.{used-few}
use Rattle.layout.proofs.table.moved_end.Goals as goal

-- The rows in use are no more than the bytes of the table, so that two more fit their type.

pub overflow_add-count_from : goal.overflow_add-count_from
overflow_add-count_from c =
    omega (arith, used-few c.args.size c.args.most c.args.t.now c.requires.0, c.well_formed)

pub overflow_mul-result : goal.overflow_mul-result
overflow_mul-result c =
    let l : c.min.result ≤ c.args.most = omega arith in
    omega (arith, mul-le-mul_right c.args.size l, c.requires.0.1)

pub returns : goal.returns
returns c = rw (c.min.ensures, c.count_from.ensures)
