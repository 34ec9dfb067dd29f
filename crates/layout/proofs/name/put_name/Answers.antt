use mathlib.Core.Path.{◌∙◌}
use native.Mathlib.Omega.{arith}
use lib.ListN.{length-take, length-set}
use Rattle.rows.proofs.Writing.{written-cons, take-clipped}
use Rattle.layout.proofs.name.put_name.Goals as goal

-- How many bytes, and behind it the bytes, as many as there is room for.

pub slice_bounds-put-end : goal.slice_bounds-put-end
slice_bounds-put-end c = simp length-take (omega arith)

pub put-requires : goal.put-requires
put-requires c = simp length-take (omega arith)

pub shape_of-row : goal.shape_of-row
shape_of-row c = c.put.auto.out ∙ simp length-set

pub returns : goal.returns
returns c =
    let n = c.min-n in
    let name = c.args.name.now in
    rw (← take-clipped _ n.result name n.ensures, ← n.ensures) (c.put.ensures.1 ∙ written-cons 0 _ _ _)
