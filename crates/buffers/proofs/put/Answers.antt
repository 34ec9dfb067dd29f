use mathlib.Core.Path.{refl, sym}
use native.Mathlib.Omega.{arith}
use lib.ListN.{length-take, length-drop}
use Rattle.rows.proofs.Writing.{written-outside, written-copied}
use Rattle.buffers.proofs.put.Goals as goal

-- What falls inside the buffer is copied into its part from `at` on; from its end on there is nothing to store.

pub returns-then-out-at : goal.returns-then-out-at
returns-then-out-at c = (refl, sym (written-outside _ _ _ c.if-out-at.true))

pub slice_bounds-copy-end-2 : goal.slice_bounds-copy-end-2
slice_bounds-copy-end-2 c = simp length-take (omega arith)

pub copy-requires : goal.copy-requires
copy-requires c = simp (length-take, length-drop) (omega arith)

pub returns : goal.returns
returns c =
    let n = c.min-n in
    (refl, written-copied _ _ _ _ _ n.ensures c.copy.ensures)
