use native.Mathlib.Nat.{add-sub_cancel_left}
use Rattle.rows.proofs.Parts.{length_part}
use Rattle.layout.proofs.table.row_at.Goals as goal

-- The part of `size` bytes that is handed back is the i-th row, and it is inside.

pub returns : goal.returns
returns c = (rw add-sub_cancel_left, rw add-sub_cancel_left (length_part _ _ _ c.requires))
