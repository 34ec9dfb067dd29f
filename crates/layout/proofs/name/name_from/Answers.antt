use native.Mathlib.Nat.{add-sub_cancel_left}
use Rattle.layout.proofs.name.name_from.Goals as goal

-- The part of `size` bytes that is handed on is the row.

pub returns : goal.returns
returns c = rw add-sub_cancel_left at c.name.ensures
