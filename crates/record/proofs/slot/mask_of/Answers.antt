use Rattle.rows.proofs.Parts.{tail-part}
use Rattle.record.specs.Slots.{mask_in}
use Rattle.record.proofs.slot.mask_of.Goals as goal

-- What stands behind the path.

pub returns : goal.returns
unfolding mask_in
returns c = rw (tail-part) at c.decode_mask.ensures
