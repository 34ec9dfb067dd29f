use Rattle.record.proofs.Masks.{mask-written}
use Rattle.record.proofs.slot.put_mask.Goals as goal

-- The bytes of the mask are written over those that stood there.

pub returns : goal.returns
returns c =
    mask-written _ _ _ _ c.requires (rw c.encode_mask.ensures at c.put.ensures)
