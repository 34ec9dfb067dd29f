use Rattle.buffers.proofs.Writers.{wrote-both}
use Rattle.buffers.proofs.put_quoted.Goals as goal

-- The quote, the bytes and the quote are written one behind the other.

pub returns : goal.returns
returns c =
    wrote-both _ _ _ _ _ _ _ _ c.put_byte-open.ensures
    (wrote-both _ _ _ _ _ _ _ _ c.put-close.ensures c.put_byte.ensures)
