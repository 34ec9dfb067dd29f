use borrow.Author.Rules.{rules}
use Rattle.model.specs.Base.{text}
use Rattle.buffers.proofs.Writers.{wrote-both}
use Rattle.copies.proofs.Lines.{copy-text}
use Rattle.copies.proofs.put_copy.Goals as goal

-- The head, the fields and the end of the line are written one behind the other.

pub returns : goal.returns
unfolding text
returns c =
    let fields = wrote-both _ _ _ _ _ _ _ _ c.put_saved-to.ensures.wrote c.put_byte.ensures in
    record { wrote = rw copy-text (wrote-both _ _ _ _ _ _ _ _ c.put_head-to.ensures.wrote fields); upper_bound = search rules }
