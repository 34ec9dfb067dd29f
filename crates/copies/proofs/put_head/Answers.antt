use borrow.Author.Rules.{rules}
use Rattle.model.specs.Base.{text}
use Rattle.buffers.proofs.Writers.{wrote-both}
use Rattle.copies.proofs.Lines.{head-text}
use Rattle.copies.proofs.put_head.Goals as goal

-- The parts of the head are written one behind the other.

pub returns : goal.returns
unfolding text
returns c =
    let environment = rw c.bindings.ensures.result_value at c.put_bindings.ensures.wrote in
    let named = wrote-both _ _ _ _ _ _ _ _ c.put-to-2.ensures environment in
    let policy = wrote-both _ _ _ _ _ _ _ _ c.put_rules-to.ensures.wrote named in
    record { wrote = rw head-text (wrote-both _ _ _ _ _ _ _ _ c.put-to.ensures policy); upper_bound = search rules }
