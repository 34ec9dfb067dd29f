use mathlib.Core.Path.{◌∙◌}
use Rattle.layout.proofs.Changed.{put_first}
use borrow.Author.Rules.{rules}
use Rattle.record.proofs.insert.put_before.Goals as goal

-- What stands there moves by a slot, which is as long as the one that is copied to its start.

pub shift-requires : goal.shift-requires
shift-requires c = search rules

pub returns : goal.returns
returns c =
    put_first c.args.tail.now c.args.slot.now _ _ (search rules) (c.shift.ensures ∙ rw c.requires.0) c.copy.ensures
