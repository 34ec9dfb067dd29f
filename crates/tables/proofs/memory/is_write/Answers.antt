use lib.Dec.{eqb}
use lib.ListN.{get_or}
use Rattle.model.specs.Rights.{is_write, is_writing}
use Rattle.model.proofs.Lists.{by_cases}
use Rattle.tables.specs.Memory.{rule_in}
use Rattle.layout.specs.Layout.{name_row}
use Rattle.tables.proofs.memory.is_write.Goals as goal

-- The byte of the access is 1 in a WRITE line, and no other value means WRITE.

pub returns : goal.returns
unfolding is_write is_writing rule_in
returns c = rw c.from.ensures (by_cases (eqb (get_or c.args.rule.now name_row 0) 1) (λ e. rw e) (λ e. rw e))
