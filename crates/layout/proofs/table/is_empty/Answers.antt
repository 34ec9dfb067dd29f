use Rattle.layout.specs.Layout.{is_empty}
use borrow.Author.Rules.{rules}
use Rattle.layout.proofs.table.is_empty.Goals as goal

-- The first byte says it.

pub returns : goal.returns
unfolding is_empty
returns c = search rules
