use borrow.Author.Rules.{rules}
use Rattle.tables.specs.Memory.{user_in}
use Rattle.tables.proofs.memory.quota.Goals as goal

-- Two bytes, the second worth 256 times the first.

pub returns : goal.returns
unfolding user_in
returns c = search rules
