use Rattle.rows.proofs.Parts.{tail-part}
use Rattle.tables.specs.Memory.{user_in}
use Rattle.tables.proofs.memory.bindings.Goals as goal

-- They stand in the bytes behind the quota.

pub returns-clause-result_value : goal.returns-clause-result_value
unfolding user_in
returns-clause-result_value c = rw tail-part
