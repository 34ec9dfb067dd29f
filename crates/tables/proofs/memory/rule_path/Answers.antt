use Rattle.rows.proofs.Parts.{tail-part}
use Rattle.tables.specs.Memory.{rule_in}
use Rattle.tables.proofs.memory.rule_path.Goals as goal

-- It stands in the bytes behind the access.

pub returns-clause-result_value : goal.returns-clause-result_value
unfolding rule_in
returns-clause-result_value c = rw tail-part
