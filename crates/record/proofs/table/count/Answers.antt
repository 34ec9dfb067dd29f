use mathlib.Core.Path.{sym, ◌∙◌}
use Rattle.record.proofs.Search.{fields-used}
use Rattle.record.proofs.table.count.Goals as goal

-- Each slot in use holds a field.

pub returns : goal.returns
returns c = c.row_count.ensures ∙ sym (fields-used _)
