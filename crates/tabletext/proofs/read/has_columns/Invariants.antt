use mathlib.Core.Path.{◌≡◌}
use Rattle.model.specs.Table.{split}
use Rattle.tabletext.proofs.Lined.{has_from}
use Rattle.tabletext.proofs.read.has_columns.Given as goal

abbrev pub invariant-loop-j : goal.invariant-loop-j
invariant-loop-j l = has_from (split l.head) (split l.columns) 0 ≡ has_from (split l.head) (split l.columns) l.j
