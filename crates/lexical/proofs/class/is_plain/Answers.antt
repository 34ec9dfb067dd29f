use mathlib.Core.Path.{sym, ◌∙◌}
use Rattle.model.specs.Names.{is_plain}
use Rattle.lexical.proofs.Runs.{all-ends}
use Rattle.lexical.proofs.class.is_plain.Goals as goal

-- No name, or else whether the run of plain bytes ends at the end.

pub returns-then-is_name : goal.returns-then-is_name
unfolding is_plain
returns-then-is_name c = rw (sym c.is_name.ensures ∙ c.if-is_name.true) (all-ends _ _ _ c.run.ensures)

pub returns : goal.returns
unfolding is_plain
returns c = rw (sym c.is_name.ensures ∙ c.if-is_name.false)
