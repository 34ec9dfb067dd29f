use mathlib.Core.Path.{ap, ◌∙◌}
use Rattle.layout.specs.Layout.{name_in}
use Rattle.paths.proofs.key.key_at.Goals as goal

-- The row is the i-th, and the name in it the key.

pub returns : goal.returns
returns c = c.name.ensures ∙ ap name_in c.row_at.ensures.0
