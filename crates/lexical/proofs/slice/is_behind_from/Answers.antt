use mathlib.Core.Path.{ap, ◌∙◌}
use Rattle.std.specs.Ordering.{is_gt}
use Rattle.lexical.proofs.Slices.{greater-told}
use Rattle.lexical.proofs.slice.is_behind_from.Goals as goal

-- The order says it.

pub returns : goal.returns
returns c = c.is_gt.ensures ∙ ap is_gt c.compare_from.ensures ∙ greater-told _
