use Rattle.model.specs.Paths.{read_step}
use Rattle.steps.proofs.StepReaders.{either-step}
use borrow.Author.Rules.{rules}
use Rattle.steps.proofs.step.step_at.Goals as goal

-- The first that reads something decides.

pub returns : goal.returns
unfolding read_step
returns c = either-step _ _ _ _ _ _ c.dotted_at.ensures (search rules)
