use borrow.Author.Rules.{rules}
use Rattle.steps.proofs.StepReaders.{either-quote}
use Rattle.steps.proofs.step.either_at.Goals as goal

-- What `between` answers of the single quotes, or else of the double ones.

pub returns : goal.returns
returns c = either-quote _ _ _ _ c.between.ensures (search rules)
