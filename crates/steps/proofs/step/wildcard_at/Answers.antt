use mathlib.Core.Path.{◌∙◌, sym}
use borrow.Author.Rules.{rules}
use Rattle.steps.specs.Steps.{step_of}
use Rattle.steps.proofs.StepReaders.{wildcard-not, wildcard-is}
use Rattle.steps.proofs.StepBytes.{wildcard-canonical}
use Rattle.steps.proofs.step.wildcard_at.Goals as goal

-- Whether `*` stands there decides.

pub returns-then-not-is_at : goal.returns-then-not-is_at
returns-then-not-is_at c = (wildcard-not _ _ (sym c.is_at.ensures ∙ c.if-not-is_at.true), tt)

pub returns : goal.returns
unfolding step_of
returns c = (wildcard-is _ _ (search rules) (sym c.is_at.ensures ∙ c.if-not-is_at.false), wildcard-canonical)
