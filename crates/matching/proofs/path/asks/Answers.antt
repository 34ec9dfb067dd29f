use mathlib.Core.Path.{sym, ap}
use Rattle.matching.specs.Parts.{asks}
use Rattle.steps.proofs.StepRows.{step-told}
use Rattle.matching.proofs.path.asks.Goals as goal

-- Only an environment step asks the lines.

pub returns-in-Names : goal.returns-in-Names
unfolding asks
returns-in-Names c = sym (ap asks (step-told _ c.kind_of.ensures c.in-Names.is))

pub returns-in-Wildcard : goal.returns-in-Wildcard
unfolding asks
returns-in-Wildcard c = sym (ap asks (step-told _ c.kind_of.ensures c.in-Wildcard.is))

pub returns-in-Environment : goal.returns-in-Environment
unfolding asks
returns-in-Environment c = sym (ap asks (step-told _ c.kind_of.ensures c.in-Environment.is))
