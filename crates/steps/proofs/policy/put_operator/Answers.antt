use Rattle.model.specs.Base.{text}
use Rattle.model.specs.Paths.{operator_text}
use Rattle.steps.proofs.policy.put_operator.Goals as goal

-- Each operator has its own word.

pub returns-in-Equals : goal.returns-in-Equals
unfolding operator_text text
returns-in-Equals c = rw c.in-Equals.is c.put.ensures

pub returns-in-In : goal.returns-in-In
unfolding operator_text text
returns-in-In c = rw c.in-In.is c.put-in-In.ensures
