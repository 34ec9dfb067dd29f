use native.Mathlib.Omega.{arith}
use Rattle.model.specs.Base.{text}
use Rattle.model.specs.Paths.{step_text}
use Rattle.buffers.proofs.Writers.{wrote-both}
use Rattle.steps.proofs.StepTexts.{operator-length}
use Rattle.steps.specs.Steps.{operator_of}
use Rattle.steps.proofs.policy.put_environment.Goals as goal

-- The opening bracket and the word of the operator are written first, then the name and the closing bracket.

pub put-to-requires : goal.put-to-requires
put-to-requires c = omega (arith, operator-length (operator_of c.args.operator))

pub put_byte-requires : goal.put_byte-requires
put_byte-requires c = omega (arith, operator-length (operator_of c.args.operator))

pub returns : goal.returns
unfolding step_text text
returns c =
    wrote-both _ _ _ _ _ _ _ _ c.put_operator-from.ensures
    (wrote-both _ _ _ _ _ _ _ _ c.put-to.ensures c.put_byte.ensures)
