use native.Mathlib.Omega.{arith}
use lib.ListN.{length, take, drop}
use Prim.Native.Nat.{◌-◌}
use Rattle.model.specs.Base.{text}
use Rattle.model.specs.Paths.{step_text}
use Rattle.steps.proofs.StepRows.{step-told}
use Rattle.steps.proofs.StepTexts.{first-length}
use Rattle.steps.proofs.policy.put_step.Goals as goal

-- The kind that the first byte says decides which text is written; the names stand behind that byte.

pub put_environment-requires : goal.put_environment-requires
put_environment-requires c =
    let s = c.args.row.now in
    omega (arith, rw (← c.first_name.ensures) at (first-length (take (length s - 1) (drop 1 s))))

pub returns-in-Wildcard : goal.returns-in-Wildcard
unfolding step_text text
returns-in-Wildcard c =
    rw (step-told _ c.kind_of.ensures c.in-Wildcard.is) c.put.ensures

pub returns-in-Names : goal.returns-in-Names
returns-in-Names c =
    rw (step-told _ c.kind_of.ensures c.in-Names.is) c.put_list.ensures

pub returns-in-Environment : goal.returns-in-Environment
returns-in-Environment c =
    rw (step-told _ c.kind_of.ensures c.in-Environment.is) (rw c.first_name.ensures at c.put_environment.ensures)
