use native.Mathlib.Omega.{arith}
use Rattle.steps.proofs.StepPushes.{steps-none, steps-fit, steps-long}
use Rattle.steps.proofs.policy.read_steps.Goals as goal

-- A path that was read is a policy path if its text, written into no bytes at all, ends at 121 or before.

pub returns-in_err-slot : goal.returns-in_err-slot
returns-in_err-slot c = rw c.from_residual.ensures (steps-none _ c.in_err-slot.ensures.0, tt)

pub returns-then-put_steps-gt-MAX_PATH_TEXT : goal.returns-then-put_steps-gt-MAX_PATH_TEXT
returns-then-put_steps-gt-MAX_PATH_TEXT c =
    (steps-long _ _ c.in_ok-slot.ensures.0 _ c.put_steps.ensures.wrote.0 (omega arith), tt)

pub returns : goal.returns
returns c = (steps-fit _ _ c.in_ok-slot.ensures.0 _ c.put_steps.ensures.wrote.0 (omega arith), c.in_ok-slot.ensures.1)
