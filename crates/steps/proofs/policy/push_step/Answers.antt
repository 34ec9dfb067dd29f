use mathlib.Core.Path.{ap, ◌∙◌}
use Rattle.model.specs.Limits.{max_depth}
use Rattle.layout.proofs.Counts.{counted-pushed}
use Rattle.layout.proofs.Canonical.{canonical-counted}
use Rattle.steps.specs.Steps.{step_row, step_in, steps_in, CanonicalStep}
use Rattle.steps.proofs.StepRows.{step-written}
use Rattle.steps.proofs.policy.push_step.Goals as goal

-- The step is written into a row, and the row put behind the others, while there are fewer than six.

pub returns : goal.returns
unfolding steps_in
returns c =
    let pushed = c.push_row.ensures in record { slot_after = counted-pushed step_in step_row max_depth c.args.slot.now _ _ c.push_row.ensures.slot_after ∙ rw (ap step_in c.put_row.ensures ∙ step-written c.args.step); keeps = λ is. canonical-counted CanonicalStep step_row max_depth (rw c.put_row.ensures is) c.push_row.ensures.slot_after c.push_row.ensures.keeps }
