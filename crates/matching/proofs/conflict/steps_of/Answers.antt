use mathlib.Core.Path.{refl, ap, ◌∙◌}
use Rattle.model.specs.Paths.{as_steps}
use Rattle.paths.specs.Layout.{path_in}
use Rattle.layout.specs.Layout.{counted}
use Rattle.steps.specs.Steps.{step_of, steps_in}
use Rattle.layout.proofs.Counts.{counted-all}
use Rattle.steps.proofs.StepPushes.{key-step-turn}
use native.Mathlib.Omega.{arith}
use Rattle.matching.proofs.conflict.steps_of.Goals as goal

-- Each turn pushes the next key as a list of one: the steps are those of the keys passed.

pub loop-i-init : goal.loop-i-init
unfolding steps_in counted as_steps
loop-i-init c = (refl, refl)

pub loop-i-preserved : goal.loop-i-preserved
unfolding step_of
loop-i-preserved c =
    let push = c.push_step in
    let l = c.loop-i in
    let turn = key-step-turn _ l.i (omega arith) (steps_in l.steps) (steps_in push.new.slot) l.invariant.1 _ c.key_at.ensures _ c.one_name-names.ensures.0 push.ensures.slot_after in
    (push.auto.slot ∙ l.invariant.0, turn)

pub returns : goal.returns
unfolding path_in
returns c = let l = c.loop-i in l.invariant.1 ∙ ap as_steps (counted-all _ _ _ _ l.i (omega arith))
