use Prim.Native.Nat.{◌-◌, ◌≤◌}
use mathlib.Core.Path.{◌≡◌}
use lib.ListN.{length, drop}
use Rattle.model.specs.Paths.{read_step, read_path}
use Rattle.paths.proofs.WholePaths.{left}
use Rattle.steps.specs.Steps.{steps_slot, steps_in, CanonicalSteps}
use Rattle.steps.proofs.policy.read_all.Given as goal

abbrev pub invariant-loop-at : goal.invariant-loop-at
invariant-loop-at l =
    (l.at ≤ length l.s) × (length l.slot ≡ steps_slot) × (read_path read_step l.s ≡ left read_step (steps_in l.slot) (drop l.at l.s)) × CanonicalSteps l.slot

abbrev pub decreases-loop-at : goal.decreases-loop-at
decreases-loop-at l = length l.s - l.at
