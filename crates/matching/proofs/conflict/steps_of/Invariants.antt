use mathlib.Core.Path.{◌≡◌}
use lib.ListN.{length, take}
use Rattle.model.specs.Paths.{as_steps}
use Rattle.paths.specs.Layout.{path_in}
use Rattle.steps.specs.Steps.{steps_slot, steps_in}
use Rattle.matching.proofs.conflict.steps_of.Given as goal

abbrev pub invariant-loop-i : goal.invariant-loop-i
invariant-loop-i l = (length l.steps ≡ steps_slot) × (steps_in l.steps ≡ as_steps (take l.i (path_in l.slot)))
