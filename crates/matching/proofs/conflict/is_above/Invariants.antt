use mathlib.Core.Path.{◌≡◌}
use lib.ListN.{drop}
use Rattle.model.specs.Rights.{is_above}
use Rattle.steps.specs.Steps.{steps_in}
use Rattle.matching.proofs.conflict.is_above.Given as goal

abbrev pub invariant-loop-i : goal.invariant-loop-i
invariant-loop-i l = is_above (steps_in l.a) (steps_in l.b) ≡ is_above (drop l.i (steps_in l.a)) (drop l.i (steps_in l.b))
