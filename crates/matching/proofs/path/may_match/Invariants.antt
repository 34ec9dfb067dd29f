use mathlib.Core.Path.{◌≡◌}
use lib.ListN.{drop}
use Rattle.paths.specs.Layout.{path_in}
use Rattle.steps.specs.Steps.{steps_in}
use Rattle.matching.specs.Parts.{may_match}
use Rattle.matching.proofs.path.may_match.Given as goal

abbrev pub invariant-loop-i : goal.invariant-loop-i
invariant-loop-i l =
    may_match (steps_in l.steps) (path_in l.slot) ≡ may_match (drop l.i (steps_in l.steps)) (drop l.i (path_in l.slot))
