use mathlib.Core.Path.{◌≡◌}
use lib.ListN.{drop}
use Rattle.model.specs.Rights.{matches}
use Rattle.paths.specs.Layout.{path_in}
use Rattle.steps.specs.Steps.{steps_in}
use Rattle.steps.specs.Environments.{bindings_in}
use Rattle.matching.specs.Parts.{is_met, paired}
use Rattle.matching.proofs.path.lines_match.Given as goal

abbrev pub invariant-loop-i : goal.invariant-loop-i
invariant-loop-i l =
    matches (bindings_in l.lines) (steps_in l.steps) (path_in l.slot) ≡ paired (is_met (bindings_in l.lines)) (drop l.i (steps_in l.steps)) (drop l.i (path_in l.slot))
