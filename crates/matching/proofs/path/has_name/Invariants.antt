use mathlib.Core.Path.{◌≡◌}
use lib.ListN.{drop}
use Rattle.model.specs.Base.{among}
use Rattle.steps.specs.Steps.{names_in}
use Rattle.matching.proofs.path.has_name.Given as goal

abbrev pub invariant-loop-i : goal.invariant-loop-i
invariant-loop-i l = among l.key (names_in l.names) ≡ among l.key (drop l.i (names_in l.names))
