use mathlib.Core.Path.{◌≡◌}
use lib.ListN.{drop}
use Rattle.model.specs.Base.{any}
use Rattle.steps.specs.Steps.{steps_in}
use Rattle.matching.specs.Parts.{asks}
use Rattle.matching.proofs.path.asks_lines.Given as goal

abbrev pub invariant-loop-i : goal.invariant-loop-i
invariant-loop-i l = any asks (steps_in l.steps) ≡ any asks (drop l.i (steps_in l.steps))
