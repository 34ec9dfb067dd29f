use Prim.Native.Nat.{◌-◌}
use mathlib.Core.Path.{◌≡◌}
use lib.ListN.{take, drop}
use Rattle.model.specs.Base.{any}
use Rattle.model.specs.Rights.{conflicts_with}
use Rattle.steps.specs.Steps.{steps_in}
use Rattle.tables.specs.Memory.{policy_in}
use Rattle.tables.proofs.conflicts.has_conflict.Given as goal

abbrev pub invariant-loop-i : goal.invariant-loop-i
invariant-loop-i l =
    any (conflicts_with (steps_in l.steps)) (take l.n (policy_in l.policy)) ≡ any (conflicts_with (steps_in l.steps)) (take (l.n - l.i) (drop l.i (policy_in l.policy)))
