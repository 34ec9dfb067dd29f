use Prim.Native.Nat.{◌+◌}
use mathlib.Core.Path.{◌≡◌}
use mathlib.Core.List.{[]}
use lib.ListN.{take, drop}
use Rattle.model.specs.Opening.{conflict_from}
use Rattle.tables.specs.Memory.{policy_in}
use Rattle.tables.proofs.conflicts.first_conflict.Given as goal

abbrev pub invariant-loop-i : goal.invariant-loop-i
invariant-loop-i l =
    conflict_from 2 [] (policy_in l.policy) ≡ conflict_from (l.i + 2) (take l.i (policy_in l.policy)) (drop l.i (policy_in l.policy))
