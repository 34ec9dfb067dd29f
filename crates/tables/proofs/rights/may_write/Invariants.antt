use Prim.Native.Nat.{◌≤◌}
use mathlib.Core.Path.{◌≡◌}
use lib.ListN.{length, drop}
use Rattle.layout.specs.Layout.{in_use}
use Rattle.model.specs.Base.{any}
use Rattle.model.specs.Limits.{max_rules}
use Rattle.model.specs.Rights.{may_write}
use Rattle.paths.specs.Layout.{path_in}
use Rattle.tables.specs.Memory.{rule_row, user_in, policy_in}
use Rattle.tables.specs.Grants.{gives_write}
use Rattle.tables.proofs.rights.may_write.Given as goal

abbrev pub invariant-loop-i : goal.invariant-loop-i
invariant-loop-i l =
    (l.i ≤ length (in_use rule_row max_rules l.policy)) × (may_write (policy_in l.policy) (user_in l.user) (path_in l.path) ≡ any (gives_write (user_in l.user) (path_in l.path)) (drop l.i (policy_in l.policy)))
