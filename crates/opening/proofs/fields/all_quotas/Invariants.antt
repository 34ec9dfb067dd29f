use Prim.Native.Nat.{◌+◌, ◌*◌, ◌≤◌}
use mathlib.Core.Path.{◌≡◌}
use lib.ListN.{drop}
use Rattle.model.specs.Opening.{quotas}
use Rattle.tables.specs.Memory.{users_in}
use Rattle.opening.proofs.fields.all_quotas.Given as goal

abbrev pub invariant-loop-i : goal.invariant-loop-i
invariant-loop-i l = (l.sum ≤ 65535 * l.i) × (quotas (users_in l.users) ≡ l.sum + quotas (drop l.i (users_in l.users)))
