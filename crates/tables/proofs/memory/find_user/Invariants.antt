use Prim.Native.Nat.{◌≤◌}
use mathlib.Core.Path.{◌≡◌}
use lib.ListN.{length}
use Rattle.layout.specs.Layout.{in_use}
use Rattle.model.specs.Limits.{max_users}
use Rattle.model.specs.Tables.{user_named}
use Rattle.tables.specs.Memory.{user_row, users_in}
use Rattle.tables.proofs.Users.{named_from}
use Rattle.tables.proofs.memory.find_user.Given as goal

abbrev pub invariant-loop-i : goal.invariant-loop-i
invariant-loop-i l = (l.i ≤ length (in_use user_row max_users l.users)) × (user_named l.name (users_in l.users) ≡ named_from l.name l.users l.i)
