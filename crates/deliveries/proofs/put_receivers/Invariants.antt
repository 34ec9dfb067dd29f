use Prim.Native.Nat.{◌≤◌}
use mathlib.Core.Path.{◌≡◌}
use lib.ListN.{length}
use Rattle.deliveries.proofs.Received.{ListedFrom}
use Rattle.deliveries.proofs.put_receivers.Given as goal

abbrev pub invariant-loop-j : goal.invariant-loop-j
invariant-loop-j l =
    (l.told ≤ l.j) × (length l.list ≡ length l.initial.list) × ListedFrom l.logins l.i l.mask l.initial.list l.told l.j l.list
