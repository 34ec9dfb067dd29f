use Prim.Native.Nat.{◌+◌, ◌*◌, ◌≤◌}
use mathlib.Core.Path.{◌≡◌}
use lib.ListN.{length}
use Rattle.rows.specs.Rows.{Wrote}
use Rattle.deliveries.specs.Receivers.{delivery_text, deliveries_of}
use Rattle.deliveries.proofs.put_deliveries.Given as goal

abbrev pub invariant-loop-n : goal.invariant-loop-n
invariant-loop-n l =
    (l.to ≤ l.at + delivery_text * l.n-index) × (length l.out ≡ length l.initial.out) × Wrote l.at (deliveries_of l.pushed l.list l.n-index) l.initial.out l.to l.out
