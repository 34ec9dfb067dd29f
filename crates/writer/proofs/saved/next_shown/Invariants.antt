use Prim.Native.Nat.{◌≤◌}
use mathlib.Core.Path.{◌≡◌}
use lib.ListN.{length}
use Rattle.layout.specs.Layout.{in_use}
use Rattle.record.specs.Slots.{slot_bytes}
use Rattle.model.specs.Limits.{max_fields}
use Rattle.writer.specs.Selected.{shown_from}
use Rattle.writer.proofs.Shown.{slots_from}
use Rattle.writer.proofs.saved.next_shown.Given as goal

abbrev pub invariant-loop-j : goal.invariant-loop-j
invariant-loop-j l =
    (l.j ≤ length (in_use slot_bytes max_fields l.table)) × (shown_from l.shown l.i (slots_from l.i l.table) ≡ shown_from l.shown l.j (slots_from l.j l.table))
