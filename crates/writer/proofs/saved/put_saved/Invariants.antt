use Prim.Native.Nat.{ℕ, ◌+◌, ◌*◌, ◌-◌, ◌≤◌, ◌<◌}
use mathlib.Core.Path.{◌≡◌}
use Rattle.model.specs.Limits.{max_fields}
use lib.ListN.{length, take, drop}
use Rattle.model.specs.Base.{Bytes}
use Rattle.model.specs.SavedText.{saved_behind}
use Rattle.paths.specs.Layout.{path_in}
use Rattle.layout.specs.Layout.{in_use}
use Rattle.record.specs.Slots.{slot_bytes}
use Rattle.writer.proofs.Remains.{Remains}
use Rattle.writer.proofs.Shown.{fields_from}
use Rattle.writer.specs.declared.saved.Shown.{Shown}
use Rattle.writer.specs.Selected.{saved_field}
use Rattle.writer.proofs.saved.put_saved.Given as goal

-- the text behind the value of the field in slot i
abbrev behind : ℕ → Shown → Bytes → Bytes
behind i shown table = saved_behind (path_in (take slot_bytes (drop (i * slot_bytes) table))) (fields_from (i + 1) shown table)

abbrev pub invariant-loop-next : goal.invariant-loop-next
invariant-loop-next l =
    (l.i < max_fields) × (l.i < length (in_use slot_bytes max_fields l.table)) × (l.to ≤ l.at + saved_field * (l.i + 1)) × (length l.out ≡ length l.initial.out)
    × Remains l.initial.to (behind l.initial.i l.shown l.table) l.initial.out l.to (behind l.i l.shown l.table) l.out

abbrev pub decreases-loop-next : goal.decreases-loop-next
decreases-loop-next l = max_fields - l.i
