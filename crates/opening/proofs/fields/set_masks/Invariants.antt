use Prim.Native.Nat.{◌-◌}
use mathlib.Core.Path.{◌≡◌}
use Rattle.layout.specs.Layout.{Keeps}
use Rattle.tables.specs.Memory.{users_in, tables_in}
use Rattle.tables.specs.Grants.{Found}
use Rattle.record.specs.Slots.{fields_in, masks_in, field_at, CanonicalFields}
use Rattle.opening.proofs.Masks.{masks_below}
use Rattle.opening.proofs.fields.set_masks.Given as goal

abbrev pub invariant-loop-i : goal.invariant-loop-i
invariant-loop-i l =
    (fields_in l.table ≡ fields_in l.initial.table) × (masks_in l.table ≡ masks_below (tables_in l.tables) (fields_in l.initial.table) (masks_in l.initial.table) l.i) × Keeps CanonicalFields l.initial.table l.table
    × Found (users_in l.tables) (field_at (l.i - 1) (fields_in l.initial.table)).path l.found
