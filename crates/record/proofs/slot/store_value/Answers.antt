use mathlib.Core.Path.{◌∙◌}
use Rattle.record.proofs.Slots.{slot-stored, slot-canonical}
use native.Mathlib.Omega.{arith}
use Rattle.record.proofs.slot.store_value.Goals as goal

-- A slot is filled with the path and the value, and stored.

pub returns : goal.returns
returns c =
    let long = c.requires.0 in
    let slot = c.fill.ensures in
    let fields = c.store.ensures.table_after in
    record { table_after = fields ∙ rw slot (slot-stored _ 0 _ long _); keeps = λ proper. c.store.ensures.keeps (rw slot (slot-canonical _ 0 _ proper long (omega arith))); table_after_2 = c.store.ensures.table_after_2 ∙ rw slot }
