use mathlib.Core.Path.{◌∙◌}
use Rattle.record.proofs.Slots.{slot-keys, slot-empty, slot-mask, slot-stored}
use borrow.Author.Rules.{rules}
use Rattle.record.proofs.slot.store_value_at.Goals as goal

-- A slot is filled with the path and the value, and stored at the place of the path.

pub store_at-requires : goal.store_at-requires
store_at-requires c =
    let h = c.requires in
    let slot = c.fill.ensures in
    (rw slot (slot-empty _ _ _ c.requires.path_len.0 ∙ c.requires.path_value.0), rw (slot, slot-keys _ _ _ c.requires.path_len.0) c.requires.path_value.1)

pub returns : goal.returns
returns c =
    let long = c.requires.path_len.0 in
    let slot = c.fill.ensures in
    let fields = c.store_at.ensures.table_after in
    record { table_after = fields ∙ rw slot (slot-stored _ _ _ long _); table_after_2 = c.store_at.ensures.table_after_2 ∙ rw (slot, slot-mask _ c.args.mask _ long (search rules)); table_after_3 = c.store_at.ensures.table_after_3 ∙ rw slot }
