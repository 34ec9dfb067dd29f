use mathlib.Core.Path.{sym, ◌∙◌}
use native.Mathlib.Omega.{arith}
use Rattle.model.specs.Limits.{max_fields}
use Rattle.layout.proofs.Changed.{table-set, table-inserted}
use Rattle.record.specs.Slots.{slot_bytes, field_in, mask_in, fields_in, masks_in}
use Rattle.record.proofs.Places.{at-below, before-within}
use Rattle.record.proofs.Search.{fields-used}
use Rattle.record.proofs.Masks.{past-masks}
use Rattle.record.proofs.Stores.{at_stored, before-stored, past-stored}
use Rattle.record.specs.Search.{stored_bytes, stored_masks}
use borrow.Author.Rules.{rules}
use borrow.Author.Tests.{lt-ltb, le-ltb}
use Rattle.record.proofs.table.store_at.Goals as goal

-- The field is written or put in where the search ended; behind the last place nothing changes.

pub replace_row-requires : goal.replace_row-requires
replace_row-requires c =
    let h = at-below _ _ c.in-At.at (sym c.requires.1 ∙ c.in-At.is) in
    record { holds = (search rules, search rules, c.requires.0); i_in_bounds = omega (arith, fields-used c.args.table.now) }

pub insert_slot-requires : goal.insert_slot-requires
insert_slot-requires c =
    let h = before-within _ _ c.in-Before.at (sym c.requires.1 ∙ c.in-Before.is) in
    record { table_len = (search rules, search rules, c.requires.0); i_lt_max_fields = (search rules, omega (arith, fields-used c.args.table.now)) }

pub returns-in-At : goal.returns-in-At
unfolding fields_in masks_in stored_bytes stored_masks
returns-in-At c =
    let used = c.replace_row.ensures.t_after in let bytes = c.replace_row.ensures.t_after_2 in record {
      table_after = table-set field_in slot_bytes max_fields c.args.table.now _ c.args.slot.now c.in-At.at used
          ∙ at_stored _ _ c.in-At.at c.requires.0 (sym c.requires.1 ∙ c.in-At.is);
      table_after_2 = rw c.in-At.is (table-set mask_in slot_bytes max_fields c.args.table.now _ c.args.slot.now c.in-At.at used);
      table_after_3 = bytes ∙ rw c.in-At.is;
    }

pub returns-then-at-lt-SLOTS : goal.returns-then-at-lt-SLOTS
unfolding fields_in masks_in stored_bytes stored_masks
returns-then-at-lt-SLOTS c =
    let used = c.insert_slot.ensures.table_after in let bytes = c.insert_slot.ensures.table_after_2 in record {
      table_after = table-inserted field_in slot_bytes max_fields c.args.table.now _ c.args.slot.now c.in-Before.at used
          ∙ before-stored _ _ c.in-Before.at c.requires.0 (sym c.requires.1 ∙ c.in-Before.is);
      table_after_2 = rw c.in-Before.is (table-inserted mask_in slot_bytes max_fields c.args.table.now _ c.args.slot.now c.in-Before.at used);
      table_after_3 = bytes ∙ rw (c.in-Before.is, lt-ltb _ _ c.if-at-lt-SLOTS.true);
    }

pub returns-else-at-lt-SLOTS : goal.returns-else-at-lt-SLOTS
unfolding stored_bytes
returns-else-at-lt-SLOTS c =
    let is = sym c.requires.1 ∙ c.in-Before.is in record { table_after = past-stored _ _ c.in-Before.at c.requires.0 is c.if-at-lt-SLOTS.false; table_after_2 = rw c.in-Before.is (past-masks c.args.table.now c.in-Before.at _ (before-within _ _ c.in-Before.at is) c.if-at-lt-SLOTS.false); table_after_3 = rw (c.in-Before.is, le-ltb _ _ c.if-at-lt-SLOTS.false) }
