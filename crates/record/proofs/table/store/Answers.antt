use mathlib.Core.Path.{sym, ◌∙◌}
use Rattle.record.specs.Search.{stored_slot}
use Rattle.record.proofs.Stores.{none-stored}
use Rattle.record.proofs.Canonical.{canonical-stored}
use borrow.Author.Rules.{rules}
use Rattle.record.proofs.table.store.Goals as goal

-- An empty slot changes nothing; the field of another is stored where the search ends.

pub returns-then-is_empty : goal.returns-then-is_empty
unfolding stored_slot
returns-then-is_empty c =
    let None = sym c.is_empty.ensures ∙ c.if-is_empty.true in
    record { table_after = none-stored _ _ None; keeps = λ is h. h; table_after_2 = rw None }

pub store_at-requires : goal.store_at-requires
store_at-requires c =
    (sym c.is_empty.ensures ∙ c.if-is_empty.false, c.find-place.ensures)

pub returns : goal.returns
unfolding stored_slot
returns c =
    let kept = sym c.is_empty.ensures ∙ c.if-is_empty.false in
    let fields = c.store_at.ensures.table_after in
    let keeps = canonical-stored c.args.table.now c.args.slot.now (search rules) kept in
    record { table_after = fields; keeps = λ is h. rw c.store_at.ensures.table_after_3 (keeps is _ c.find-place.ensures h); table_after_2 = c.store_at.ensures.table_after_3 ∙ rw (kept, c.find-place.ensures) }
