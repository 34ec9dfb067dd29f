use borrow.Author.Rules.{rules}
use Rattle.record.proofs.Slots.{text-part, text-short}
use Rattle.record.proofs.slot.value_text.Goals as goal

-- The text is as long as the byte before it says, at most what there is room for.

pub returns : goal.returns
returns c =
    let s = c.args.slot.now in
    let e = text-part s _ (search rules) c.count-end.ensures in
    record { result_value = e; result_len_bound = rw e (text-short s) }
