use native.Mathlib.Omega.{arith}
use borrow.Author.Rules.{rules}
use lib.ListN.{length-take}
use Rattle.model.specs.Base.{text}
use Rattle.record.proofs.Slots.{value-short}
use Rattle.writer.proofs.Shown.{held_none, held-end, held-some}
use Rattle.writer.proofs.saved.put_held.Goals as goal

-- What is read at the start of the slot's text is how the value is written, and false is written where nothing is: no more than there is room for.

pub returns-in_default : goal.returns-in_default
unfolding text
returns-in_default c =
    let e = held_none _ _ c.value_text-text.ensures.result_value _ c.value_at.ensures.result_value c.in_default.is in
    record { wrote = rw (← e) c.put.ensures; upper_bound = search rules }

pub slice_bounds-put-end-2 : goal.slice_bounds-put-end-2
slice_bounds-put-end-2 c =
    held-end _ _ c.value_text-text.ensures.result_value _ c.value_at.ensures.result_value _ _ c.in-Some.is

pub put-requires-2 : goal.put-requires-2
put-requires-2 c = rw length-take (search rules)

pub returns : goal.returns
returns c =
    let s = c.args.slot.now in
    let e = held-some s _ c.value_text-text.ensures.result_value _ c.value_at.ensures.result_value _ _ c.in-Some.is in
    let w = rw e at c.put-2.ensures in
    record { wrote = w; upper_bound = omega (arith, value-short s) }
