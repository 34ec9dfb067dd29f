use mathlib.Core.Path.{sym, ◌∙◌}
use borrow.Author.Rules.{rules}
use native.Mathlib.Omega.{arith}
use Rattle.layout.proofs.Used.{used-fit, used-more}
use Rattle.record.specs.Slots.{slot_bytes}
use Rattle.model.specs.Limits.{max_fields}
use Rattle.writer.proofs.Shown.{shown-over, shown-stop, shown-step, shown-here}
use Rattle.writer.proofs.saved.next_shown.Goals as goal

-- Each turn passes a slot that is not shown; the slots in use end at an empty one or behind the last.

pub returns-then-is_empty : goal.returns-then-is_empty
returns-then-is_empty c =
    let l = c.loop-j in
    sym (l.invariant.1 ∙ shown-stop _ _ l.j (search rules) l.invariant.0 c.slot_at-slot.ensures.0 (sym c.is_empty.ensures ∙ c.if-is_empty.true))

pub returns-then-is_shown : goal.returns-then-is_shown
returns-then-is_shown c =
    let l = c.loop-j in
    let full = sym c.is_empty.ensures ∙ c.if-is_empty.false in
    sym (l.invariant.1 ∙ shown-here _ _ l.j (search rules) l.invariant.0 c.slot_at-slot.ensures.0 full (sym c.is_shown.ensures ∙ c.if-is_shown.true))

pub loop-j-preserved : goal.loop-j-preserved
loop-j-preserved c =
    let l = c.loop-j in
    let slot = c.slot_at-slot.ensures.0 in
    let full = sym c.is_empty.ensures ∙ c.if-is_empty.false in
    let step = shown-step _ _ l.j (search rules) l.invariant.0 slot full (sym c.is_shown.ensures ∙ c.if-is_shown.false) in
    (omega (arith, used-more slot_bytes max_fields _ l.j (search rules) l.invariant.0 slot full), l.invariant.1 ∙ step)

pub returns : goal.returns
returns c =
    let l = c.loop-j in
    sym (l.invariant.1 ∙ shown-over _ _ l.j (omega (arith, used-fit slot_bytes max_fields c.args.table.now)))
