use Prim.Native.Nat.{◌+◌}
use mathlib.Core.Path.{refl}
use native.Mathlib.Omega.{arith}
use borrow.Author.Rules.{rules}
use lib.ListN.{length-replicate}
use Rattle.model.specs.Base.{text}
use Rattle.buffers.proofs.Writers.{wrote-both}
use Rattle.writer.proofs.Remains.{remains-step, remains-end}
use Rattle.writer.proofs.Turns.{saved-none, saved-some, behind-none, behind-some}
use Rattle.writer.proofs.Shown.{Next, none-next, next}
use Rattle.writer.specs.Selected.{shown_in}
use Rattle.writer.proofs.saved.put_saved.Goals.{In-Some, In-Some-next_shown}
use Rattle.writer.proofs.saved.put_saved.Goals as goal

-- Before each turn what stands behind the value in slot i remains to be written; a turn writes on to behind the next value, at most 160 bytes.

-- the first field that is shown
first-shown : (c : In-Some) → Next c.args.table.now c.args.shown 0 c.in-Some.i
first-shown c = next _ _ 0 (omega arith) _ c.in-Some.ensures

-- the next one
next-shown : (c : In-Some-next_shown) → Next c.args.table.now c.args.shown (c.loop-next.i + 1) c.in-Some-next_shown.next
next-shown c = next _ _ _ (omega arith) _ c.in-Some-next_shown.ensures

pub returns-in_default-clause-wrote : goal.returns-in_default-clause-wrote
unfolding text shown_in
returns-in_default-clause-wrote c = rw (none-next _ _ 0 c.in_default.ensures, saved-none) c.put.ensures

pub slot_at-first-requires : goal.slot_at-first-requires
slot_at-first-requires c = (first-shown c).below

pub loop-next-init : goal.loop-next-init
loop-next-init c =
    let n = first-shown (goal.at.loop-next-init c).In-Some in
    (n.below, n.within, search rules, search rules, (refl, refl))

pub slot_at-slot-requires : goal.slot_at-slot-requires
slot_at-slot-requires c = (next-shown c).below

pub loop-next-smaller : goal.loop-next-smaller
loop-next-smaller c = let n = next-shown (goal.at.loop-next-smaller c).In-Some-next_shown in omega arith

pub loop-next-preserved : goal.loop-next-preserved
loop-next-preserved c =
    let n = next-shown (goal.at.loop-next-preserved c).In-Some-next_shown in
    let slot = c.slot_at-slot.ensures.0 in
    let rest = rw (n.is slot, ← c.slot_at.ensures.0, behind-some) at c.loop-next.invariant.4 in
    let turned = remains-step _ _ _ _ _ _ _ _ _ rest c.put_turn-to.ensures.wrote in
    let held = remains-step _ _ _ _ _ _ _ _ _ turned c.put_held-to-in-Some-next_shown.ensures.wrote in
    (n.below, n.within, omega arith, search rules, rw (← slot) held)

pub returns : goal.returns
unfolding text shown_in
returns c =
    let none = none-next _ _ _ c.in_default-next_shown.ensures in
    let last = c.slot_at-2 in
    let braces = behind-none last.result.now _ c.count.ensures in
    let end = remains-end _ _ _ _ _ _ _ _ (rw (none, ← last.ensures.0, braces) at c.loop-next.invariant.4) c.put_braces.ensures in
    let slot = c.slot_at-first.ensures.0 in
    let held = wrote-both _ _ _ _ _ _ _ _ c.put_held-to.ensures.wrote (rw (← slot) at end) in
    let opened = wrote-both _ _ _ _ _ _ _ _ c.put_descent-to.ensures.wrote held in
    record { wrote = rw ((first-shown (goal.at.returns c).In-Some).is slot, saved-some) (wrote-both _ _ _ _ _ _ _ _ c.put_byte-to.ensures opened); upper_bound = omega (arith, simp length-replicate at c.put_braces.ensures.0) }
