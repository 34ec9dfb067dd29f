use Prim.Native.Nat.{◌+◌}
use mathlib.Core.Path.{◌≡◌, sym, ◌∙◌}
use mathlib.Core.Bool.{◌||◌}
use lib.ListN.{drop}
use native.Mathlib.Omega.{arith}
use Rattle.record.proofs.Stores.{fields_fit}
use borrow.Author.Rules.{rules}
use Rattle.model.specs.Base.{any}
use Rattle.record.specs.Slots.{fields_in}
use Rattle.tables.specs.Memory.{policy_in}
use Rattle.opening.proofs.Conflicting.{conflicts, fields-over, conflicts-left}
use Rattle.opening.proofs.fields.has_conflicting_field.Goals.{After-has_conflict}
use Rattle.opening.proofs.fields.has_conflicting_field.Goals as goal

-- Each turn leaves the question for the fields behind the one that it asked.

-- a turn: the field in the slot at i is in conflict, or a later one is
turn : (c : After-has_conflict)
    → let i = c.loop-i.i in
    let a = c.args in
    let p = conflicts (policy_in a.policy.now) in
    any p (fields_in a.table.now) ≡ (c.has_conflict.result || any p (drop (i + 1) (fields_in a.table.now)))
turn c =
    let l = c.loop-i in
    l.invariant ∙ conflicts-left _ c.count-i-end.ensures l.i c.loop-i-test.true _ c.slot_at.ensures.0 c.steps_of-steps.ensures c.has_conflict.ensures

pub slot_at-requires : goal.slot_at-requires
slot_at-requires c = omega (arith, c.count-i-end.ensures, fields_fit c.args.table.now)

pub returns-then-has_conflict : goal.returns-then-has_conflict
returns-then-has_conflict c = sym (turn (goal.at.returns-then-has_conflict c).After-has_conflict ∙ rw c.if-has_conflict.true)

pub loop-i-preserved : goal.loop-i-preserved
loop-i-preserved c = turn (goal.at.loop-i-preserved c).After-has_conflict ∙ rw c.if-has_conflict.false

pub returns : goal.returns
unfolding any
returns c = let l = c.loop-i in sym (l.invariant ∙ rw (fields-over _ c.count-i-end.ensures l.i (search rules)))
