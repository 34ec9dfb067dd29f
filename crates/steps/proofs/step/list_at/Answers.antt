use mathlib.Core.Path.{refl, sym, ◌∙◌}
use native.Mathlib.Omega.{arith}
use Rattle.model.specs.Limits.{max_listed}
use Rattle.layout.specs.Layout.{counted, key_row, CanonicalName}
use Rattle.layout.proofs.Canonical.{canonical-uncounted}
use Rattle.steps.proofs.StepBytes.{list-canonical}
use Rattle.steps.specs.Steps.{names_in, step_of}
use Rattle.steps.proofs.StepReaders.{NameStands, either-bad, either-at, names-bad, names-full, names-last, names-turn, list-none, list_is}
use borrow.Author.Rules.{rules}
use Rattle.steps.proofs.step.list_at.Goals.{In_ok-e}
use Rattle.steps.proofs.step.list_at.Goals as goal

-- Each turn reads one name and pushes it; what is left to read behind the names of the slot decides the list.

pub loop-init : goal.loop-init
unfolding names_in counted
loop-init c = (search rules, search rules, refl, refl, refl, canonical-uncounted (CanonicalName key_row) key_row max_listed)

pub returns-in_err-e : goal.returns-in_err-e
returns-in_err-e c =
    let no = either-bad _ _ _ c.either_at.ensures c.in_err-e.was in
    rw c.from_residual.ensures (list-none _ _ (c.loop.invariant.4 ∙ names-bad _ _ _ no), tt)

-- a name stands where `either_at` says
stands : (c : In_ok-e)
    → NameStands c.args.s.now c.loop.from c.in_ok-e.e
stands c = either-at _ _ _ c.either_at.ensures (omega arith) _ c.in_ok-e.was

pub overflow_sub-e : goal.overflow_sub-e
overflow_sub-e c = omega (arith, either-at _ _ _ c.either_at.ensures (omega arith) _ c.in_ok-e.was)

pub slice_bounds-push_key-count : goal.slice_bounds-push_key-count
slice_bounds-push_key-count c = omega (arith, stands (goal.at.slice_bounds-push_key-count c).In_ok-e)

pub slice_bounds-push_key-start : goal.slice_bounds-push_key-start
slice_bounds-push_key-start c = omega (arith, stands (goal.at.slice_bounds-push_key-start c).In_ok-e)

pub slice_bounds-push_key-end-in-loop : goal.slice_bounds-push_key-end-in-loop
slice_bounds-push_key-end-in-loop c = omega (arith, stands (goal.at.slice_bounds-push_key-end-in-loop c).In_ok-e)

pub returns-then-not-is_at : goal.returns-then-not-is_at
unfolding names_in step_of
returns-then-not-is_at c =
    let l = c.loop in
    let k = stands (goal.at.returns-then-not-is_at c).In_ok-e in
    let comma = sym c.is_at.ensures ∙ c.if-not-is_at.true in
    let last = names-last _ _ _ k (names_in l.names) _ c.push_key.ensures.slot_after l.counter l.invariant.3 c.loop-test.true comma in
    (list_is _ _ _ _ (omega (arith, k)) k.reads.to (l.invariant.4 ∙ last), list-canonical _ (c.push_key.ensures.keeps l.invariant.5))

pub overflow_add-from : goal.overflow_add-from
overflow_add-from c = omega (arith, (stands (goal.at.overflow_add-from c).In_ok-e).reads)

pub loop-preserved : goal.loop-preserved
unfolding names_in
loop-preserved c =
    let l = c.loop in
    let k = stands (goal.at.loop-preserved c).In_ok-e in
    let comma = sym c.is_at.ensures ∙ c.if-not-is_at.false in
    let turn = names-turn _ _ _ k (names_in l.names) _ c.push_key.ensures.slot_after l.counter l.invariant.3 c.loop-test.true comma in
    (omega (arith, k), turn.0, c.push_key.auto.slot ∙ l.invariant.2, turn.1, l.invariant.4 ∙ turn.2, c.push_key.ensures.keeps l.invariant.5)

pub returns : goal.returns
returns c = let l = c.loop in (list-none _ _ (l.invariant.4 ∙ names-full l.counter _ _ (omega arith)), tt)
