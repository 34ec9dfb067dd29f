use Prim.Native.Nat.{◌<◌}
use mathlib.Core.Path.{refl, sym, ◌∙◌}
use native.Mathlib.Omega.{arith}
use lib.ListN.{length}
use Rattle.rows.specs.Positions.{Takes}
use Rattle.model.specs.Paths.{read_step}
use Rattle.lexical.proofs.Runs.{byte-stands}
use Rattle.layout.specs.Layout.{counted}
use Rattle.layout.proofs.Counts.{length-counted}
use Rattle.layout.proofs.Canonical.{canonical-uncounted}
use Rattle.model.specs.Limits.{max_depth}
use Rattle.paths.proofs.WholePaths.{path-unopened, path-opened, left-full, left-bad, left-none, left-all}
use Rattle.steps.specs.Steps.{step_row, step_of, steps_in, CanonicalStep}
use Rattle.steps.proofs.StepReaders.{step-none, step-takes}
use Rattle.steps.proofs.StepPushes.{step-turn}
use Rattle.steps.proofs.policy.read_all.Goals.{In_ok-step}
use Rattle.steps.proofs.policy.read_all.Goals as goal

-- Behind `$` each turn reads one step and pushes it; what is left to read behind the steps of the slot decides the path.

pub returns-then-not-is_at : goal.returns-then-not-is_at
returns-then-not-is_at c = (sym (path-unopened _ _ (sym c.is_at.ensures ∙ c.if-not-is_at.true)), tt)

pub loop-at-init : goal.loop-at-init
unfolding steps_in counted
loop-at-init c =
    let s = c.args.s.now in
    let dollar = sym c.is_at.ensures ∙ c.if-not-is_at.false in
    ((byte-stands 0x24 s 0 dollar).0, refl, path-opened _ s dollar, canonical-uncounted CanonicalStep step_row max_depth)

pub returns-then-count-ge-MAX_DEPTH : goal.returns-then-count-ge-MAX_DEPTH
unfolding steps_in
returns-then-count-ge-MAX_DEPTH c =
    let l = c.loop-at in
    (sym (l.invariant.2 ∙ left-full _ _ l.at _ c.loop-at-test.true (rw length-counted (omega arith))), tt)

pub returns-in_err-step : goal.returns-in_err-step
unfolding steps_in
returns-in_err-step c =
    let l = c.loop-at in
    let no = step-none _ _ c.in_err-step.ensures.0 in
    rw c.from_residual.ensures (sym (l.invariant.2 ∙ left-bad _ _ l.at _ c.loop-at-test.true (rw length-counted (omega arith)) no), tt)

-- a step stands where `step_at` says, and it has a byte at least
takes : (c : In_ok-step)
    → Takes read_step c.args.s.now c.loop-at.at (step_of c.in_ok-step.step) c.in_ok-step.to
takes c = step-takes _ _ (omega arith) _ _ c.in_ok-step.ensures.0

-- there is room for one step more
room : (c : In_ok-step) → length (steps_in c.loop-at.slot) < max_depth
unfolding steps_in
room c = rw length-counted (omega arith)

pub loop-at-smaller : goal.loop-at-smaller
loop-at-smaller c = omega (arith, takes (goal.at.loop-at-smaller c).In_ok-step)

pub loop-at-preserved : goal.loop-at-preserved
loop-at-preserved c =
    let w = (goal.at.loop-at-preserved c).In_ok-step in
    let push = c.push_step in
    let l = c.loop-at in
    let r = (takes w).1 in
    let turn = step-turn (steps_in l.slot) (steps_in push.new.slot) _ push.ensures.slot_after (room w) _ l.at _ r c.loop-at-test.true in
    (r.to, push.auto.slot ∙ l.invariant.1, l.invariant.2 ∙ turn, push.ensures.keeps c.in_ok-step.ensures.1 l.invariant.3)

pub returns-then-count-eq0 : goal.returns-then-count-eq0
unfolding steps_in
returns-then-count-eq0 c =
    let l = c.loop-at in
    (sym (l.invariant.2 ∙ left-none _ _ l.at _ (omega arith) (rw length-counted (omega arith))), tt)

pub returns : goal.returns
unfolding steps_in
returns c =
    let l = c.loop-at in
    (sym (l.invariant.2 ∙ left-all _ _ l.at _ (omega arith) (rw length-counted (omega arith))), l.invariant.3)
