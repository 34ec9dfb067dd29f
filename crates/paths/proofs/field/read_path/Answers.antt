use mathlib.Core.Path.{refl, sym, ◌∙◌}
use Prim.Native.Nat.{◌<◌}
use lib.ListN.{length}
use Rattle.model.specs.Paths.{keys_of}
use Rattle.lexical.proofs.Runs.{byte-stands}
use Rattle.paths.specs.Layout.{path_in}
use Rattle.layout.specs.Layout.{counted, key_row, CanonicalName}
use Rattle.layout.proofs.Counts.{length-counted}
use Rattle.layout.proofs.Canonical.{canonical-uncounted}
use Rattle.model.specs.Limits.{max_depth}
use Rattle.paths.proofs.WholePaths.{path-unopened, path-opened, left-full, left-bad, left-none, left-all}
use Rattle.paths.proofs.KeySteps.{KeyStands, key-bad, key-at, key-turn}
use native.Mathlib.Omega.{arith}
use Rattle.paths.proofs.field.read_path.Goals.{In_ok-e}
use Rattle.paths.proofs.field.read_path.Goals as goal

-- Behind `$` each turn reads one key and pushes it; what is left to read behind the keys of the slot decides the path.

-- a key stands where `key_step` says
stands : (c : In_ok-e)
    → KeyStands c.args.s.now c.loop-at.at c.in_ok-e.e
stands c = key-at _ _ _ c.key_step.ensures (omega arith) _ c.in_ok-e.was

pub returns-then-not-is_at : goal.returns-then-not-is_at
unfolding keys_of
returns-then-not-is_at c = (sym (path-unopened _ _ (sym c.is_at.ensures ∙ c.if-not-is_at.true)), tt)

pub loop-at-init : goal.loop-at-init
unfolding keys_of path_in counted
loop-at-init c =
    let s = c.args.s.now in
    let dollar = sym c.is_at.ensures ∙ c.if-not-is_at.false in
    ((byte-stands 0x24 s 0 dollar).0, refl, path-opened _ s dollar, canonical-uncounted (CanonicalName key_row) key_row max_depth)

pub returns-then-count-ge-MAX_DEPTH : goal.returns-then-count-ge-MAX_DEPTH
unfolding path_in
returns-then-count-ge-MAX_DEPTH c =
    let l = c.loop-at in
    (sym (l.invariant.2 ∙ left-full _ _ l.at _ c.loop-at-test.true (rw length-counted (omega arith))), tt)

-- there is room for one key more
room : (c : In_ok-e) → length (path_in c.loop-at.slot) < max_depth
unfolding path_in
room c = rw length-counted (omega arith)

pub returns-in_err-e : goal.returns-in_err-e
unfolding path_in
returns-in_err-e c =
    let l = c.loop-at in
    let no = key-bad _ _ _ c.key_step.ensures c.in_err-e.was in
    rw c.from_residual.ensures (sym (l.invariant.2 ∙ left-bad _ _ l.at _ c.loop-at-test.true (rw length-counted (omega arith)) no), tt)

pub overflow_sub-e : goal.overflow_sub-e
overflow_sub-e c = omega (arith, key-at _ _ _ c.key_step.ensures (omega arith) _ c.in_ok-e.was)

pub slice_bounds-push_key-count : goal.slice_bounds-push_key-count
slice_bounds-push_key-count c = omega (arith, stands (goal.at.slice_bounds-push_key-count c).In_ok-e)

pub slice_bounds-push_key-start : goal.slice_bounds-push_key-start
slice_bounds-push_key-start c = omega (arith, stands (goal.at.slice_bounds-push_key-start c).In_ok-e)

pub slice_bounds-push_key-end-in-loop-at : goal.slice_bounds-push_key-end-in-loop-at
slice_bounds-push_key-end-in-loop-at c = omega (arith, stands (goal.at.slice_bounds-push_key-end-in-loop-at c).In_ok-e)

pub loop-at-smaller : goal.loop-at-smaller
loop-at-smaller c = omega (arith, stands (goal.at.loop-at-smaller c).In_ok-e)

pub loop-at-preserved : goal.loop-at-preserved
unfolding path_in
loop-at-preserved c =
    let w = (goal.at.loop-at-preserved c).In_ok-e in
    let push = c.push_key in
    let l = c.loop-at in
    let turn = key-turn _ _ _ (stands w) (path_in l.slot) (path_in push.new.slot) push.ensures.slot_after (room w) c.loop-at-test.true in
    ((stands w).reads.to, push.auto.slot ∙ l.invariant.1, l.invariant.2 ∙ turn, push.ensures.keeps l.invariant.3)

pub returns-then-count-eq0 : goal.returns-then-count-eq0
unfolding path_in
returns-then-count-eq0 c =
    let l = c.loop-at in
    (sym (l.invariant.2 ∙ left-none _ _ l.at _ (omega arith) (rw length-counted (omega arith))), tt)

pub returns : goal.returns
unfolding path_in
returns c =
    let l = c.loop-at in
    (sym (l.invariant.2 ∙ left-all _ _ l.at _ (omega arith) (rw length-counted (omega arith))), l.invariant.3)
