use mathlib.Core.Path.{refl}
use native.Mathlib.Omega.{arith}
use borrow.Author.Rules.{rules}
use Rattle.model.specs.Limits.{max_depth}
use Rattle.model.specs.Base.{text, joined}
use Rattle.model.specs.Paths.{step_text, steps_text}
use Rattle.buffers.proofs.Writers.{wrote_none, wrote-both}
use Rattle.steps.specs.Steps.{step_row, step_in, steps_in}
use Rattle.paths.proofs.Spelled.{spelled_step_lem, spelled-all}
use Rattle.steps.proofs.StepTexts.{step-length}
use Rattle.steps.proofs.policy.put_steps.Goals as goal

-- Before each turn the steps so far are written behind the first byte, each of bounded length.

pub loop-i-init : goal.loop-i-init
unfolding joined
loop-i-init c = (search rules, refl, wrote_none _ _)

pub put_step-to-requires : goal.put_step-to-requires
put_step-to-requires c =
    let l = c.loop-i in
    let s = c.args.slot.now in
    (c.row_at.ensures.1, search rules)

pub loop-i-preserved : goal.loop-i-preserved
loop-i-preserved c =
    let l = c.loop-i in
    let s = c.args.slot.now in
    let row = c.row_at in
    let put = c.put_step-to.ensures in
    let k = step-length row.result.now in
    let all = wrote-both _ _ _ _ _ _ _ _ l.invariant.2 put in
    (omega arith, search rules, rw (spelled_step_lem step_in step_row max_depth step_text s l.i (search rules), ← row.ensures.0) all)

pub returns : goal.returns
unfolding steps_in steps_text text
returns c =
    let l = c.loop-i in
    let s = c.args.slot.now in
    let all = wrote-both _ _ _ _ _ _ _ _ c.put_byte-to.ensures l.invariant.2 in
    record { wrote = rw (← spelled-all step_in step_row max_depth step_text s l.i (search rules)) all; upper_bound = search rules }
