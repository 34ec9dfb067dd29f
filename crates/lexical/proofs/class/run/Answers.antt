use mathlib.Core.Path.{◌≡◌, sym, ◌∙◌}
use native.Mathlib.Omega.{arith}
use lib.ListN.{length}
use Rattle.rows.proofs.Positions.{run_step, run-stop, run-over}
use Rattle.lexical.proofs.class.run.Goals as goal

-- The run from `at` ends where the run from i does.

pub loop-i-preserved : goal.loop-i-preserved
loop-i-preserved c = c.loop-i.invariant ∙ run_step _ _ 0 _ c.loop-i-test.true (sym c.passes.ensures ∙ c.if-not-passes.false)

pub returns-then-not-passes : goal.returns-then-not-passes
returns-then-not-passes c = sym (c.loop-i.invariant ∙ run-stop _ _ 0 _ c.loop-i-test.true (sym c.passes.ensures ∙ c.if-not-passes.true))

pub returns : goal.returns
returns c =
    let e : length c.args.s.now ≡ c.loop-i.i = omega arith in
    e ∙ sym (c.loop-i.invariant ∙ run-over _ _ _ c.loop-i-test.false)
