use mathlib.Core.Path.{◌≡◌, sym, ◌∙◌}
use native.Mathlib.Omega.{arith}
use lib.ListN.{length}
use Rattle.rows.proofs.Positions.{run_step, run-stop, run-over}
use Rattle.lexical.proofs.Runs.{is-it, is-other}
use Rattle.lexical.proofs.slice.until.Goals as goal

-- The byte that next stands from `at` on is the one that next stands from i on.

pub returns-then-s-i : goal.returns-then-s-i
returns-then-s-i c = sym (c.loop-i.invariant ∙ run-stop _ _ 0 _ c.loop-i-test.true (is-it _ _ c.if-s-i.true))

pub loop-i-preserved : goal.loop-i-preserved
loop-i-preserved c = c.loop-i.invariant ∙ run_step _ _ 0 _ c.loop-i-test.true (is-other _ _ c.if-s-i.false)

pub returns : goal.returns
returns c =
    let e : length c.args.s.now ≡ c.loop-i.i = omega arith in
    e ∙ sym (c.loop-i.invariant ∙ run-over _ _ _ c.loop-i-test.false)
