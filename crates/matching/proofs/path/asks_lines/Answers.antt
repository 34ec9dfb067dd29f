use mathlib.Core.Path.{sym, ap, ◌∙◌}
use borrow.Author.Rules.{rules}
use Rattle.model.specs.Limits.{max_depth}
use Rattle.steps.specs.Steps.{step_row, step_in, steps_in}
use Rattle.matching.specs.Parts.{asks}
use Rattle.matching.proofs.Matched.{any_step, any-over}
use Rattle.matching.proofs.path.asks_lines.Goals as goal

-- Each turn leaves the question for the steps behind the one that it asked.

pub asks-requires : goal.asks-requires
asks-requires c = c.row_at.ensures.1

pub returns-then-asks : goal.returns-then-asks
unfolding steps_in
returns-then-asks c =
    let l = c.loop-i in
    let row = ap step_in c.row_at.ensures.0 in
    sym (l.invariant ∙ any_step step_in step_row max_depth asks _ l.i (search rules) row c.asks.ensures ∙ rw c.if-asks.true)

pub loop-i-preserved : goal.loop-i-preserved
unfolding steps_in
loop-i-preserved c =
    let l = c.loop-i in
    let row = ap step_in c.row_at.ensures.0 in
    l.invariant ∙ any_step step_in step_row max_depth asks _ l.i (search rules) row c.asks.ensures ∙ rw c.if-asks.false

pub returns : goal.returns
unfolding steps_in
returns c = let l = c.loop-i in sym (l.invariant ∙ any-over step_in step_row max_depth asks _ l.i (search rules))
