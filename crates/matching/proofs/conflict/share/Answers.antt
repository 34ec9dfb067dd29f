use mathlib.Core.Path.{sym, ◌∙◌}
use borrow.Author.Rules.{rules}
use Rattle.model.specs.Limits.{max_listed}
use Rattle.layout.specs.Layout.{key_row, name_in}
use Rattle.steps.specs.Steps.{names_in}
use Rattle.matching.proofs.Matched.{any_step, any-over}
use Rattle.matching.proofs.conflict.share.Goals as goal

-- Each turn leaves the question for the names behind the one that it looked for.

pub returns-then-has_name : goal.returns-then-has_name
unfolding names_in
returns-then-has_name c =
    let l = c.loop-i in
    sym (l.invariant ∙ any_step name_in key_row max_listed _ _ l.i (search rules) c.key_at.ensures c.has_name.ensures ∙ rw c.if-has_name.true)

pub loop-i-preserved : goal.loop-i-preserved
unfolding names_in
loop-i-preserved c =
    let l = c.loop-i in
    l.invariant ∙ any_step name_in key_row max_listed _ _ l.i (search rules) c.key_at.ensures c.has_name.ensures ∙ rw c.if-has_name.false

pub returns : goal.returns
unfolding names_in
returns c = let l = c.loop-i in sym (l.invariant ∙ any-over name_in key_row max_listed _ _ l.i (search rules))
