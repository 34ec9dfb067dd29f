use mathlib.Core.Path.{sym, ◌∙◌}
use borrow.Author.Rules.{rules}
use Rattle.model.specs.Limits.{max_listed}
use Rattle.model.specs.Base.{among}
use Rattle.layout.specs.Layout.{key_row, name_in}
use Rattle.steps.specs.Steps.{names_in}
use Rattle.matching.proofs.Matched.{any_step, any-over}
use Rattle.matching.proofs.path.has_name.Goals as goal

-- Each turn leaves the question for the names behind the one that it compared.

pub returns-then-same : goal.returns-then-same
unfolding names_in among
returns-then-same c =
    let l = c.loop-i in
    sym (l.invariant ∙ any_step name_in key_row max_listed _ _ l.i (search rules) c.key_at.ensures c.same.ensures ∙ rw c.if-same.true)

pub loop-i-preserved : goal.loop-i-preserved
unfolding names_in among
loop-i-preserved c =
    let l = c.loop-i in
    l.invariant ∙ any_step name_in key_row max_listed _ _ l.i (search rules) c.key_at.ensures c.same.ensures ∙ rw c.if-same.false

pub returns : goal.returns
unfolding names_in among
returns c = let l = c.loop-i in sym (l.invariant ∙ any-over name_in key_row max_listed _ _ l.i (search rules))
