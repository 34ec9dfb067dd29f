use mathlib.Core.Path.{sym, ◌∙◌}
use Rattle.matching.proofs.Conflicts.{above_step, above-end}
use borrow.Author.Rules.{rules}
use Rattle.matching.proofs.conflict.is_above.Goals as goal

-- Each turn leaves the question for what stands behind two steps that overlap.

pub overlap-requires : goal.overlap-requires
overlap-requires c = (c.row_at.ensures.1, c.row_at-in-loop-i.ensures.1)

pub returns-then-not-overlap : goal.returns-then-not-overlap
returns-then-not-overlap c =
    let l = c.loop-i in
    sym (l.invariant ∙ above_step _ _ l.i (search rules) (search rules) c.row_at.ensures.0 c.row_at-in-loop-i.ensures.0 c.overlap.ensures
    ∙ rw c.if-not-overlap.true)

pub loop-i-preserved : goal.loop-i-preserved
loop-i-preserved c =
    let l = c.loop-i in
    l.invariant ∙ above_step _ _ l.i (search rules) (search rules) c.row_at.ensures.0 c.row_at-in-loop-i.ensures.0 c.overlap.ensures
    ∙ rw c.if-not-overlap.false

pub returns : goal.returns
returns c = let l = c.loop-i in sym (l.invariant ∙ above-end _ _ l.i (search rules) (search rules))
