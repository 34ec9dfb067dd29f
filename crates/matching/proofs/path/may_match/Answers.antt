use mathlib.Core.Path.{sym, ◌∙◌}
use borrow.Author.Rules.{rules}
use Rattle.matching.specs.Parts.{may_match}
use Rattle.matching.proofs.Matched.{paired-unlike, paired-step, paired-end}
use Rattle.matching.proofs.path.may_match.Goals as goal

-- Paths of different lengths do not match; of equal lengths, each turn leaves the question for what stands behind a step that admits its key.

pub returns-then-count-n : goal.returns-then-count-n
unfolding may_match
returns-then-count-n c = sym (paired-unlike _ _ _ (rw (c.count.ensures, c.count-n.ensures) at c.if-count-n.true))

pub may_admit-requires : goal.may_admit-requires
may_admit-requires c = c.row_at.ensures.1

pub returns-then-not-may_admit : goal.returns-then-not-may_admit
unfolding may_match
returns-then-not-may_admit c =
    let l = c.loop-i in
    sym (l.invariant ∙ paired-step _ _ _ l.i (search rules) (search rules) c.row_at.ensures.0 c.key_at.ensures c.may_admit.ensures
    ∙ rw c.if-not-may_admit.true)

pub loop-i-preserved : goal.loop-i-preserved
unfolding may_match
loop-i-preserved c =
    let l = c.loop-i in
    l.invariant ∙ paired-step _ _ _ l.i (search rules) (search rules) c.row_at.ensures.0 c.key_at.ensures c.may_admit.ensures
    ∙ rw c.if-not-may_admit.false

pub returns : goal.returns
unfolding may_match
returns c = let l = c.loop-i in sym (l.invariant ∙ paired-end _ _ _ l.i (search rules) (search rules))
