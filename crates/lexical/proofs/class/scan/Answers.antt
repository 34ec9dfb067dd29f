use Rattle.rows.proofs.Positions.{run-within}
use Rattle.lexical.proofs.Runs.{within-below, within-above}
use Rattle.lexical.proofs.Between.{scan-misfit, scan-fits}
use borrow.Author.Rules.{rules}
use Rattle.lexical.proofs.class.scan.Goals.{After-run-to}
use Rattle.lexical.proofs.class.scan.Goals as goal

-- How many bytes the run has decides.

pub overflow_sub-to : goal.overflow_sub-to
overflow_sub-to c = (run-within _ _ _ _ c.run-to.ensures (search rules)).0

pub returns-then-to-at : goal.returns-then-to-at
returns-then-to-at c = scan-misfit _ _ _ _ _ _ c.run-to.ensures (within-below _ _ _ c.if-to-at.true)

pub overflow_sub-to-2 : goal.overflow_sub-to-2
overflow_sub-to-2 c = overflow_sub-to (goal.at.overflow_sub-to-2 c).After-run-to

pub returns-then-most-to : goal.returns-then-most-to
returns-then-most-to c = scan-misfit _ _ _ _ _ _ c.run-to.ensures (within-above _ _ _ c.if-most-to.true)

pub returns : goal.returns
returns c = scan-fits _ _ _ _ _ _ c.run-to.ensures c.if-to-at.false c.if-most-to.false
