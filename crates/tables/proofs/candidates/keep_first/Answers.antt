use Rattle.tables.proofs.Held.{kept-all, kept_next, kept-end}
use Rattle.tables.proofs.candidates.keep_first.Goals as goal

-- Each turn forgets one more.

pub loop-i-init : goal.loop-i-init
loop-i-init c = kept-all _ _ c.requires

pub loop-i-preserved : goal.loop-i-preserved
loop-i-preserved c = let l = c.loop-i in kept_next _ _ l.i l.found l.invariant c.loop-i-test.true

pub returns : goal.returns
returns c = let l = c.loop-i in kept-end _ _ l.i l.found l.invariant c.loop-i-test.false
