use mathlib.Core.Path.{sym, ◌∙◌}
use Rattle.matching.specs.Parts.{may_admit}
use Rattle.matching.proofs.Matched.{may-admit-told}
use Rattle.matching.proofs.path.may_admit.Goals as goal

-- Each kind has its own test.

pub returns-in-Names : goal.returns-in-Names
unfolding may_admit
returns-in-Names c = c.has_name.ensures ∙ sym (may-admit-told _ _ c.kind_of.ensures c.in-Names.is)

pub returns-in-Wildcard : goal.returns-in-Wildcard
unfolding may_admit
returns-in-Wildcard c = sym (may-admit-told _ _ c.kind_of.ensures c.in-Wildcard.is)

pub returns-in-Environment : goal.returns-in-Environment
unfolding may_admit
returns-in-Environment c = sym (may-admit-told _ _ c.kind_of.ensures c.in-Environment.is)
