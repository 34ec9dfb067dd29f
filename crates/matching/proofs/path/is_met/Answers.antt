use mathlib.Core.Path.{sym, ◌∙◌}
use Rattle.matching.specs.Parts.{is_met}
use Rattle.matching.proofs.Matched.{is-met-told}
use Rattle.matching.proofs.path.is_met.Goals as goal

-- Only an environment step asks the lines.

pub returns-in-Names : goal.returns-in-Names
unfolding is_met
returns-in-Names c = sym (is-met-told _ _ c.kind_of.ensures c.in-Names.is _)

pub returns-in-Wildcard : goal.returns-in-Wildcard
unfolding is_met
returns-in-Wildcard c = sym (is-met-told _ _ c.kind_of.ensures c.in-Wildcard.is _)

pub returns-in-Environment : goal.returns-in-Environment
unfolding is_met
returns-in-Environment c =
    rw c.first_name.ensures at c.is_listed.ensures
    ∙ sym (is-met-told _ _ c.kind_of.ensures c.in-Environment.is _)
