use Rattle.opening.proofs.texts.conflict_in.Goals as goal

-- The policy stands behind the users.

pub returns : goal.returns
returns c = rw c.policy_of.ensures.0 at c.first_conflict.ensures
