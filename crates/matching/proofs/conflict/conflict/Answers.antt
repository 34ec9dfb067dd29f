use mathlib.Core.Path.{sym, ◌∙◌}
use Rattle.matching.proofs.Conflicts.{conflict-shorter, conflict-longer, conflict-equal}
use borrow.Author.Rules.{rules}
use Rattle.matching.proofs.conflict.conflict.Goals as goal

-- Only the shorter of the two paths can be above the other.

pub returns-then-m-n : goal.returns-then-m-n
returns-then-m-n c = c.is_above.ensures ∙ sym (conflict-shorter _ _ (search rules))

pub returns-then-n-m : goal.returns-then-n-m
returns-then-n-m c = c.is_above-then-n-m.ensures ∙ sym (conflict-longer _ _ (search rules))

pub returns : goal.returns
returns c = sym (conflict-equal _ _ (search rules))
