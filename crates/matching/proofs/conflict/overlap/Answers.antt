use mathlib.Core.Path.{sym, ◌∙◌}
use Rattle.matching.proofs.Conflicts.{overlap-left, overlap-right, overlap-names}
use Rattle.matching.proofs.conflict.overlap.Goals as goal

-- Another kind than a list of names overlaps everything; two lists overlap where they share a name.

pub returns : goal.returns
returns c =
    c.share.ensures
    ∙ sym (overlap-names _ _ c.kind_of.ensures c.in-Names.is c.kind_of-2.ensures c.in-Names-kind_of.is)

pub returns-in_default : goal.returns-in_default
returns-in_default c = sym (overlap-left _ _ c.kind_of.ensures c.in_default.not-Names)

pub returns-in_default-kind_of : goal.returns-in_default-kind_of
returns-in_default-kind_of c = sym (overlap-right _ _ c.kind_of-2.ensures c.in_default-kind_of.not-Names)
