use Rattle.model.specs.Names.{is_name_of}
use Rattle.model.proofs.Reading.{within-yes}
use Rattle.lexical.proofs.Runs.{within-below, within-above, all-ends}
use Rattle.lexical.proofs.class.is_name_of.Goals as goal

-- A length outside of the bounds, or else whether the run of name bytes ends at the end.

pub returns-then-s-lt1 : goal.returns-then-s-lt1
unfolding is_name_of
returns-then-s-lt1 c = rw (within-below 1 _ _ c.if-s-lt1.true)

pub returns-then-most-s : goal.returns-then-most-s
unfolding is_name_of
returns-then-most-s c = rw (within-above 1 _ _ c.if-most-s.true)

pub returns : goal.returns
unfolding is_name_of
returns c = rw (within-yes 1 _ _ c.if-s-lt1.false c.if-most-s.false) (all-ends _ _ _ c.run.ensures)
