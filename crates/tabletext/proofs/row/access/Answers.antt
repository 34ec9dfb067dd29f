use Rattle.model.specs.Base.{text}
use Rattle.model.specs.Tables.{access_of}
use Rattle.tabletext.proofs.row.access.Goals as goal

-- The text is compared with each of the two words.

pub returns-then-same : goal.returns-then-same
unfolding access_of text
returns-then-same c = rw (← c.same.ensures, c.if-same.true)

pub returns-then-same-2 : goal.returns-then-same-2
unfolding access_of text
returns-then-same-2 c =
    rw (← c.same.ensures, c.if-same.false, ← c.same-2.ensures, c.if-same-2.true)

pub returns : goal.returns
unfolding access_of text
returns c =
    rw (← c.same.ensures, c.if-same.false, ← c.same-2.ensures, c.if-same-2.false)
