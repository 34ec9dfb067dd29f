use mathlib.Core.Path.{refl}
use Rattle.tabletext.specs.Reading.{kept_or}
use Rattle.tabletext.proofs.Lined.{row-short, row-whole}
use Rattle.tabletext.proofs.read.read_row.Goals as goal

-- A line with another number of values than the head is refused, and nothing is written; of any other the row decides.

pub returns-then-count-clause-adds : goal.returns-then-count-clause-adds
unfolding kept_or
returns-then-count-clause-adds c = rw (row-short _ _ _ _ c.count.ensures c.count-2.ensures c.if-count.true) (refl, refl)

pub returns-clause-adds : goal.returns-clause-adds
returns-clause-adds c =
    rw (row-whole _ _ _ _ c.count.ensures c.count-2.ensures c.if-count.false) c.add_row.ensures.adds
