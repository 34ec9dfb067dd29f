use borrow.Author.Rules.{rules}
use Rattle.writer.specs.Selected.{is_shown}
use Rattle.writer.proofs.saved.is_shown.Goals as goal

-- A slot is shown to all, or to the user whose bit its mask has.

pub has_bit-requires : goal.has_bit-requires
has_bit-requires c =
    let h = rw c.in-To.is at c.requires.1 in
    search rules

pub returns-in-All : goal.returns-in-All
unfolding is_shown
returns-in-All c = rw c.in-All.is

pub returns-in-To : goal.returns-in-To
unfolding is_shown
returns-in-To c = rw (c.in-To.is, ← c.mask_of.ensures) c.has_bit.ensures
