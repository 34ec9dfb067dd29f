use borrow.Author.Rules.{rules}
use Rattle.tables.proofs.Held.{found_none}
use Rattle.tables.proofs.rights.readers.Goals as goal

-- Nothing is found out of any path at first.

pub readers_by-requires : goal.readers_by-requires
readers_by-requires c = record { path_slot_in_bounds = search rules; found = found_none _ _ }
