use borrow.Author.Rules.{rules}
use Rattle.tables.proofs.Held.{key-is, found-more}
use Rattle.tables.proofs.candidates.holders_at.Goals as goal

-- What was found out is answered again; what was not is found out, and kept at its place.

pub returns-in-Some : goal.returns-in-Some
returns-in-Some c =
    let known = c.requires.found in
    record { by_index = known.holders _ _ c.in-Some.is; found_2 = known }

pub returns : goal.returns
returns c =
    let held = rw (key-is _ _ c.requires.path_slot_in_bounds.1 c.key_at.ensures) at c.holders-mask.ensures in
    record { by_index = held; found_2 = found-more _ _ _ c.requires.found _ _ (search rules) held }
