use mathlib.Core.Path.{sym, ◌∙◌}
use Rattle.tables.proofs.Held.{key-beside, covers-held}
use Rattle.tables.proofs.candidates.admitted.Goals as goal

-- A step that asks no line leaves out nobody; of one that does, nobody is met who has no line with the key.

pub asks-requires : goal.asks-requires
asks-requires c = c.row_at.ensures.1

pub returns-then-not-asks : goal.returns-then-not-asks
returns-then-not-asks c = record { covers_2 = c.requires.covers; found_2 = c.requires.found }

pub holders_at-requires : goal.holders_at-requires
holders_at-requires c =
    record { path_slot_in_bounds = (c.requires.steps_slot_in_bounds.1, key-beside _ _ c.requires.path_value.0 _ c.requires.path_value.1, c.requires.steps_slot_in_bounds.2); found = c.requires.found }

pub returns : goal.returns
returns c =
    let held = c.holders_at in
    let asks = sym c.asks.ensures ∙ c.if-not-asks.false in record { covers_2 = covers-held _ _ c.requires.path_value.0 c.args.i c.requires.path_value.1 _ c.row_at.ensures.0 asks _ _ _ c.requires.covers c.both.ensures held.ensures.by_index; found_2 = held.ensures.found_2 }
