use borrow.Author.Rules.{rules}
use Rattle.model.specs.Limits.{max_users}
use Rattle.layout.proofs.Used.{counted-fit}
use Rattle.tables.specs.Memory.{user_row}
use Rattle.tables.proofs.Held.{covers-all}
use Rattle.tables.proofs.candidates.candidates.Goals as goal

-- At first all users are there; each turn leaves out those whom one step more does not admit.

pub first_places-mask-requires : goal.first_places-mask-requires
first_places-mask-requires c =
    counted-fit user_row max_users c.args.tables.now c.requires.steps_slot_in_bounds.2

pub loop-i-init : goal.loop-i-init
loop-i-init c =
    (c.requires.found, covers-all _ _ _ c.requires.steps_slot_in_bounds.2 _ c.first_places-mask.ensures)

pub admitted-mask-requires : goal.admitted-mask-requires
admitted-mask-requires c =
    let l = c.loop-i in
    record { steps_slot_in_bounds = c.requires.steps_slot_in_bounds; path_value = (c.requires.path_value, search rules); found = l.invariant.0; covers = l.invariant.1 }

pub loop-i-preserved : goal.loop-i-preserved
loop-i-preserved c = (c.admitted-mask.ensures.found_2, c.admitted-mask.ensures.covers_2)

pub returns : goal.returns
returns c = let l = c.loop-i in record { covers = l.invariant.1; found_2 = l.invariant.0 }
