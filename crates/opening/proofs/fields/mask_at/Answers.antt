use native.Mathlib.Nat.{le_of_eq}
use native.Mathlib.Omega.{arith}
use borrow.Author.Rules.{rules}
use Rattle.record.proofs.Stores.{fields_fit}
use Rattle.opening.proofs.Masks.{slot-path}
use Rattle.opening.proofs.fields.mask_at.Goals as goal

-- What is kept was found out of the keys that the two paths share.

pub slot_at-slot-requires : goal.slot_at-slot-requires
slot_at-slot-requires c = omega (arith, c.requires.i_in_bounds, fields_fit c.args.table.now)

pub readers_by-requires : goal.readers_by-requires
readers_by-requires c =
    let s = c.args.table.now in
    let place = c.saturating_sub.ensures in
    let last = rw place at (slot-path s _ c.saturating_sub.result c.slot_at.ensures.0 (omega (arith, place, c.requires.i_in_bounds))) in
    record { path_slot_in_bounds = search rules; found = c.keep_first.ensures _ _ _ (le_of_eq c.shared_keys.ensures) (rw last c.requires.found) }

pub returns : goal.returns
returns c =
    let this = slot-path c.args.table.now _ c.args.i c.slot_at-slot.ensures.0 c.requires.i_in_bounds in
    rw this at c.readers_by.ensures
