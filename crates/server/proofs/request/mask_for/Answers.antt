use mathlib.Core.Path.{sym, ◌∙◌}
use native.Mathlib.Omega.{arith}
use Rattle.record.proofs.Places.{at-below}
use Rattle.record.proofs.Stores.{fields_fit}
use Rattle.record.proofs.Masks.{mask-slot}
use Rattle.server.specs.Masked.{mask_at}
use Rattle.server.proofs.request.mask_for.Goals as goal

-- The mask in the slot that was found, or one made anew.

pub slot_at-requires : goal.slot_at-requires
slot_at-requires c =
    omega (arith, at-below _ _ _ (sym c.requires ∙ c.in-At.is), fields_fit c.args.fields.now)

pub returns-in-At : goal.returns-in-At
unfolding mask_at
returns-in-At c =
    let is = c.in-At.is in
    let below = at-below _ _ _ (sym c.requires ∙ is) in
    rw is (c.mask_of.ensures ∙ mask-slot c.args.fields.now _ c.slot_at.ensures.0 below)

pub returns-in-Before : goal.returns-in-Before
unfolding mask_at
returns-in-Before c = rw c.in-Before.is c.readers.ensures
