use Prim.Native.Nat.{◌+◌, ◌-◌, ◌<◌}
use mathlib.Core.Path.{◌≡◌, ◌∙◌}
use native.Mathlib.Omega.{arith}
use borrow.Author.Rules.{rules}
use lib.ListN.{length}
use Rattle.record.specs.Slots.{fields_in, masks_in}
use Rattle.record.proofs.Masks.{masks-count}
use Rattle.opening.proofs.Masks.{masks-more, masks-all}
use Rattle.opening.proofs.fields.set_masks.Goals as goal

-- Each turn sets one mask more, and changes no field.

pub returns : goal.returns
returns c =
    let l = c.loop-i in
    let s = c.args.table.now in
    record { table_unchanged = l.invariant.0; agreed = l.invariant.1 ∙ masks-all _ (fields_in s) (masks_in s) (masks-count s) l.i (search rules) (search rules); keeps = l.invariant.2 }

pub loop-i-preserved : goal.loop-i-preserved
loop-i-preserved c =
    let l = c.loop-i in
    let a = c.args in
    let below : l.i < length (fields_in a.table.now) = omega (arith, c.loop-i-test.true, c.count-i-end.ensures) in
    let mask = rw l.invariant.0 at c.mask_at-mask.ensures.value in
    let found = rw l.invariant.0 at c.mask_at-mask.ensures.found_2 in
    let same = c.set_mask.ensures.table_unchanged in (
      same.0 ∙ l.invariant.0,
      same.1 ∙ rw l.invariant.1 (masks-more _ _ (masks_in a.table.now) (masks-count a.table.now) l.i below mask),
      (λ h. c.set_mask.ensures.keeps (l.invariant.2 h)),
      (let back : l.i + 1 - 1 ≡ l.i = omega arith in rw back found),
    )
