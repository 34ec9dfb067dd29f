use Prim.Native.Nat.{◌+◌, ◌*◌, ◌-◌}
use mathlib.Core.Path.{◌≡◌, refl}
use native.Mathlib.Omega.{arith}
use borrow.Author.Rules.{rules}
use Rattle.record.specs.Slots.{slot_bytes}
use Rattle.record.proofs.Masks.{marked-fields, marked-masks, marked-canonical}
use Rattle.record.proofs.Stores.{fields_fit}
use Rattle.record.proofs.slot.set_mask.Goals as goal

-- The slot is lent, and comes back with the mask: the fields stay, and one mask is another.

pub overflow_mul-start : goal.overflow_mul-start
overflow_mul-start c = omega (arith, fields_fit c.args.table.now)

pub overflow_add-end : goal.overflow_add-end
overflow_add-end c = omega (arith, fields_fit c.args.table.now)

pub slice_bounds-put_mask-end : goal.slice_bounds-put_mask-end
slice_bounds-put_mask-end c = omega (arith, fields_fit c.args.table.now)

pub returns : goal.returns
returns c =
    let t = c.args.table.now in
    let i = c.args.i in
    let size : i * slot_bytes + slot_bytes - i * slot_bytes ≡ slot_bytes = omega arith in
    rw (c.put_mask.ensures, size) (record {
      table_unchanged = (marked-fields t (search rules) i c.requires c.args.mask (search rules), marked-masks t (search rules) i c.requires c.args.mask (search rules));
      keeps = marked-canonical t (search rules) i c.requires c.args.mask (search rules);
      table_after = refl;
    })
