use mathlib.Core.Path.{◌≡◌, sym, ap, ◌∙◌}
use native.Mathlib.Omega.{arith}
use lib.ListN.{length, take}
use lib.Seq.{take_all}
use Rattle.paths.specs.Layout.{path_slot}
use Rattle.record.specs.Slots.{slot_bytes}
use Rattle.record.proofs.Slots.{slot-long, filled}
use borrow.Author.Rules.{rules}
use Rattle.record.proofs.slot.fill.Goals.{Start}
use Rattle.record.proofs.slot.fill.Goals as goal

-- The path is copied and the mask put, then the value's text is written behind the byte that says its length, as far as there is room for it.

-- as long as the zeros are
long : (s : Start) → length s.args.slot.now ≡ slot_bytes
long s = ap length s.requires.0

-- the path is as long as what is written of it
whole : (s : Start) → take path_slot s.args.path.now ≡ s.args.path.now
whole s = take_all path_slot s.args.path.now (omega (arith, s.requires.1))

pub copy-requires : goal.copy-requires
copy-requires c = let l = long (goal.at.copy-requires c).Start in search rules

pub put_mask-requires : goal.put_mask-requires
put_mask-requires c = let l = long (goal.at.put_mask-requires c).Start in search rules

pub slice_bounds-put_value-count : goal.slice_bounds-put_value-count
slice_bounds-put_value-count c = omega (arith, long (goal.at.slice_bounds-put_value-count c).Start)

pub slice_bounds-put_value-start : goal.slice_bounds-put_value-start
slice_bounds-put_value-start c = let l = long (goal.at.slice_bounds-put_value-start c).Start in search rules

pub bounds-slot-107 : goal.bounds-slot-107
bounds-slot-107 c = let l = long (goal.at.bounds-slot-107 c).Start in search rules

pub returns : goal.returns
returns c =
    filled _ c.args.path.now _ _ _ c.args.mask _ _ _ c.requires.0 c.requires.1 (rw (whole (goal.at.returns c).Start) at c.copy.ensures) c.put_mask.ensures c.put_value-n.ensures c.length_byte.ensures

pub shape_of-slot : goal.shape_of-slot
shape_of-slot c = ap length (returns c) ∙ slot-long _ _ _ c.requires.1 ∙ sym (long (goal.at.shape_of-slot c).Start)
