use native.Mathlib.Omega.{arith}
use Prim.Native.Nat.{◌+◌, ◌*◌, ◌≤◌}
use lib.ListN.{length, length-take, length-drop}
use Rattle.model.specs.Limits.{max_fields}
use Rattle.layout.specs.Layout.{Holds}
use Rattle.layout.proofs.Changed.{moved-room, inserted-used, bytes-inserted}
use Rattle.record.specs.Slots.{slot_bytes}
use Rattle.record.proofs.insert.insert_slot.Goals.{After-moved_end-end, Start}
use Rattle.record.proofs.insert.insert_slot.Goals as goal

-- The slots in use from the place on move one place later, and the slot stands before them.

holds : (c : Start) → Holds slot_bytes max_fields c.args.table.now
holds c = (omega arith, omega arith)

-- the slot has room before the end, which lies in the table
room : (c : After-moved_end-end) → let a = c.args in
    (a.i * slot_bytes + slot_bytes ≤ c.moved_end-end.result) × (c.moved_end-end.result ≤ length a.table.now)
room c =
    let a = c.args in
    let p = c.requires.table_len in
    rw c.moved_end-end.ensures (moved-room slot_bytes max_fields a.i a.slot.now a.table.now (((omega arith, omega arith))) p.1 p.2 c.requires.i_lt_max_fields.0 c.requires.i_lt_max_fields.1)

pub slice_bounds-put_before-count : goal.slice_bounds-put_before-count
slice_bounds-put_before-count c = omega (arith, room c)

pub slice_bounds-put_before-start : goal.slice_bounds-put_before-start
slice_bounds-put_before-start c = omega (arith, room c)

pub slice_bounds-put_before-end : goal.slice_bounds-put_before-end
slice_bounds-put_before-end c = omega (arith, room c)

pub put_before-requires : goal.put_before-requires
put_before-requires c =
    (c.requires.table_len.1, simp (length-take, length-drop) (omega (arith, room (goal.at.put_before-requires c).After-moved_end-end)))

pub returns : goal.returns
returns c =
    let a = c.args in
    let p = c.requires.table_len in
    let is = bytes-inserted slot_bytes max_fields a.i a.slot.now a.table.now (holds (goal.at.returns c).Start) p.1 p.2 c.requires.i_lt_max_fields.0 c.requires.i_lt_max_fields.1 c.moved_end-end.ensures c.put_before.ensures in
    record { table_after = rw is (inserted-used slot_bytes max_fields a.i a.slot.now a.table.now (holds (goal.at.returns c).Start) p.1 p.2 c.requires.i_lt_max_fields.0 c.requires.i_lt_max_fields.1); table_after_2 = is }
