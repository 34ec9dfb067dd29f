-- The masks beside the fields: in a slot, in a table, and once a slot is stored or its mask becomes another.
use Prim.Native.Nat.{ℕ, ◌+◌, ◌*◌, ◌-◌, ◌^◌, ◌≤◌, ◌<◌}
use mathlib.Core.Path.{◌≡◌, sym, ap, ap₂, ◌∙◌}
use mathlib.Core.Bool.{false}
use mathlib.Core.List.{[], ◌++◌, append_assoc}
use native.Mathlib.Omega.{arith}
use lib.ListN.{length, get_or, take, drop, set, length-take, length-drop, length-append}
use lib.Seq.{take_all, set-get_or}
use Rattle.rows.specs.Rows.{Wrote}
use Rattle.rows.proofs.Rows.{insert-past}
use Rattle.rows.proofs.Writing.{written-clipped}
use Rattle.rows.proofs.Parts.{length_part}
use Rattle.rows.proofs.Positions.{here}
use Rattle.layout.specs.Layout.{is_empty, in_use, Holds, over_row, Keeps, encode_name}
use Rattle.layout.proofs.Used.{length-table, table_at, table-fit, used-at, used-fit, used-full}
use Rattle.layout.proofs.Changed.{used-set, table-set, row_inside}
use Rattle.layout.proofs.Canonical.{all_drop, canonical-set}
use Rattle.model.specs.Base.{Bytes}
use Rattle.model.specs.Limits.{max_fields, max_users}
use Rattle.model.specs.Values.{value_text}
use Rattle.masks.specs.Bits.{encode_mask}
use Rattle.masks.proofs.Bits.{mask-long}
use Rattle.paths.specs.Layout.{path_slot, path_in, encode_path}
use Rattle.record.specs.declared.table.Place.TheVariants.{Before}
use Rattle.record.specs.Slots.{value_room, length_at, slot_bytes, record_bytes, text_in, value_in, field_in, mask_in, fields_in, masks_in, with_mask, encode_field, CanonicalField, CanonicalFields}
use Rattle.record.specs.Search.{stored_masks}
use Rattle.record.proofs.Slots.{text-rest, path-same, empty-same, value-long, head-long, path-first, rest-last, mask-between}
use Rattle.record.proofs.Search.{fields-used}

-- ── In a table ──
module _ (s : Bytes) where
  pub masks-count : length (masks_in s) ≡ length (fields_in s)
  unfolding masks_in
  masks-count = length-table mask_in slot_bytes max_fields s ∙ sym (fields-used s)

  -- the slot of a field in use has its mask
  pub mask-slot : {slot : Bytes} (i : ℕ) → slot ≡ take slot_bytes (drop (i * slot_bytes) s) → i < length (fields_in s) → mask_in slot ≡ get_or (masks_in s) i 0
  unfolding masks_in
  mask-slot i here h = ap mask_in here ∙ sym (table_at mask_in slot_bytes max_fields s i 0 (rw masks-count h))

  -- behind the last place nothing is stored
  pub past-masks : (i m : ℕ) → i ≤ length (fields_in s) → max_fields ≤ i → masks_in s ≡ stored_masks (Before i) m (masks_in s)
  unfolding stored_masks masks_in
  past-masks i m within h =
      sym (insert-past max_fields i m (masks_in s) (rw masks-count within) h (table-fit mask_in slot_bytes max_fields s))

-- ── A slot with another mask ──
-- the bytes of the mask were written over those that stood there
pub mask-written : (m e : ℕ) (slot out : Bytes) → length slot ≡ slot_bytes → Wrote path_slot (encode_mask m) slot e out → out ≡ with_mask m slot
unfolding with_mask
mask-written m e slot out l put =
    let all : take (length slot - path_slot) (encode_mask m) ≡ encode_mask m = take_all (length slot - path_slot) (encode_mask m) (omega (arith, mask-long m)) in
    put.1 ∙ rw (written-clipped path_slot (encode_mask m) slot, all, mask-long m, append_assoc (take path_slot slot))

module _ (m : ℕ) (slot : Bytes) (l : length slot ≡ slot_bytes) where
  path-long : length (take path_slot slot) ≡ path_slot
  path-long = rw length-take (omega arith)

  pub masked-long : length (with_mask m slot) ≡ slot_bytes
  unfolding with_mask
  masked-long = rw (length-append, head-long (take path_slot slot) m path-long, length-drop) (omega arith)

  masked-path : take path_slot (with_mask m slot) ≡ take path_slot slot
  unfolding with_mask
  masked-path = path-first (take path_slot slot) m path-long _

  pub masked-empty : is_empty (with_mask m slot) ≡ is_empty slot
  masked-empty = empty-same (with_mask m slot) slot masked-path

  masked-text : text_in (with_mask m slot) ≡ text_in slot
  unfolding with_mask
  masked-text = text-rest (with_mask m slot) ∙ rw (rest-last (take path_slot slot) m path-long) (sym (text-rest slot))

  pub masked-field : field_in (with_mask m slot) ≡ field_in slot
  unfolding field_in value_in
  masked-field = rw (path-same (with_mask m slot) slot masked-path, masked-text)

  module _ (fits : m < 2 ^ max_users) where
    pub masked-mask : mask_in (with_mask m slot) ≡ m
    unfolding with_mask
    masked-mask = mask-between (take path_slot slot) m path-long _ fits

    -- a slot that is written as its field is stays so
    pub masked-canonical : CanonicalField slot → CanonicalField (with_mask m slot)
    unfolding encode_field field_in with_mask
    masked-canonical is =
        let path = encode_path (path_in slot) in
        let value = encode_name (1 + value_room) (value_text (value_in slot)) in
        let long : length path ≡ path_slot = omega (arith, simp length-append at (ap length is), mask-long (mask_in slot), value-long slot) in
        let first = ap (take path_slot) is ∙ path-first path (mask_in slot) long value in
        let last = ap (drop length_at) is ∙ rest-last path (mask_in slot) long value in
        ap₂ (λ (p v : Bytes). p ++ encode_mask m ++ v) first last ∙ sym (ap₂ encode_field masked-mask masked-field)

-- ── A table, in which the mask of the i-th field becomes m ──
module _ (s : Bytes) (full : length s ≡ record_bytes) (i : ℕ) (h : i < length (fields_in s)) (m : ℕ) (fits : m < 2 ^ max_users) where
  abbrev slot : Bytes
  slot = take slot_bytes (drop (i * slot_bytes) s)

  abbrev marked : Bytes
  marked = over_row slot_bytes i (with_mask m slot) s

  holds : Holds slot_bytes max_fields s
  holds = (omega arith, omega (arith, full))

  used : i < length (in_use slot_bytes max_fields s)
  used = omega (arith, fields-used s)

  long : length slot ≡ slot_bytes
  long = length_part (i * slot_bytes) slot_bytes s (row_inside slot_bytes max_fields s holds i (omega (arith, used, used-fit slot_bytes max_fields s)))

  kept : is_empty (with_mask m slot) ≡ false
  kept = masked-empty m slot long ∙ used-full slot_bytes max_fields s i used

  rows-marked : in_use slot_bytes max_fields marked ≡ set (in_use slot_bytes max_fields s) i (with_mask m slot)
  rows-marked = used-set slot_bytes max_fields i (with_mask m slot) s holds (masked-long m slot long) kept used

  pub marked-fields : fields_in marked ≡ fields_in s
  unfolding fields_in
  marked-fields =
      table-set field_in slot_bytes max_fields s marked (with_mask m slot) i rows-marked
      ∙ rw (masked-field m slot long, ← table_at field_in slot_bytes max_fields s i (field_in s) h) (set-get_or (fields_in s) i (field_in s))

  pub marked-masks : masks_in marked ≡ set (masks_in s) i m
  unfolding masks_in
  marked-masks = table-set mask_in slot_bytes max_fields s marked (with_mask m slot) i rows-marked ∙ rw (masked-mask m slot long fits)

  pub marked-canonical : Keeps CanonicalFields s marked
  marked-canonical c =
      let rows = in_use slot_bytes max_fields s in
      let at : CanonicalField (get_or rows i []) = (rw (here [] rows i used) at (all_drop CanonicalField i rows c.1)).0 in
      let is : CanonicalField slot = rw (used-at slot_bytes max_fields s i [] used) at at in
      canonical-set CanonicalField slot_bytes max_fields s (with_mask m slot) holds (masked-long m slot long) kept (masked-canonical m slot long fits is) c i used
