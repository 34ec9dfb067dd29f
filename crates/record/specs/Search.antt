-- Where the search for a path ends, and what is stored of a slot.
use Prim.Native.Nat.{Ordering}
use Rattle.std.specs.Prelude.{ℕ, suc, ◌≤◌, ◌≡◌, false, List, [], ◌∷◌, ltb, length, take, drop, set, if◌then◌else◌}
use Rattle.rows.specs.Rows.{insert_at}
use Rattle.model.specs.Base.{Bytes}
use Rattle.model.specs.Limits.{max_fields}
use Rattle.model.specs.Values.{Value}
use Rattle.model.specs.Fields.{Keys, Field, Fields, order_path, by_order, store, field_of}
use Rattle.paths.specs.Layout.{path_in}
use Rattle.record.specs.declared.table.Place.{Place}
use Rattle.record.specs.declared.table.Place.TheVariants.{At, Before}
use Rattle.record.specs.Slots.{slot_bytes, held_value, field_in, fields_in, encode_field}
use Rattle.layout.specs.Layout.{key_row, name_in, is_empty, over_row, inserted_row}

-- where the path p stands, or before which place it belongs, counted from i on
unfoldable pub place_in : ℕ → Keys → Fields → Place
place_in i p [] = Before i
place_in i p (g ∷ gs) = let r = place_in (suc i) p gs in by_order (order_path p g.path) (Before i) (At i) r

-- a slot whose first key passes stands before the path p
abbrev pub PutsBehind : (Bytes → Type 0) → Keys → Type 0
PutsBehind passes p = (slot : Bytes) → is_empty slot ≡ false → passes (name_in (take key_row (drop 1 slot))) → order_path p (path_in slot) ≡ Ordering.gt

-- a search for p has come to the place i: what is left of it ends where all of it does
abbrev pub SearchedTo : ℕ → Keys → Fields → Type 0
SearchedTo i p fs = (i ≤ length fs) × (place_in 0 p fs ≡ place_in i p (drop i fs))

-- ── A slot stored ──
-- the bytes of a table, once a slot is stored at a place: over the one there or before it; behind the last place nothing changes
unfoldable pub stored_bytes : Place → Bytes → Bytes → Bytes
stored_bytes (At i) slot s = over_row slot_bytes i slot s
stored_bytes (Before i) slot s = if ltb i max_fields then inserted_row slot_bytes max_fields i slot s else s

-- and once a field is stored with a mask where the search for its path ends
unfoldable pub stored_field : ℕ → Field → Bytes → Bytes
stored_field m f s = stored_bytes (place_in 0 f.path (fields_in s)) (encode_field m f) s

-- and once a slot is stored where the search for its path ends; an empty slot changes nothing
unfoldable pub stored_slot : Bytes → Bytes → Bytes
stored_slot slot s = if is_empty slot then s else stored_bytes (place_in 0 (path_in slot) (fields_in s)) slot s

-- the masks, once a slot with a mask is stored
unfoldable pub stored_masks : Place → ℕ → List ℕ → List ℕ
stored_masks (At i) m ms = set ms i m
stored_masks (Before i) m ms = take max_fields (insert_at i m ms)

-- the fields, once a slot is stored; an empty slot changes nothing
unfoldable pub stored_in : Bytes → Fields → Fields
stored_in slot fs = if is_empty slot then fs else store (field_in slot) fs

-- the fields, once a value is stored at the path of a slot
unfoldable pub stored_at : Bytes → Value → Fields → Fields
stored_at path v fs = if is_empty path then fs else store (field_of (path_in path) (held_value v)) fs
