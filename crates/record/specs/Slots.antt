-- What the bytes of a table of fields mean, whatever they are; and the bytes of fields.
use Rattle.std.specs.Prelude.{ℕ, ◌+◌, ◌*◌, min, ◌≡◌, true, false, List, [], ◌++◌, get_or, take, drop}
use Rattle.std.specs.Prelude.{Option, None, Some}
use Rattle.layout.specs.Layout.{table, encode_name, encode_table, CanonicalTable}
use Rattle.model.specs.Base.{Bytes}
use Rattle.model.specs.Limits.{max_string, max_fields}
use Rattle.model.specs.Values.{Value, truth, read_value, value_text, valid_value}
use Rattle.model.specs.Fields.{Keys, Field, Fields, field_of}
use Rattle.masks.specs.Bits.{mask_bytes, decode_mask, encode_mask}
use Rattle.paths.specs.Layout.{path_slot, path_in, encode_path, CanonicalPath}

-- ── Sizes, in bytes ──
-- room for the text of a value: the longest string in quotes
abbrev pub value_room : ℕ
value_room = max_string + 2

-- a slot: the path, the readers mask, how long the value's text is, and the text
abbrev pub length_at : ℕ
length_at = path_slot + mask_bytes

abbrev pub slot_bytes : ℕ
slot_bytes = length_at + 1 + value_room

abbrev pub record_bytes : ℕ
record_bytes = max_fields * slot_bytes

-- ── Meanings ──
-- the value at the start of a text; false where there is none
abbrev pub value_or : Option (Value × Bytes) → Value
value_or None = truth false
value_or (Some t) = t.0

-- the text of a slot's value
unfoldable pub text_in : Bytes → Bytes
text_in s = take (min (get_or s length_at 0) value_room) (drop (1 + length_at) s)

unfoldable pub value_in : Bytes → Value
value_in s = value_or (read_value (text_in s))

-- as much of a value's text as a slot has room for
abbrev pub held_text : Value → Bytes
held_text v = take value_room (value_text v)

-- what a slot holds of a value that was written into it: all of it, if its text has room
unfoldable pub held_value : Value → Value
held_value v = value_or (read_value (held_text v))

unfoldable pub field_in : Bytes → Field
field_in s = field_of (path_in s) (value_in s)

-- the mask of those who may read the field
unfoldable pub mask_in : Bytes → ℕ
mask_in s = decode_mask (drop path_slot s)

-- the fields of a table: those of the slots before the first that is empty
unfoldable pub fields_in : Bytes → Fields
fields_in s = table field_in slot_bytes max_fields s

-- the masks that stand beside them
unfoldable pub masks_in : Bytes → List ℕ
masks_in s = table mask_in slot_bytes max_fields s

-- the i-th of some fields, where there is one
unfoldable pub field_at : ℕ → Fields → Field
field_at i fs = get_or fs i (field_of [] (truth false))

-- ── Every byte ──
-- a field with a mask: its path, the mask, and its value's text
unfoldable pub encode_field : ℕ → Field → Bytes
encode_field m f = encode_path f.path ++ encode_mask m ++ encode_name (1 + value_room) (value_text f.value)

-- fields, each with the mask of its path
unfoldable pub encode_fields : (Keys → ℕ) → Fields → Bytes
encode_fields mask fs = encode_table (λ f. encode_field (mask f.path) f) slot_bytes max_fields fs

abbrev pub CanonicalField : Bytes → Type 0
CanonicalField slot = slot ≡ encode_field (mask_in slot) (field_in slot)

abbrev pub CanonicalFields : Bytes → Type 0
CanonicalFields s = CanonicalTable CanonicalField slot_bytes max_fields s

-- a slot made of a path's bytes, a mask and a value, as much of it as is held
unfoldable pub slot_of : Bytes → ℕ → Value → Bytes
slot_of path m v = path ++ encode_mask m ++ encode_name (1 + value_room) (held_text v)

-- a slot with another mask
unfoldable pub with_mask : ℕ → Bytes → Bytes
with_mask m slot = take path_slot slot ++ encode_mask m ++ drop length_at slot

-- a path written as its keys are, and a value within its limits
abbrev pub Proper : Bytes → Value → Type 0
Proper path v = CanonicalPath path × (valid_value v ≡ true)
