-- A slot: the value that its text says, and what it holds once a path, a value's text and the length of the text are written into it.
use Prim.Native.Nat.{ℕ, suc, ◌+◌, ◌*◌, ◌-◌, ◌^◌, ◌≤◌, ◌<◌, min}
use mathlib.Core.Path.{◌≡◌, refl, sym, ap, ◌∙◌}
use mathlib.Core.Bool.{true, false}
use Rattle.std.specs.Prelude.{Option, None, Some}
use mathlib.Core.List.{[], ◌∷◌, ◌++◌, append_assoc, append-nil}
use native.Mathlib.Nat.{add-sub_cancel_left, zero-add}
use native.Mathlib.Omega.{arith}
use lib.ListN.{length, get_or, take, drop, set, length-take, length-append, length-replicate}
use lib.Seq.{take_at, take_all, take-append_seam, drop_at, drop-drop, set_at, get_or-take, get_or-drop}
use Rattle.rows.specs.Rows.{replaced, Wrote}
use Rattle.layout.proofs.Counts.{counted-part}
use Rattle.layout.proofs.Used.{table_at}
use Rattle.layout.proofs.Tight.{zeros, drop-zeros}
use Rattle.rows.proofs.Parts.{part_at, tail-part, tail-replaced}
use Rattle.rows.proofs.Writing.{written-clipped}
use Rattle.rows.specs.Positions.{placed}
use Rattle.model.specs.Base.{Bytes}
use Rattle.model.specs.Limits.{max_depth, max_fields, max_users}
use Rattle.model.specs.Fields.{Fields, field_of}
use Rattle.model.specs.Values.{Value, truth, read_value, value_text, valid_value}
use Rattle.model.proofs.Spelling as spelling
use Rattle.values.specs.declared.value.Scalar.{Scalar}
use Rattle.values.specs.Scalars as scalars
use Rattle.values.proofs.Values.{value-bad}
use Rattle.masks.specs.Bits.{mask_bytes, encode_mask}
use Rattle.masks.proofs.Bits.{mask-long, mask-back}
use Rattle.paths.specs.Layout.{path_slot, path_in}
use Rattle.layout.specs.Layout.{key_row, name_in, is_empty, encode_name}
use Rattle.record.specs.Slots.{value_room, length_at, slot_bytes, text_in, value_or, value_in, held_text, held_value, field_in, mask_in, fields_in, field_at, encode_field, CanonicalField, with_mask, slot_of, Proper}
use Rattle.record.specs.Search.{stored_in, stored_at}

-- ── The value's text, and the value ──
pub text-part : (s : Bytes) (n : ℕ) → length_at < length s → n ≡ min (get_or (take (length s - length_at) (drop length_at s)) 0 0) value_room → take ((1 + length_at) + n - (1 + length_at)) (drop (1 + length_at) s) ≡ text_in s
unfolding text_in
text-part s n h e = rw (add-sub_cancel_left, e, part_at length_at (length s - length_at) s 0 0 (omega arith))

-- its length and the text stand behind the mask
pub text-rest : (s : Bytes) → text_in s ≡ take (min (get_or (drop length_at s) 0 0) value_room) (drop 1 (drop length_at s))
unfolding text_in
text-rest s = rw (get_or-drop length_at s 0 0, drop-drop 1 length_at s)

pub text-short : (s : Bytes) → length (text_in s) ≤ value_room
unfolding text_in
text-short s = rw length-take (omega arith)

-- what is read at the start of the text t of the slot s
module _ (s t : Bytes) (is : t ≡ text_in s) (r : Option (Scalar × ℕ)) (answer : scalars.value_answer t r ≡ placed read_value t 0) where
  pub value_none : r ≡ None → truth false ≡ value_in s
  unfolding value_in
  value_none i = rw (← is, value-bad t 0 r answer i)

-- the value of a slot is spelled within its room
pub value-short : (s : Bytes) → length (value_text (value_in s)) ≤ value_room
unfolding value_in
value-short s = go (read_value (text_in s)) refl
  where
    go : (o : Option (Value × Bytes)) → read_value (text_in s) ≡ o → length (value_text (value_or o)) ≤ value_room
    go None e = spelling.value-length _ (unfold valid_value in refl)
    go (Some t) e = spelling.value-length t.0 (spelling.value-valid (text_in s) t.1 t.0 e)

-- so it fills its room with zeros behind it
pub value-long : (s : Bytes) → length (encode_name (1 + value_room) (value_text (value_in s))) ≡ 1 + value_room
unfolding encode_name
value-long s = simp (length-append, length-replicate) (omega (arith, value-short s))

-- ── The path is in the first bytes of a slot ──
module _ (s p : Bytes) (same : take path_slot s ≡ take path_slot p) where
  pub path-same : path_in s ≡ path_in p
  unfolding path_in
  path-same = sym (counted-part name_in key_row max_depth path_slot s (omega arith)) ∙ rw same (counted-part name_in key_row max_depth path_slot p (omega arith))

  pub empty-same : is_empty s ≡ is_empty p
  unfolding is_empty
  empty-same = rw (← get_or-take path_slot s 0 0 (omega arith), same, get_or-take path_slot p 0 0 (omega arith))

-- the slot of a field in use means that field
pub field-slot : (s slot : Bytes) (i : ℕ) → slot ≡ take slot_bytes (drop (i * slot_bytes) s) → i < length (fields_in s) → field_in slot ≡ field_at i (fields_in s)
unfolding fields_in field_at
field-slot s slot i here h = ap field_in here ∙ sym (table_at field_in slot_bytes max_fields s i _ h)

-- a value within its limits is held as it is
pub held-valid : (v : Value) → valid_value v ≡ true → held_value v ≡ v
unfolding held_value
held-valid v valid =
    let all = take_all value_room (value_text v) (spelling.value-length v valid) in
    rw all (rw (rw append-nil at (spelling.value-reads v [] valid tt)))

-- ── The bytes p of a path, a mask m, and what is behind them: each is found again ──
abbrev head : Bytes → ℕ → Bytes
head p m = p ++ encode_mask m

module _ (p : Bytes) (m : ℕ) (l : length p ≡ path_slot) where
  pub head-long : length (head p m) ≡ length_at
  head-long = rw (length-append, mask-long) (omega arith)

  module _ (rest : Bytes) where
    pub path-first : take path_slot (head p m ++ rest) ≡ p
    path-first = rw (append_assoc p) (take_at p _ path_slot l)

    pub rest-last : drop length_at (head p m ++ rest) ≡ rest
    rest-last = drop_at (head p m) rest length_at head-long

    pub mask-between : m < 2 ^ max_users → mask_in (head p m ++ rest) ≡ m
    unfolding mask_in
    mask-between h = rw (append_assoc p (encode_mask m) rest, drop_at p _ path_slot l) (mask-back m rest h)

-- ── A slot made of the path p, the mask m and the value v ──
held-short : (v : Value) → length (held_text v) ≤ value_room
held-short v = rw length-take (omega arith)

module _ (p : Bytes) (m : ℕ) (v : Value) where
  module _ (l : length p ≡ path_slot) where
    pub slot-long : length (slot_of p m v) ≡ slot_bytes
    unfolding slot_of encode_name
    slot-long = simp (length-append, length-replicate, mask-long) (omega (arith, held-short v))

    slot-path : take path_slot (slot_of p m v) ≡ take path_slot p
    unfolding slot_of
    slot-path = path-first p m l _ ∙ sym (take_all path_slot p (omega arith))

    -- the path's keys
    pub slot-keys : path_in (slot_of p m v) ≡ path_in p
    slot-keys = path-same (slot_of p m v) p slot-path

    pub slot-empty : is_empty (slot_of p m v) ≡ is_empty p
    slot-empty = empty-same (slot_of p m v) p slot-path

    slot-text : text_in (slot_of p m v) ≡ held_text v
    unfolding slot_of encode_name
    slot-text =
        let fits : min (length (held_text v)) value_room ≡ length (held_text v) = omega (arith, held-short v) in
        text-rest (slot_of p m v) ∙ rw (rest-last p m l, fits) (take-append_seam (held_text v) _)

    -- the field of the keys, and of what is held of the value
    pub slot-field : field_in (slot_of p m v) ≡ field_of (path_in p) (held_value v)
    unfolding field_in value_in held_value
    slot-field = rw (slot-keys, slot-text)

    -- the mask
    pub slot-mask : m < 2 ^ max_users → mask_in (slot_of p m v) ≡ m
    unfolding slot_of
    slot-mask h = mask-between p m l _ h

    -- to store the slot is to store the value at the path
    pub slot-stored : (fs : Fields) → stored_in (slot_of p m v) fs ≡ stored_at p v fs
    unfolding stored_in stored_at
    slot-stored fs = rw (slot-empty, slot-field)

  -- where the path is written as its keys are, and the value is within its limits
  module _ (proper : Proper p v) where
    -- the slot has the bytes that their field is written as
    pub slot-encoded : slot_of p m v ≡ encode_field m (field_of (path_in p) v)
    unfolding slot_of encode_field
    slot-encoded =
        rw (take_all value_room (value_text v) (spelling.value-length v proper.1))
        (ap (λ (q : Bytes). q ++ encode_mask m ++ encode_name (1 + value_room) (value_text v)) proper.0)

    pub slot-canonical : length p ≡ path_slot → m < 2 ^ max_users → CanonicalField (slot_of p m v)
    slot-canonical l h = slot-encoded ∙ rw (slot-field l, slot-mask l h, held-valid v proper.1)

-- ── A slot s of zeros that is filled with the path p, the mask m and the value v ──
-- the path is copied, which gives t, and the mask put, which gives q; the room for a text comes back as ys, with v's text up to e; n, which says its length, stands before it
module _
    (s p t q ys : Bytes)
    (m : ℕ)
    (v : Value)
    (e n : ℕ)
    (clean : s ≡ zeros slot_bytes)
    (l : length p ≡ path_slot)
    (copied : t ≡ p ++ drop (length p) s)
    (masked : q ≡ with_mask m t)
    (put : Wrote 0 (value_text v) (take (length q - (1 + length_at)) (drop (1 + length_at) q)) e ys)
    (byte : n ≡ min e value_room)
  where
    -- the path, the mask and the byte behind them
    abbrev start : Bytes
    start = head p m ++ 0 ∷ []

    start-long : length start ≡ 1 + length_at
    start-long = rw length-append (omega (arith, head-long p m l))

    begun-is : q ≡ start ++ zeros value_room
    unfolding with_mask
    begun-is =
        let later = drop (length p) s in
        let None : later ≡ zeros (slot_bytes - path_slot) = rw (clean, l) (drop-zeros path_slot slot_bytes) in
        let behind = sym (drop-drop mask_bytes path_slot (p ++ later)) ∙ ap (drop mask_bytes) (drop_at p later path_slot l ∙ None) in
        masked ∙ rw (copied, take_at p later path_slot l, behind, append_assoc (head p m))

    room-is : take (length q - (1 + length_at)) (drop (1 + length_at) q) ≡ zeros value_room
    room-is = tail-part (1 + length_at) q ∙ rw (begun-is, drop_at start (zeros value_room) (1 + length_at) start-long)

    text-is : ys ≡ held_text v ++ zeros (value_room - length (value_text v))
    text-is = put.1 ∙ rw (room-is, written-clipped, zero-add, drop-zeros)

    abbrev out : Bytes
    out = set (replaced (1 + length_at) (length q - (1 + length_at)) ys q) length_at n

    pub filled : out ≡ slot_of p m v
    unfolding slot_of encode_name
    filled =
        let says : n ≡ length (held_text v) = rw length-take (omega (arith, put.0)) in
        let rest : 1 + value_room - suc (length (held_text v)) ≡ value_room - length (value_text v) = rw length-take (omega arith) in
        rw (tail-replaced (1 + length_at) q ys, begun-is, take_at start (zeros value_room) (1 + length_at) start-long)
        (rw (append_assoc (head p m) (0 ∷ []) ys, set_at (head p m) 0 ys n length_at (head-long p m l), text-is, says, rest))
