-- A table of fields with every byte said: without fields, and once a slot is stored.
use Prim.Native.Nat.{ℕ, ◌*◌, ◌≤◌, ◌<◌}
use mathlib.Core.Path.{◌≡◌, refl, sym, ap, ap₂, ◌∙◌}
use mathlib.Core.List.{List, [], ◌∷◌, map}
use mathlib.Core.Bool.{false}
use native.Mathlib.Omega.{arith}
use borrow.Author.Tests.{ltb-true}
use lib.Dec.{ltb}
use lib.ListN.{length, replicate, length-append, length-replicate}
use Rattle.model.specs.Base.{Bytes, joined}
use Rattle.model.specs.Fields.{Keys, Field}
use Rattle.model.specs.Limits.{max_fields}
use Rattle.model.proofs.Lists.{by_cases}
use Rattle.paths.specs.Layout.{path_in}
use Rattle.layout.specs.Layout.{is_empty, in_use, table, Holds, padded, encode_table, Keeps}
use Rattle.layout.proofs.Canonical.{table-encoded, canonical-none, canonical-set, canonical-inserted}
use Rattle.record.specs.declared.table.Place.{Place}
use Rattle.record.specs.declared.table.Place.TheVariants.{At, Before}
use Rattle.record.specs.Slots.{slot_bytes, record_bytes, field_in, mask_in, fields_in, masks_in, encode_field, encode_fields, CanonicalField, CanonicalFields}
use Rattle.record.specs.Search.{place_in, stored_bytes}
use Rattle.record.proofs.Places.{at-below, before-within}
use Rattle.record.proofs.Search.{fields-used}

-- zeros are a table without fields
pub none-canonical : CanonicalFields (replicate record_bytes 0)
none-canonical = canonical-none CanonicalField slot_bytes max_fields (omega arith)

-- a slot's mask and field
abbrev marked_in : Bytes → ℕ × Field
marked_in slot = (mask_in slot, field_in slot)

abbrev encode_marked : ℕ × Field → Bytes
encode_marked t = encode_field t.0 t.1

same-masks : (mask : Keys → ℕ) (rs : List Bytes) → map mask_in rs ≡ map (λ f. mask f.path) (map field_in rs)
    → map encode_marked (map marked_in rs) ≡ map (λ f. encode_field (mask f.path) f) (map field_in rs)
same-masks mask [] h = refl
same-masks mask (r ∷ rs) h =
    let first : mask_in r ≡ mask (field_in r).path = cc in
    let rest : map mask_in rs ≡ map (λ f. mask f.path) (map field_in rs) = cc in
    ap₂ ◌∷◌ (ap (λ (m : ℕ). encode_field m (field_in r)) first) (same-masks mask rs rest)

-- a table so written has the bytes that its fields are written as, each with its mask, and no others
pub fields-encoded : (s : Bytes) (mask : Keys → ℕ) → CanonicalFields s → masks_in s ≡ map (λ f. mask f.path) (fields_in s) → s ≡ encode_fields mask (fields_in s)
unfolding encode_fields fields_in masks_in table encode_table
fields-encoded s mask h is =
    table-encoded encode_marked marked_in slot_bytes max_fields s h
    ∙ ap (λ (rs : List Bytes). padded (max_fields * slot_bytes) (joined rs)) (same-masks mask (in_use slot_bytes max_fields s) is)

-- there are bytes for every slot
all_slots : (s : Bytes) → CanonicalFields s → Holds slot_bytes max_fields s
all_slots s h = (omega arith, omega (arith, simp (length-append, length-replicate) at (ap length h.0)))

-- a slot that is written as its field is, stored where the search for its path ends
module _ (s slot : Bytes) (long : length slot ≡ slot_bytes) (kept : is_empty slot ≡ false) (is : CanonicalField slot) where
  pub canonical-stored : (place : Place) → place ≡ place_in 0 (path_in slot) (fields_in s) → Keeps CanonicalFields s (stored_bytes place slot s)
  unfolding stored_bytes
  canonical-stored (At i) e h =
      let fits = all_slots s h in
      let below : i < length (in_use slot_bytes max_fields s) = omega (arith, fields-used s, at-below (path_in slot) (fields_in s) i (sym e)) in
      canonical-set CanonicalField slot_bytes max_fields s slot fits long kept is h i below
  canonical-stored (Before i) e h = by_cases (ltb i max_fields)
      (λ t.
      let fits = all_slots s h in
      let below = ltb-true i max_fields t in
      let within : i ≤ length (in_use slot_bytes max_fields s) = omega (arith, fields-used s, before-within (path_in slot) (fields_in s) i (sym e)) in
      rw t (canonical-inserted CanonicalField slot_bytes max_fields s slot fits long kept is h i below within))
      (λ f. rw f h)
