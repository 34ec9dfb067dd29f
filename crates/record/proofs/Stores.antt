-- Where a search of a table ended, storing a slot is a write over that place or a field put in there.
use Prim.Native.Nat.{ℕ, ◌≤◌}
use mathlib.Core.Path.{◌≡◌, sym, ◌∙◌}
use mathlib.Core.Bool.{true, false}
use lib.ListN.{length, take, set, length-set}
use lib.Seq.{take_all}
use Rattle.rows.specs.Rows.{insert_at}
use Rattle.rows.proofs.Rows.{insert-past}
use Rattle.layout.proofs.Used.{table-fit}
use Rattle.model.specs.Base.{Bytes}
use Rattle.model.specs.Limits.{max_fields}
use Rattle.model.specs.Fields.{store}
use Rattle.paths.specs.Layout.{path_in}
use Rattle.record.specs.declared.table.Place.TheVariants.{At, Before}
use Rattle.record.specs.Slots.{slot_bytes, value_in, field_in, fields_in}
use Rattle.layout.specs.Layout.{is_empty}
use Rattle.record.specs.Search.{place_in, stored_in}
use Rattle.record.proofs.Places.{at-put, before-within, before-put}

module _ (s : Bytes) where
  pub fields_fit : length (fields_in s) ≤ max_fields
  unfolding fields_in
  fields_fit = table-fit field_in slot_bytes max_fields s

  module _ (slot : Bytes) where
    pub none-stored : is_empty slot ≡ true → fields_in s ≡ stored_in slot (fields_in s)
    unfolding stored_in
    none-stored k = rw k

    module _ (i : ℕ) (k : is_empty slot ≡ false) where
      pub at_stored : place_in 0 (path_in slot) (fields_in s) ≡ At i → set (fields_in s) i (field_in slot) ≡ stored_in slot (fields_in s)
      unfolding stored_in store field_in
      at_stored e =
          let p = at-put (path_in slot) (fields_in s) i e (value_in slot) in
          sym (rw (k, p) (take_all max_fields (set (fields_in s) i (field_in slot)) (rw length-set fields_fit)))

      module _ (e : place_in 0 (path_in slot) (fields_in s) ≡ Before i) where
        pub before-stored : take max_fields (insert_at i (field_in slot) (fields_in s)) ≡ stored_in slot (fields_in s)
        unfolding stored_in store field_in
        before-stored = sym (rw (k, before-put (path_in slot) (fields_in s) i e (value_in slot)))

        -- behind the last place nothing is stored
        pub past-stored : max_fields ≤ i → fields_in s ≡ stored_in slot (fields_in s)
        past-stored h =
            sym (insert-past max_fields i (field_in slot) (fields_in s) (before-within (path_in slot) (fields_in s) i e) h fields_fit) ∙ before-stored
