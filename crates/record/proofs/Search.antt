-- The fields of a table, and a search through them: the steps of a loop over the slots.
use Prim.Native.Nat.{Ordering}
use Prim.Native.Nat.{ℕ, ◌+◌, ◌*◌, ◌≤◌, ◌<◌}
use mathlib.Core.Path.{◌≡◌, refl, sym, ap, ◌∙◌}
use mathlib.Core.Bool.{true, false}
use mathlib.Core.List.{◌∷◌}
use native.Mathlib.Numerals.{add-one}
use native.Mathlib.Omega.{arith}
use lib.ListN.{length, take, drop}
use Rattle.layout.specs.Layout.{is_empty, in_use}
use Rattle.layout.proofs.Used.{length-table, used-last, used-more, row-left}
use Rattle.model.specs.Base.{Bytes}
use Rattle.model.specs.Limits.{max_fields}
use Rattle.model.specs.Fields.{Keys, order_path, by_order}
use Rattle.lexical.specs.Orders.{order_of}
use Rattle.std.specs.declared.cmp.Ordering as answer
use Rattle.std.specs.declared.cmp.Ordering.TheVariants.{Less, Equal, Greater}
use Rattle.paths.specs.Layout.{path_in}
use Rattle.record.specs.declared.table.Place.TheVariants.{At, Before}
use Rattle.record.specs.Slots.{slot_bytes, field_in, fields_in}
use Rattle.record.specs.Search.{place_in, SearchedTo}

-- the library's order as the model's, and a comparison's answer r that was matched with v
abbrev pub order_in : answer.Ordering → Ordering
order_in Less = Ordering.lt
order_in Equal = Ordering.eq
order_in Greater = Ordering.gt

order-told : (o : Ordering) {r v : answer.Ordering} → r ≡ order_of o → r ≡ v → o ≡ order_in v
order-told o h e = told o ∙ ap order_in (sym h ∙ e)
  where
    told : (o : Ordering) → o ≡ order_in (order_of o)
    told Ordering.lt = refl
    told Ordering.eq = refl
    told Ordering.gt = refl

module _ (s : Bytes) where
  -- each slot in use holds one
  pub fields-used : length (fields_in s) ≡ length (in_use slot_bytes max_fields s)
  unfolding fields_in
  fields-used = length-table field_in slot_bytes max_fields s

  -- a loop that has passed i slots, all of them in use, by whether the slot at i is empty
  module _ (i : ℕ) {slot : Bytes} (here : slot ≡ take slot_bytes (drop (i * slot_bytes) s)) (h : i < max_fields) (passed : i ≤ length (fields_in s)) where
    pub fields-last : is_empty slot ≡ true → length (fields_in s) ≤ i
    fields-last e = omega (arith, fields-used, used-last slot_bytes max_fields s i h (omega (arith, fields-used)) here e)

    pub fields-more : is_empty slot ≡ false → i < length (fields_in s)
    fields-more e = omega (arith, fields-used, used-more slot_bytes max_fields s i h (omega (arith, fields-used)) here e)

    pub fields-step : is_empty slot ≡ false → drop i (fields_in s) ≡ field_in slot ∷ drop (i + 1) (fields_in s)
    unfolding fields_in
    fields-step e = row-left field_in slot_bytes max_fields s refl i (omega (arith, fields-used, fields-more e)) here

    -- the answer r of the comparison with the slot's path was matched with v
    pub place-step : (p : Keys) {r v : answer.Ordering} → is_empty slot ≡ false → r ≡ order_of (order_path p (path_in slot)) → r ≡ v
        → place_in i p (drop i (fields_in s)) ≡ by_order (order_in v) (Before i) (At i) (place_in (i + 1) p (drop (i + 1) (fields_in s)))
    unfolding place_in field_in
    place-step p e q t = rw (fields-step e, order-told (order_path p (path_in slot)) q t, add-one)

    -- the path is behind the slot's: a search that has come to the slot goes on behind it
    pub searched-on : (p : Keys) → is_empty slot ≡ false → order_path p (path_in slot) ≡ Ordering.gt → place_in 0 p (fields_in s) ≡ place_in i p (drop i (fields_in s))
        → SearchedTo (i + 1) p (fields_in s)
    unfolding by_order
    searched-on p e o q = (omega (arith, fields-more e), q ∙ place-step p {v = Greater} e (ap order_of (sym o)) refl)
