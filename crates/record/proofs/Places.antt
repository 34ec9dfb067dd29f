-- What the place that a search ends at says: whether there is a field of the path, which value it has, and where putting a field changes the fields.
use Prim.Native.Nat.{Ordering}
use Prim.Native.Nat.{ℕ, suc, ◌+◌, ◌≤◌, ◌<◌}
use mathlib.Core.Path.{◌≡◌, refl, sym, ap, ◌∙◌}
use Rattle.std.specs.Prelude.{None, Some}
use mathlib.Core.Bool.{true, false}
use mathlib.Core.List.{[], ◌∷◌}
use native.Mathlib.Omega.{arith}
use lib.ListN.{length, get_or, set}
use Rattle.rows.specs.Rows.{insert_at}
use Rattle.model.specs.Base.{is_some}
use Rattle.model.specs.Values.{Value, truth}
use Rattle.model.specs.Fields.{Keys, Field, Fields, order_path, by_order, value_at, holds, put, field_of}
use Rattle.model.proofs.Order.{by_three, path-orders, put-less, put_same, put-more, value-less, value_same, value-more}
use Rattle.record.specs.declared.table.Place.TheVariants.{At, Before}
use Rattle.record.specs.Search.{place_in}

-- a search from the place j on that ends at i, d fields further on
record FoundAt (p : Keys) (fs : Fields) (j i : ℕ) : Type 0 where
  d : ℕ
  place : i ≡ j + d
  within : d < length fs
  path : (z : Field) → (get_or fs d z).path ≡ p
  value : (z : Field) → value_at p fs ≡ Some (get_or fs d z).value
  stored : (v : Value) → put (field_of p v) fs ≡ set fs d (field_of p v)

record FoundBefore (p : Keys) (fs : Fields) (j i : ℕ) : Type 0 where
  d : ℕ
  place : i ≡ j + d
  within : d ≤ length fs
  value : value_at p fs ≡ None
  stored : (v : Value) → put (field_of p v) fs ≡ insert_at d (field_of p v) fs

at_before : {C : Type 0} (i j : ℕ) → At i ≡ Before j → C
at_before i j h = let z : ◌≡◌ {A = ℕ} 0 1 = cc in absurd (omega arith)

module _ (p : Keys) where
  module _ (g : Field) (gs : Fields) (j : ℕ) where
    place-less : order_path p g.path ≡ Ordering.lt → place_in j p (g ∷ gs) ≡ Before j
    unfolding place_in by_order
    place-less o = rw o

    place_same : order_path p g.path ≡ Ordering.eq → place_in j p (g ∷ gs) ≡ At j
    unfolding place_in by_order
    place_same o = rw o

    place-more : order_path p g.path ≡ Ordering.gt → place_in j p (g ∷ gs) ≡ place_in (suc j) p gs
    unfolding place_in by_order
    place-more o = rw o

  found_at : (fs : Fields) (j i : ℕ) → place_in j p fs ≡ At i → FoundAt p fs j i
  found_at [] j i e = at_before i j (sym e ∙ (unfold place_in in refl))
  found_at (g ∷ gs) j i e = by_three (order_path p g.path)
      (λ o. at_before i j (sym e ∙ place-less g gs j o))
      (λ o. let h = sym (place_same g gs j o) ∙ e in
      let s : j ≡ i = cc in
      record { d = 0; place = omega arith; within = omega arith; path = λ z. sym (path-orders.same p g.path o); value = λ z. value_same p g gs o; stored = λ v. put_same (field_of p v) g gs o })
      (λ o. let r = found_at gs (suc j) i (sym (place-more g gs j o) ∙ e) in
      record {
        d = suc r.d;
        place = omega (arith, r.place);
        within = omega (arith, r.within);
        path = r.path;
        value = λ z. value-more p g gs o ∙ r.value z;
        stored = λ v. put-more (field_of p v) g gs o ∙ ap (λ (l : Fields). g ∷ l) (r.stored v);
      })

  found_before : (fs : Fields) (j i : ℕ) → place_in j p fs ≡ Before i → FoundBefore p fs j i
  found_before [] j i e =
      let h : Before j ≡ Before i = unfold place_in in e in
      let s : j ≡ i = cc in
      record { d = 0; place = omega arith; within = omega arith; value = unfold value_at in refl; stored = λ v. unfold put in refl }
  found_before (g ∷ gs) j i e = by_three (order_path p g.path)
      (λ o. let h = sym (place-less g gs j o) ∙ e in
      let s : j ≡ i = cc in
      record { d = 0; place = omega arith; within = omega arith; value = value-less p g gs o; stored = λ v. put-less (field_of p v) g gs o })
      (λ o. at_before j i (sym (place_same g gs j o) ∙ e))
      (λ o. let r = found_before gs (suc j) i (sym (place-more g gs j o) ∙ e) in
      record {
        d = suc r.d;
        place = omega (arith, r.place);
        within = omega (arith, r.within);
        value = value-more p g gs o ∙ r.value;
        stored = λ v. put-more (field_of p v) g gs o ∙ ap (λ (l : Fields). g ∷ l) (r.stored v);
      })

-- of all the fields
module _ (p : Keys) (fs : Fields) (i : ℕ) where
  module _ (e : place_in 0 p fs ≡ At i) where
    at-found : FoundAt p fs 0 i
    at-found = found_at p fs 0 i e

    at_place : at-found.d ≡ i
    at_place = omega (arith, at-found.place)

    pub at-below : i < length fs
    at-below = omega (arith, at_place, at-found.within)

    pub at_path : (z : Field) → (get_or fs i z).path ≡ p
    at_path z = rw at_place at (at-found.path z)

    pub at-put : (v : Value) → put (field_of p v) fs ≡ set fs i (field_of p v)
    at-put v = at-found.stored v ∙ rw at_place

    pub at-holds : holds p fs ≡ true
    unfolding holds is_some
    at-holds = ap is_some (at-found.value (field_of p (truth false)))

  module _ (e : place_in 0 p fs ≡ Before i) where
    before-found : FoundBefore p fs 0 i
    before-found = found_before p fs 0 i e

    before-place : before-found.d ≡ i
    before-place = omega (arith, before-found.place)

    pub before-within : i ≤ length fs
    before-within = omega (arith, before-place, before-found.within)

    pub before-put : (v : Value) → put (field_of p v) fs ≡ insert_at i (field_of p v) fs
    before-put v = before-found.stored v ∙ rw before-place

    pub before-holds : holds p fs ≡ false
    unfolding holds is_some
    before-holds = ap is_some before-found.value
