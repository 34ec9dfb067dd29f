-- The fields that are shown, from a place on: the steps of a loop over the slots, and what the place of the first of them says.
use Prim.Native.Nat.{ℕ, suc, ◌+◌, ◌*◌, ◌≤◌, ◌<◌}
use mathlib.Core.Path.{◌≡◌, refl, sym, ap, ◌∙◌}
use Rattle.std.specs.Prelude.{Option, None, Some}
use mathlib.Core.Bool.{true, false}
use mathlib.Core.List.{List, [], ◌∷◌, map}
use native.Mathlib.Numerals.{add-one}
use native.Mathlib.Omega.{arith}
use lib.ListN.{length, get_or, take, drop, length-take, length-drop, length-append}
use lib.Seq.{take_at, get_or-drop, drop-drop}
use Rattle.layout.specs.Layout.{is_empty, in_use}
use Rattle.layout.proofs.Used.{used-fit, used-last, used-more, used-at}
use Rattle.rows.specs.Positions.{Reads, placed}
use Rattle.rows.proofs.Positions.{here, over}
use Rattle.model.specs.Base.{Bytes, text, keep}
use Rattle.model.specs.Limits.{max_fields}
use Rattle.model.specs.Values.{read_value, value_text}
use Rattle.model.specs.Fields.{Fields}
use Rattle.model.proofs.Spelling.{value-spells}
use Rattle.model.proofs.Lists.{by_cases, none-some}
use Rattle.model.proofs.Reading.{some_same}
use Rattle.values.specs.declared.value.Scalar.{Scalar}
use Rattle.values.specs.Scalars as scalars
use Rattle.values.proofs.Values.{value-reads}
use Rattle.record.specs.Slots.{slot_bytes, text_in, value_in, field_in}
use Rattle.record.proofs.Slots.{value_none}
use Rattle.writer.specs.declared.saved.Shown.{Shown}
use Rattle.writer.specs.Selected.{is_shown, shown_from}

-- what is read at the start of the text t of the slot s is how the slot's value is written
module _ (s t : Bytes) (is : t ≡ text_in s) (r : Option (Scalar × ℕ)) (answer : scalars.value_answer t r ≡ placed read_value t 0) where
  pub held_none : r ≡ None → text "false" ≡ value_text (value_in s)
  unfolding value_text
  held_none i = rw (← value_none s t is r answer i)

  module _ (v : Scalar) (e : ℕ) (i : r ≡ Some (v, e)) where
    abbrev reads : Reads read_value t 0 (scalars.value_in t v) e
    reads = value-reads t 0 r answer (omega arith) v e i

    pub held-end : e ≡ length (take e t)
    held-end = rw length-take (omega (arith, reads.to))

    pub held-some : take e t ≡ value_text (value_in s)
    unfolding value_in
    held-some =
        let x = value_text (scalars.value_in t v) in
        let w = (value-spells t _ reads.is).1 in
        let n : length x ≡ e = omega (arith, ap length w, length-append x (drop e t), length-drop e t, reads.to) in
        rw (← is, reads.is) (ap (take e) w ∙ take_at x (drop e t) e n)

-- ── The slots of a table in use, from the place j on ──
abbrev pub slots_from : ℕ → Bytes → List Bytes
slots_from j s = drop j (in_use slot_bytes max_fields s)

-- a loop has passed j slots, all of them in use, and the slot at j is
module _ (s : Bytes) (j : ℕ) (h : j < max_fields) (passed : j ≤ length (in_use slot_bytes max_fields s))
    {slot : Bytes} (at : slot ≡ take slot_bytes (drop (j * slot_bytes) s)) (e : is_empty slot ≡ false) where
  slot-left : slots_from j s ≡ slot ∷ slots_from (j + 1) s
  slot-left =
      let more = used-more slot_bytes max_fields s j h passed at e in
      here [] (in_use slot_bytes max_fields s) j more ∙ rw (used-at slot_bytes max_fields s j [] more, at)

-- ── The place of the first of them that is shown ──
module _ (s : Bytes) (v : Shown) (j : ℕ) where
  pub shown-over : length (in_use slot_bytes max_fields s) ≤ j → shown_from v j (slots_from j s) ≡ None
  unfolding shown_from
  shown-over h = rw (over (in_use slot_bytes max_fields s) j h)

  module _ (h : j < max_fields) (passed : j ≤ length (in_use slot_bytes max_fields s)) {slot : Bytes} (at : slot ≡ take slot_bytes (drop (j * slot_bytes) s)) where
    pub shown-stop : is_empty slot ≡ true → shown_from v j (slots_from j s) ≡ None
    shown-stop e = shown-over (used-last slot_bytes max_fields s j h passed at e)

    module _ (e : is_empty slot ≡ false) where
      pub shown-step : is_shown v slot ≡ false → shown_from v j (slots_from j s) ≡ shown_from v (j + 1) (slots_from (j + 1) s)
      unfolding shown_from
      shown-step n = rw (slot-left s j h passed at e, n, add-one)

      pub shown-here : is_shown v slot ≡ true → shown_from v j (slots_from j s) ≡ Some j
      unfolding shown_from
      shown-here y = rw (slot-left s j h passed at e, y)

-- ── What that place, counted from i, says of the slots that are shown ──
module _ (v : Shown) where
  -- there is none where none is shown
  none_from_lem : (i : ℕ) (rs : List Bytes) → shown_from v i rs ≡ None → keep (is_shown v) rs ≡ []
  unfolding keep shown_from
  none_from_lem i [] h = refl
  none_from_lem i (r ∷ rs) h = by_cases (is_shown v r)
      (λ e. none-some (sym (rw e at h)))
      (λ e. rw e (none_from_lem (suc i) rs (rw e at h)))

  -- else the first stands there, d slots further on, and the others stand behind it
  record FirstFrom (i n : ℕ) (rs : List Bytes) : Type 0 where
    d : ℕ
    place : n ≡ i + d
    within : d < length rs
    is : keep (is_shown v) rs ≡ get_or rs d [] ∷ keep (is_shown v) (drop (suc d) rs)

  first-from : (i n : ℕ) (rs : List Bytes) → shown_from v i rs ≡ Some n → FirstFrom i n rs
  unfolding keep shown_from
  first-from i n [] h = none-some h
  first-from i n (r ∷ rs) h = by_cases (is_shown v r)
      (λ e. let p : i ≡ n = some_same (rw e at h) in record { d = 0; place = omega arith; within = omega arith; is = rw e })
      (λ e. let t = first-from (suc i) n rs (rw e at h) in record { d = suc t.d; place = omega (arith, t.place); within = omega (arith, t.within); is = rw e t.is })

-- ── Of a table: the fields from the place i on that are shown ──
abbrev pub fields_from : ℕ → Shown → Bytes → Fields
fields_from i v s = map field_in (keep (is_shown v) (slots_from i s))

-- the first of them is in slot n, and the others stand behind it
pub record Next (s : Bytes) (v : Shown) (i n : ℕ) : Type 0 where
  pub from : i ≤ n
  pub below : n < max_fields
  pub within : n < length (in_use slot_bytes max_fields s)
  pub is : {slot : Bytes} → slot ≡ take slot_bytes (drop (n * slot_bytes) s) → fields_from i v s ≡ field_in slot ∷ fields_from (n + 1) v s

module _ (s : Bytes) (v : Shown) (i : ℕ) where
  pub none-next : None ≡ shown_from v i (slots_from i s) → fields_from i v s ≡ []
  none-next at = rw (none_from_lem v i (slots_from i s) (sym at))

  pub next : i ≤ length (in_use slot_bytes max_fields s) → (n : ℕ) → Some n ≡ shown_from v i (slots_from i s) → Next s v i n
  next l n at =
      let r = first-from v i n (slots_from i s) (sym at) in
      let p : i + suc r.d ≡ n + 1 = omega (arith, r.place) in
      let q : i + r.d ≡ n = omega (arith, r.place) in
      let w : n < length (in_use slot_bytes max_fields s) = omega (arith, rw length-drop at r.within) in
      record {
        from = omega arith;
        below = omega (arith, used-fit slot_bytes max_fields s);
        within = w;
        is = λ e. rw r.is (simp (drop-drop, get_or-drop, p, q, e, used-at slot_bytes max_fields s n [] w));
      }
