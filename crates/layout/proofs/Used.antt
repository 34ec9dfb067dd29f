-- Rows in use: how a loop over the rows finds where they end, and what is left of them, and of what they mean, at each.
use Prim.Native.Nat.{ℕ, ◌+◌, ◌*◌, ◌-◌, ◌≤◌, ◌<◌}
use mathlib.Core.Path.{◌≡◌, refl, sym, ap, ◌∙◌}
use mathlib.Core.Bool.{true, false}
use mathlib.Core.List.{List, [], ◌∷◌, ◌++◌}
use native.Mathlib.Nat.{add-zero, zero-mul}
use native.Mathlib.Numerals.{add-one}
use native.Mathlib.Omega.{arith}
use lib.ListN.{length, get_or, take, drop, length-map, length-drop}
use lib.Seq.{take-suc, get_or-take}
use borrow.Author.Tests.{eq-eqb, ne_eqb, ltb-true, ltb-false}
use lib.Dec.{ltb}
use Rattle.rows.specs.Rows.{rows, up_to}
use Rattle.rows.proofs.Rows.{length-rows, row-at, rows_step, drop-rows, length-up_to, up_to-prefix, up_to-drop, get_d_map}
use Rattle.rows.proofs.Positions.{here, over}
use Rattle.rows.proofs.Parts.{part_at}
use Rattle.model.specs.Base.{Bytes}
use Rattle.model.proofs.Lists.{by_cases}
use Rattle.layout.specs.Layout.{is_empty, in_use, table}

module _ (k n : ℕ) (s : Bytes) where
  pub used-fit : length (in_use k n s) ≤ n
  used-fit = omega (arith, length-up_to is_empty (rows k n s), length-rows k n s)

  pub counted-fit : {m : ℕ} → m ≡ length (in_use k n s) → m ≤ n
  counted-fit counted = omega (arith, used-fit)

  -- ── A loop that has passed i rows, all of them in use ──
  module _ (i : ℕ) (below : i < n) (passed : i ≤ length (in_use k n s)) where
    used-from : drop i (in_use k n s) ≡ up_to is_empty (take k (drop (i * k) s) ∷ rows k (n - (i + 1)) (drop ((i + 1) * k) s))
    used-from = sym (up_to-drop is_empty i (rows k n s) passed) ∙ rw (drop-rows k i n s, rows_step k i n s below)

    module _ {row : Bytes} (is : row ≡ take k (drop (i * k) s)) where
      -- the row at i is empty: it ends them
      pub used-last : is_empty row ≡ true → length (in_use k n s) ≤ i
      unfolding up_to
      used-last e =
          let None : drop i (in_use k n s) ≡ [] = used-from ∙ rw (← is, e) in
          omega (arith, ap length None, length-drop i (in_use k n s))

      -- it is in use
      pub used-more : is_empty row ≡ false → i < length (in_use k n s)
      unfolding up_to
      used-more e =
          let Some : drop i (in_use k n s) ≡ row ∷ up_to is_empty (rows k (n - (i + 1)) (drop ((i + 1) * k) s)) = used-from ∙ rw (← is, e) in
          omega (arith, ap length Some, length-drop i (in_use k n s))

  -- the first byte of a row tells whether it is empty
  module _ (i : ℕ) (size : 0 < k) where
    first_byte : get_or (take k (drop (i * k) s)) 0 0 ≡ get_or s (i * k) 0
    first_byte = part_at (i * k) k s 0 0 size ∙ rw add-zero

    pub byte-empty : get_or s (i * k) 0 ≡ 0 → is_empty (take k (drop (i * k) s)) ≡ true
    unfolding is_empty
    byte-empty e = eq-eqb _ 0 (first_byte ∙ e)

    pub byte_full : (get_or s (i * k) 0 ≡ 0 → ⊥) → is_empty (take k (drop (i * k) s)) ≡ false
    unfolding is_empty
    byte_full f = ne_eqb _ 0 (λ z. f (sym first_byte ∙ z))

  -- where the first row is empty, none is in use
  pub used-none : 0 < k → get_or s 0 0 ≡ 0 → in_use k n s ≡ []
  used-none size e = over (in_use k n s) 0 (by_cases (ltb 0 n)
      (λ t. used-last 0 (ltb-true 0 n t) (omega arith) refl (byte-empty 0 size (rw zero-mul e)))
      (λ f. omega (arith, used-fit, ltb-false 0 n f)))

  -- a row in use is not empty
  pub used-full : (i : ℕ) → i < length (in_use k n s) → is_empty (take k (drop (i * k) s)) ≡ false
  used-full i h = by_cases (is_empty (take k (drop (i * k) s)))
      (λ e. absurd (omega (arith, used-last i (omega (arith, used-fit)) (omega arith) refl e)))
      (λ e. e)

  -- the row at i, where it is in use
  pub used-at : (i : ℕ) (z : Bytes) → i < length (in_use k n s) → get_or (in_use k n s) i z ≡ take k (drop (i * k) s)
  used-at i z h =
      ap (λ (r : List Bytes). get_or r i z) (up_to-prefix is_empty (rows k n s))
      ∙ get_or-take (length (in_use k n s)) (rows k n s) i z h
      ∙ row-at k i n s z (omega (arith, used-fit))

-- ── What the rows mean ──
module _ {A : Type 0} (decode : Bytes → A) (k n : ℕ) (s : Bytes) where
  pub length-table : length (table decode k n s) ≡ length (in_use k n s)
  unfolding table
  length-table = rw length-map

  pub table-fit : length (table decode k n s) ≤ n
  table-fit = omega (arith, length-table, used-fit k n s)

  pub table_at : (i : ℕ) (z : A) → i < length (table decode k n s) → get_or (table decode k n s) i z ≡ decode (take k (drop (i * k) s))
  unfolding table
  table_at i z h =
      let l : i < length (in_use k n s) = omega (arith, length-table) in
      get_d_map decode i (in_use k n s) z [] l ∙ ap decode (used-at k n s i [] l)

  -- where the first row is empty, there is none
  pub table_none : 0 < k → get_or s 0 0 ≡ 0 → table decode k n s ≡ []
  unfolding table
  table_none size e = rw (used-none k n s size e)

  -- m rows are in use: what is left at the row i, and what stands before it
  module _ {m : ℕ} (counted : m ≡ length (in_use k n s)) (i : ℕ) where
    pub row-left : {row : Bytes} → i < m → row ≡ take k (drop (i * k) s)
        → drop i (table decode k n s) ≡ decode row ∷ drop (i + 1) (table decode k n s)
    row-left h e =
        let l : i < length (table decode k n s) = rw length-table (omega arith) in
        here (decode []) (table decode k n s) i l ∙ rw (table_at i (decode []) l, e)

    pub row_more : {row : Bytes} → i < m → row ≡ take k (drop (i * k) s)
        → take (i + 1) (table decode k n s) ≡ take i (table decode k n s) ++ decode row ∷ []
    row_more h e =
        let l : i < length (table decode k n s) = rw length-table (omega arith) in
        rw (add-one i, take-suc (table decode k n s) i (decode []) l, table_at i (decode []) l, e)

    pub rows-over : m ≤ i → drop i (table decode k n s) ≡ []
    rows-over h = over (table decode k n s) i (rw length-table (omega arith))
