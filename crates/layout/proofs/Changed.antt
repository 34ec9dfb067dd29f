-- Which rows are in use where one is written behind the last, over another or before another.
use Prim.Native.Nat.{ℕ, suc, ◌+◌, ◌*◌, ◌-◌, ◌≤◌, ◌<◌, min}
use mathlib.Core.Path.{◌≡◌, sym, ap, ◌∙◌}
use mathlib.Core.Bool.{false}
use mathlib.Core.List.{[], ◌∷◌, ◌++◌, map-append, append_assoc}
use native.Mathlib.Nat.{suc-mul, mul-le-mul_left, mul-le-mul_right, mul-lt-mul_of_pos_right}
use native.Mathlib.Numerals.{add-one}
use native.Mathlib.Omega.{arith}
use borrow.Author.Tests.{ltb-true, ltb-false}
use lib.Dec.{ltb}
use lib.ListN.{length, take, drop, set, length-take, length-drop, length-append}
use lib.Seq.{take_all, take_at, take-take, take-append-add, drop_at, drop-drop, get_or-set_same, length-take-le}
use Rattle.rows.specs.Rows.{rows, up_to, insert_at, replaced, written}
use Rattle.rows.specs.Moves.{moved_later}
use Rattle.rows.proofs.Rows.{map-take, map-drop, map-set, rows_take, take-rows, rows-keep, rows_step, rows-insert, rows-set}
use Rattle.rows.proofs.Rows.{up_to-take, up_to-keep, up_to-insert, up_to-set}
use Rattle.rows.proofs.Parts.{tail-part, tail-replaced, length_part}
use Rattle.rows.proofs.Writing.{take-written}
use Rattle.model.specs.Base.{Bytes}
use Rattle.model.proofs.Lists.{by_cases}
use Rattle.layout.specs.Layout.{is_empty, in_use, table, Holds, moved_end, inserted_row}
use Rattle.layout.proofs.Used.{used-fit, byte-empty}

-- ── A part that was lent from the place a on and came back with a row at its start ──
pub copied-in : (a : ℕ) (row s ys : Bytes) → ys ≡ row ++ drop (length row) (take (length s - a) (drop a s))
    → replaced a (length s - a) ys s ≡ replaced a (length row) row s
copied-in a row s ys e = tail-replaced a s ys ∙ rw (e, tail-part a s)

-- one row more is where the next begins
pub next_row : (i k : ℕ) → i * k + k ≡ (i + 1) * k
next_row i k = rw (add-one i, suc-mul)

-- behind i rows, one more of n has room
pub room-behind : (k n i : ℕ) → i < n → i * k + k ≤ n * k
room-behind k n i b = let l : i + 1 ≤ n = omega arith in omega (arith, next_row i k, mul-le-mul_right k l)

module _ (k n : ℕ) where
  -- the row i of n lies in s
  pub row_inside : (s : Bytes) → Holds k n s → (i : ℕ) → i < n → i * k + k ≤ length s
  row_inside s h i b = omega (arith, room-behind k n i b)

  pub used-inside : (s : Bytes) → Holds k n s → (i : ℕ) → i < length (in_use k n s) → i * k + k ≤ length s
  used-inside s h i b = row_inside s h i (omega (arith, used-fit k n s))

  -- so there are no more of them than bytes
  pub used-few : (s : Bytes) → Holds k n s → length (in_use k n s) ≤ length s
  used-few s h = omega (arith, used-fit k n s, mul-le-mul_left n h.0)

  -- ── Rows whose first e bytes are the same: what stands behind the first empty row does not count ──
  used-take : (m : ℕ) (xs : Bytes) → m ≤ n → take m (in_use k n xs) ≡ in_use k m xs
  used-take m xs h = sym (up_to-take is_empty m (rows k n xs)) ∙ rw (take-rows k m n xs h)

  pub used-same : (m e : ℕ) (xs ys : Bytes) → m * k ≤ e → m ≤ n → min (length (in_use k n xs) + 1) n ≤ m
      → take e ys ≡ take e xs → in_use k n ys ≡ in_use k n xs
  used-same m e xs ys inside h u same =
      let now = in_use k n ys in
      let was = in_use k n xs in
      let r : rows k m ys ≡ rows k m xs = sym (rows_take k m e ys inside) ∙ rw same (rows_take k m e xs inside) in
      let t : take m now ≡ take m was = used-take m ys h ∙ rw r (sym (used-take m xs h)) in
      let l : min m (length now) ≡ min m (length was) = sym (length-take m now) ∙ ap length t ∙ length-take m was in
      let a : length now ≤ m = omega (arith, used-fit k n ys) in
      let b : length was ≤ m = omega (arith, used-fit k n xs) in
      sym (take_all m now a) ∙ t ∙ take_all m was b

  -- ── One more ──
  -- no row stands from i on where the byte there was made 0
  none-behind : (i : ℕ) (xs : Bytes) → Holds k n xs → up_to is_empty (rows k (n - i) (drop (i * k) (written (i * k) (0 ∷ []) xs))) ≡ []
  unfolding written rows up_to
  none-behind i xs h =
      by_cases (ltb i n)
      (λ t.
      let b = ltb-true i n t in
      let zero = get_or-set_same xs (i * k) 0 0 (omega (arith, mul-lt-mul_of_pos_right b h.0)) in
      rw (rows_step k i n (set xs (i * k) 0) b, byte-empty k n (set xs (i * k) 0) i h.0 zero))
      (λ f. let e : n - i ≡ 0 = omega (arith, ltb-false i n f) in rw e)

  -- i rows are in use; the byte behind the row i was made 0 where it is inside, and then the row was written
  module _ (i : ℕ) (xs row : Bytes) (is : i ≡ length (in_use k n xs)) (fits : Holds k n xs) where
    pub used-pushed : {ys : Bytes} → i < n → ys ≡ written (i * k + k) (0 ∷ []) xs → length row ≡ k → is_empty row ≡ false
        → in_use k n (replaced (i * k) k row ys) ≡ take n (in_use k n xs ++ row ∷ [])
    unfolding rows up_to
    used-pushed {ys} below e long kept =
        let later = drop ((i + 1) * k) ys in
        let first : take (i * k) ys ≡ take (i * k) xs = rw e (take-written (i * k) (i * k + k) (0 ∷ []) xs (omega arith)) in
        let None : up_to is_empty (rows k (n - (i + 1)) later) ≡ [] = rw (e, next_row i k) (none-behind (i + 1) xs fits) in
        let m : n - i ≡ suc (n - (i + 1)) = omega arith in
        let inside : i * k ≤ length xs = omega (arith, row_inside xs fits i below) in
        let r = rows-keep k i n xs (row ++ later) (omega arith) inside in
        let u = up_to-keep is_empty i (rows k n xs) (rows k (n - i) (row ++ later)) (omega arith) in
        let l : length (in_use k n xs ++ row ∷ []) ≤ n = rw length-append (omega arith) in
        rw (first, drop-drop, next_row i k, r, u, m, take_at row later k long, drop_at row later k long, kept, None)
        (rw (take_all i (in_use k n xs) (omega arith)) (sym (take_all n (in_use k n xs ++ row ∷ []) l)))

    -- where there are n, no more has room
    pub used-full : n ≤ i → in_use k n xs ≡ take n (in_use k n xs ++ row ∷ [])
    used-full h = sym (take_at (in_use k n xs) (row ∷ []) n (omega (arith, used-fit k n xs)))

  -- ── A row over the one at i, and a row before it ──
  module _ (i : ℕ) (row xs : Bytes) (fits : Holds k n xs) (long : length row ≡ k) (kept : is_empty row ≡ false) where
    pub used-set : i < length (in_use k n xs) → in_use k n (replaced (i * k) k row xs) ≡ set (in_use k n xs) i row
    used-set h =
        let b : i < n = omega (arith, used-fit k n xs) in
        rw (rows-set k i n row xs long b (omega (arith, row_inside xs fits i b))) (up_to-set is_empty i row (rows k n xs) kept h)

    module _ (below : i < n) (within : i ≤ length (in_use k n xs)) where
      -- the first m bytes from the place on; the row at the place, and some bytes behind it
      abbrev next : ℕ → Bytes
      next m = take m (drop (i * k) xs)

      abbrev put : Bytes → Bytes
      put ys = take (i * k) xs ++ (row ++ ys)

      abbrev all : Bytes
      all = put (next (length xs - i * k - k))

      all_inserted : in_use k n all ≡ take n (insert_at i row (in_use k n xs))
      all_inserted = rw (rows-insert k i n row xs long below fits.1, up_to-take is_empty n, up_to-insert is_empty i row (rows k n xs) kept within)

      all-count : length (in_use k n all) ≡ min n (length (in_use k n xs) + 1)
      all-count = ap length all_inserted ∙ simp (length-append, length-take, length-drop) (omega arith)

      -- rows move up to the end e, behind which none is in use: it is as if all had moved
      abbrev e : ℕ
      e = moved_end k n xs

      room : i * k + k ≤ e
      room = let l : i + 1 ≤ min (length (in_use k n xs) + 2) n = omega arith in omega (arith, next_row i k, mul-le-mul_right k l)

      inside : e ≤ length xs
      inside = let l : min (length (in_use k n xs) + 2) n ≤ n = omega arith in omega (arith, fits.1, mul-le-mul_right k l)

      pub moved-room : (i * k + k ≤ moved_end k n xs) × (moved_end k n xs ≤ length xs)
      moved-room = (room, inside)

      put-start : (ys : Bytes) → take e (put ys) ≡ put (take (e - i * k - k) ys)
      put-start ys =
          let p : e ≡ length (take (i * k) xs) + (length row + (e - i * k - k)) = omega (arith, room, inside, length-take-le (i * k) xs (omega (arith, room, inside))) in
          ap (λ (j : ℕ). take j (put ys)) p ∙ rw (take-append-add, take-append-add)

      same_start : (ys : Bytes) → take e (put (next (e - i * k - k) ++ ys)) ≡ take e all
      same_start ys =
          let j = e - i * k - k in
          let w = length_part (i * k) j xs (omega (arith, room, inside)) in
          let t = take-take j (length xs - i * k - k) (drop (i * k) xs) (omega (arith, inside)) in
          put-start (next j ++ ys) ∙ rw (take_at (next j) ys j w, ← t) (sym (put-start (next (length xs - i * k - k))))

      pub inserted-used : in_use k n (inserted_row k n i row xs) ≡ take n (insert_at i row (in_use k n xs))
      unfolding inserted_row
      inserted-used =
          let same = same_start (drop (e - i * k) (drop (i * k) xs)) in
          rw append_assoc (used-same (min (length (in_use k n xs) + 2) n) e all _ (omega arith) (omega arith) (omega (arith, all-count)) same) ∙ all_inserted

      -- the part up to the end came back with the row at its start
      pub bytes-inserted : {end : ℕ} → end ≡ moved_end k n xs → {ys : Bytes} → ys ≡ row ++ take (length (next (end - i * k)) - length row) (next (end - i * k))
          → replaced (i * k) (end - i * k) ys xs ≡ inserted_row k n i row xs
      unfolding inserted_row
      bytes-inserted ends came =
          let w = length_part (i * k) (e - i * k) xs (omega (arith, room, inside)) in
          rw (came, ends, w, long, take-take (e - i * k - k) (e - i * k) (drop (i * k) xs) (omega arith))

-- after each byte has moved by the length of a row, the copy of the row
pub put_first : (tail row mid out : Bytes) → length row ≤ length tail → mid ≡ moved_later (length row) tail → out ≡ row ++ drop (length row) mid
    → out ≡ row ++ take (length tail - length row) tail
put_first tail row mid out h p q =
    q ∙ rw (p, drop_at (take (length row) tail) (take (length tail - length row) tail) (length row) (length-take-le (length row) tail h))

-- ── The same of what the rows mean ──
module _ {A : Type 0} (decode : Bytes → A) (k n : ℕ) (xs ys row : Bytes) where
  pub table-pushed : in_use k n ys ≡ take n (in_use k n xs ++ row ∷ []) → table decode k n ys ≡ take n (table decode k n xs ++ decode row ∷ [])
  unfolding table
  table-pushed e = rw (e, map-take, map-append)

  pub table-set : (i : ℕ) → in_use k n ys ≡ set (in_use k n xs) i row → table decode k n ys ≡ set (table decode k n xs) i (decode row)
  unfolding table
  table-set i e = rw (e, map-set)

  pub table-inserted : (i : ℕ) → in_use k n ys ≡ take n (insert_at i row (in_use k n xs))
      → table decode k n ys ≡ take n (insert_at i (decode row) (table decode k n xs))
  unfolding table
  table-inserted i e = rw e (simp (map-take, map-append, map-drop))
