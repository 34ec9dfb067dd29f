-- Rows with zeros behind them: what a row more, a row over another and a row before another leave there.
use Prim.Native.Nat.{ℕ, zero, suc, ◌+◌, ◌*◌, ◌-◌, ◌≤◌, ◌<◌, min}
use mathlib.Core.Path.{◌≡◌, refl, sym, ap, ◌∙◌}
use mathlib.Core.Bool.{false}
use mathlib.Core.List.{[], ◌∷◌, ◌++◌, append_assoc, append-nil}
use native.Mathlib.Nat.{zero-mul, suc-mul, sub-zero, suc-sub-suc, zero-sub, zero-min, add_comm, le_refl, mul-le-mul_right}
use native.Mathlib.Numerals.{add-one}
use native.Mathlib.Omega.{arith}
use lib.Dec.{ltb}
use borrow.Author.Tests.{ltb-true, ltb-false}
use lib.ListN.{length, get_or, take, drop, set, replicate, length-set, length-take, length-drop, length-append, length-replicate, replicate-append-replicate, take-append-drop, drop_of_length-le}
use lib.Seq.{take-add, take_all, take_at, drop_at, drop-drop, drop-append-le, length-take-le}
use Rattle.rows.specs.Rows.{rows, insert_at, replaced, written}
use Rattle.rows.proofs.Rows.{drop-take, take-rows, up_to-prefix}
use Rattle.rows.proofs.Parts.{tail-part, tail-replaced, after-replaced, length-replaced}
use Rattle.model.specs.Base.{Bytes, joined}
use Rattle.model.proofs.Lists.{by_cases, joined-append}
use Rattle.layout.specs.Layout.{is_empty, in_use, counted_rows, Holds, inserted_row, padded, Tight, TightCounted}
use Rattle.layout.proofs.Counts.{length-rows-counted, rows_pushed}
use Rattle.layout.proofs.Used.{used-fit, used-none}
use Rattle.layout.proofs.Changed.{next_row, room-behind, row_inside, used-pushed, used-set}

-- ── Zeros ──
abbrev pub zeros : ℕ → Bytes
zeros n = replicate n 0

pub zero-at : (n i : ℕ) → get_or (zeros n) i 0 ≡ 0
zero-at zero zero = refl
zero-at zero (suc i) = refl
zero-at (suc n) zero = refl
zero-at (suc n) (suc i) = zero-at n i

pub drop-zeros : (m n : ℕ) → drop m (zeros n) ≡ zeros (n - m)
drop-zeros zero n = rw sub-zero
drop-zeros (suc m) zero = rw zero-sub
drop-zeros (suc m) (suc n) = drop-zeros m n ∙ rw suc-sub-suc

take-zeros : (m n : ℕ) → m ≤ n → take m (zeros n) ≡ zeros m
take-zeros zero n h = refl
take-zeros (suc m) zero h = absurd (omega arith)
take-zeros (suc m) (suc n) h = ap (λ (r : Bytes). 0 ∷ r) (take-zeros m n (omega arith))

-- a 0 over one of them changes nothing
zero-over : (s : Bytes) (i m : ℕ) → drop i s ≡ zeros m → set s i 0 ≡ s
zero-over [] i m h = refl
zero-over (x ∷ s) zero m h =
    let z : x ≡ 0 = ap (λ (l : Bytes). get_or l 0 0) h ∙ zero-at m 0 in
    rw z
zero-over (x ∷ s) (suc i) m h = ap (λ (r : Bytes). x ∷ r) (zero-over s i m h)

-- rows one behind the other are the bytes that they were taken from
joined-rows : (k n : ℕ) (s : Bytes) → joined (rows k n s) ≡ take (n * k) s
unfolding joined rows
joined-rows k zero s = rw zero-mul
joined-rows k (suc n) s = rw (joined-rows k n (drop k s), suc-mul, add_comm (n * k) k) (sym (take-add k (n * k) s))

-- places a, e and f of rows of k bytes among w
places : (a e f k w b : ℕ) → a + k ≤ e → e ≤ f → f ≤ w → b + k ≡ e
    → (f - a - k - (e - (a + k)) ≡ f - e) × (a + (f - a) ≡ f) × (f - e + (w - f) ≡ w - e) × (a + k + (e - (a + k)) ≡ e) × (a + (e - (a + k)) ≡ b)
    × (e - (a + k) ≤ f - a - k) × (f - e ≤ w - b) × (b ≤ f) × (a ≤ w) × (f - a - k ≤ w - a)
places a e f k w b p q r h = (omega arith, omega arith, omega arith, omega arith, omega arith, omega arith, omega arith, omega arith, omega arith, omega arith)

-- ── Rows in use: zeros from their end on ──
module _ (k n : ℕ) where
  -- where the rows in use end
  abbrev end : Bytes → ℕ
  end s = length (in_use k n s) * k

  end-inside : (s : Bytes) → end s ≤ n * k
  end-inside s = mul-le-mul_right k (used-fit k n s)

  joined-used : (s : Bytes) → joined (in_use k n s) ≡ take (end s) s
  joined-used s =
      ap joined (up_to-prefix is_empty (rows k n s) ∙ take-rows k (length (in_use k n s)) n s (used-fit k n s))
      ∙ joined-rows k (length (in_use k n s)) s

  zeros-tight : (s : Bytes) → length s ≡ n * k → drop (end s) s ≡ zeros (n * k - end s) → Tight k n s
  zeros-tight s l z =
      let long = length-take-le (end s) s (omega (arith, end-inside s)) in
      sym (take-append-drop (end s) s) ∙ rw (z, joined-used s, long)

  module _ (s : Bytes) (fits : Holds k n s) (tight : Tight k n s) where
    used-long : length (joined (in_use k n s)) ≡ end s
    used-long = rw (joined-used s) (length-take-le (end s) s (omega (arith, end-inside s, fits.1)))

    pub tight-long : length s ≡ n * k
    tight-long =
        ap length tight ∙ simp (length-append, length-replicate) (omega (arith, used-long, end-inside s))

    zeros-from : (i : ℕ) → end s ≤ i → drop i s ≡ zeros (n * k - i)
    zeros-from i h =
        let rest = zeros (n * k - length (joined (in_use k n s))) in
        let e : drop (end s) s ≡ zeros (n * k - end s) =
        ap (drop (end s)) tight ∙ drop_at (joined (in_use k n s)) rest (end s) used-long ∙ ap (λ (m : ℕ). zeros (n * k - m)) used-long in
        let j : end s + (i - end s) ≡ i = omega arith in
        let w : n * k - end s - (i - end s) ≡ n * k - i = omega arith in
        ap (λ (m : ℕ). drop m s) (sym j) ∙ sym (drop-drop (i - end s) (end s) s) ∙ ap (drop (i - end s)) e
        ∙ drop-zeros (i - end s) (n * k - end s) ∙ ap zeros w

    -- the rows were copied into another table, and then the rest of it was wiped
    pub copied-whole : {m : ℕ} → m ≡ length (in_use k n s) → (to mid ys : Bytes) → length to ≡ n * k
        → mid ≡ take (m * k) s ++ drop (length (take (m * k) s)) to
        → ys ≡ zeros (length (take (length mid - m * k) (drop (m * k) mid)))
        → replaced (m * k) (length mid - m * k) ys mid ≡ s
    copied-whole counted to mid ys long copied cleared =
        let size : length (take (end s) s) ≡ end s = length-take-le (end s) s (omega (arith, end-inside s, fits.1)) in
        let first : mid ≡ take (end s) s ++ drop (end s) to = copied ∙ rw (counted, size) in
        let whole : length mid ≡ n * k = rw (first, length-append, size, length-drop) (omega (arith, end-inside s)) in
        let rest : ys ≡ zeros (n * k - end s) = cleared ∙ rw (counted, tail-part, length-drop, whole) in
        rw (tail-replaced, rest, counted, first, take_at (take (end s) s) (drop (end s) to) (end s) size, ← zeros-from (end s) (le_refl (end s)))
        (take-append-drop (end s) s)

    -- a row written from where i rows end: what stands from e on, behind it, stays
    behind-row : (i e : ℕ) (row : Bytes) → length row ≡ k → i < n → i * k + k ≤ e → drop e (replaced (i * k) k row s) ≡ drop e s
    behind-row i e row long below h =
        let t = replaced (i * k) k row s in
        let j : i * k + k + (e - (i * k + k)) ≡ e = omega arith in
        let after = after-replaced (i * k) k s (row_inside k n s fits i below) row long in
        ap (λ (m : ℕ). drop m t) (sym j) ∙ sym (drop-drop (e - (i * k + k)) (i * k + k) t) ∙ ap (drop (e - (i * k + k))) after
        ∙ drop-drop (e - (i * k + k)) (i * k + k) s ∙ ap (λ (m : ℕ). drop m s) j

    -- a row was written there, and the rows in use end at e then
    row-tight : (i m : ℕ) (row : Bytes) → length row ≡ k → i < n → length (in_use k n (replaced (i * k) k row s)) ≡ m
        → i * k + k ≤ m * k → end s ≤ m * k → Tight k n (replaced (i * k) k row s)
    row-tight i m row long below counted behind more =
        let t = replaced (i * k) k row s in
        let e : end t ≡ m * k = ap (λ (j : ℕ). j * k) counted in
        let same = behind-row i (m * k) row long below behind ∙ zeros-from (m * k) more in
        zeros-tight t (length-replaced (i * k) k s (row_inside k n s fits i below) row long ∙ tight-long) (rw e same)

    -- over one in use
    pub tight-set : (i : ℕ) (row : Bytes) → length row ≡ k → is_empty row ≡ false → i < length (in_use k n s) → Tight k n (replaced (i * k) k row s)
    tight-set i row long kept below =
        let used = used-set k n i row s fits long kept below in
        let more : i + 1 ≤ length (in_use k n s) = omega arith in
        row-tight i (length (in_use k n s)) row long (omega (arith, used-fit k n s)) (ap length used ∙ simp length-set)
        (omega (arith, next_row i k, mul-le-mul_right k more)) (omega arith)

    -- behind the last
    pub tight-pushed : (i : ℕ) (row : Bytes) {ys : Bytes} → i ≡ length (in_use k n s) → i < n → ys ≡ written (i * k + k) (0 ∷ []) s
        → length row ≡ k → is_empty row ≡ false → Tight k n (replaced (i * k) k row ys)
    unfolding written
    tight-pushed i row {ys} is below e long kept =
        let same : ys ≡ s = e ∙ zero-over s (i * k + k) (n * k - (i * k + k)) (zeros-from (i * k + k) (rw is (omega arith))) in
        let used = used-pushed k n i s row is fits below e long kept in
        let counted : length (in_use k n (replaced (i * k) k row s)) ≡ i + 1 =
        ap (λ (y : Bytes). length (in_use k n (replaced (i * k) k row y))) (sym same) ∙ ap length used ∙ simp (length-take, length-append) (omega arith) in
        rw same (row-tight i (i + 1) row long below counted (omega (arith, next_row i k)) (rw is (omega (arith, next_row i k))))

    -- what stands between the places a and f - k is moved by a row, which is put at a: zeros from e on, where the rows then end
    zeros-behind : (a e f : ℕ) (row : Bytes) → length row ≡ k → a + k ≤ e → e ≤ f → f ≤ n * k → end s + k ≡ e
        → drop e ((take a s ++ row) ++ (take (f - a - k) (drop a s) ++ drop (f - a) (drop a s))) ≡ zeros (n * k - e)
    zeros-behind a e f row long low high inside more =
        let (w₁, w₂, w₃, w₄, w₅, w₆, w₇, w₈, w₉, w₁₀) = places a e f k (n * k) (end s) low high inside more in
        let first : length (take a s) ≡ a = length-take-le a s (rw tight-long w₉) in
        let front : length (take a s ++ row) ≡ a + k = rw (length-append, first, long) in
        let m = f - a - k in
        let j = e - (a + k) in
        let x = drop a s in
        let part : length (take m x) ≡ m = length-take-le m x (rw (length-drop, tight-long) w₁₀) in
        let one : drop j (take m x) ≡ zeros (f - e) =
        drop-take j m x ∙ rw (w₁, drop-drop j a s, w₅, zeros-from (end s) (le_refl (end s))) (take-zeros (f - e) (n * k - end s) w₇) in
        let two : drop (f - a) x ≡ zeros (n * k - f) = drop-drop (f - a) a s ∙ rw w₂ (zeros-from f w₈) in
        rw (← w₄, ← drop-drop j (a + k) ((take a s ++ row) ++ (take m x ++ drop (f - a) x)), drop_at (take a s ++ row) (take m x ++ drop (f - a) x) (a + k) front, drop-append-le j (take m x) (drop (f - a) x) (rw part w₆), one, two)
        (rw w₄ (replicate-append-replicate (f - e) (n * k - f) 0 ∙ ap zeros w₃))

    -- before another: only rows in use move, and the empty one behind them
    module _ (i : ℕ) (row : Bytes) (long : length row ≡ k) (below : i < n) (within : i ≤ length (in_use k n s))
        (used : in_use k n (inserted_row k n i row s) ≡ take n (insert_at i row (in_use k n s))) where
      -- how many are in use then, and how many rows have moved
      abbrev now : ℕ
      now = min n (length (in_use k n s) + 1)

      abbrev moved : ℕ
      moved = min (length (in_use k n s) + 2) n

      counted : length (in_use k n (inserted_row k n i row s)) ≡ now
      counted = ap length used ∙ simp (length-append, length-take, length-drop) (omega arith)

      abbrev behind : Bytes
      behind = take (moved * k - i * k - k) (drop (i * k) s) ++ drop (moved * k - i * k) (drop (i * k) s)

      abbrev before : Bytes
      before = take (i * k) s ++ row

      bytes : inserted_row k n i row s ≡ before ++ behind
      unfolding inserted_row
      bytes = simp append_assoc

      inside : (i * k + k ≤ now * k) × (now * k ≤ moved * k) × (moved * k ≤ n * k)
      inside =
          let a : i + 1 ≤ now = omega arith in
          let b : now ≤ moved = omega arith in
          let c : moved ≤ n = omega arith in
          (omega (arith, next_row i k, mul-le-mul_right k a), mul-le-mul_right k b, mul-le-mul_right k c)

      inserted-long : length (inserted_row k n i row s) ≡ n * k
      inserted-long = ap length bytes ∙ simp (length-append, length-take, length-drop) (omega (arith, inside, tight-long))

      pub tight-inserted : Tight k n (inserted_row k n i row s)
      tight-inserted =
          let e : end (inserted_row k n i row s) ≡ now * k = ap (λ (j : ℕ). j * k) counted in
          zeros-tight (inserted_row k n i row s) inserted-long (rw e (by_cases (ltb (length (in_use k n s)) n)
          (λ t.
          let room = ltb-true (length (in_use k n s)) n t in
          let one : length (in_use k n s) + 1 ≡ now = omega arith in
          let more = next_row (length (in_use k n s)) k ∙ ap (λ (c : ℕ). c * k) one in
          rw bytes (zeros-behind (i * k) (now * k) (moved * k) row long inside.0 inside.1 inside.2 more))
          (λ f.
          let all : now ≡ n = omega (arith, ltb-false _ n f) in
          let None : n * k - n * k ≡ 0 = omega arith in
          rw (all, None) (drop_of_length-le (inserted_row k n i row s) {i = n * k} (omega (arith, inserted-long))))))

  -- none in use
  pub tight-none : 0 < k → Tight k n (zeros (n * k))
  unfolding joined
  tight-none size = rw (used-none k n (zeros (n * k)) size (zero-at (n * k) 0), sub-zero)

-- ── Rows behind a count: zeros behind them ──
module _ (k n : ℕ) (s : Bytes) where
  counted-joined : joined (counted_rows k n s) ≡ take (min (get_or s 0 0) n * k) (drop 1 s)
  counted-joined = ap joined (take-rows k (min (get_or s 0 0) n) n (drop 1 s) (omega arith)) ∙ joined-rows k (min (get_or s 0 0) n) (drop 1 s)

  -- the bytes where a row is written behind m, which are counted as m + 1 then
  row-behind : (m : ℕ) (js row rest : Bytes) → length js ≡ m * k
      → set (replaced (m * k + 1) k row (m ∷ (js ++ rest))) 0 (m + 1) ≡ (m + 1) ∷ (js ++ (row ++ drop k rest))
  row-behind m js row rest size = rw (add-one (m * k), take_at js rest (m * k) size, drop_at js rest (m * k) size)

  -- m are there; the row behind them was written, and then m + 1 into the first byte
  pub tight-counted : (row : Bytes) (m : ℕ) → m ≡ min (get_or s 0 0) n → m < n → n * k + 1 ≤ length s → length row ≡ k
      → TightCounted k n s → TightCounted k n (set (replaced (m * k + 1) k row s) 0 (m + 1))
  unfolding joined
  tight-counted row m is below fits long tight =
      let rs = counted_rows k n s in
      let inside = room-behind k n m below in
      let size : length (joined rs) ≡ m * k = rw (counted-joined, ← is) (length-take-le (m * k) (drop 1 s) (rw length-drop (omega (arith, inside)))) in
      let many : length rs ≡ m = length-rows-counted k n s ∙ sym is in
      let rest = zeros (n * k - m * k) in
      let bytes : s ≡ m ∷ (joined rs ++ rest) = let w : 1 + n * k - suc (m * k) ≡ n * k - m * k = omega arith in tight ∙ rw (many, size, w) in
      let now : set (replaced (m * k + 1) k row s) 0 (m + 1) ≡ (m + 1) ∷ (joined rs ++ (row ++ zeros (n * k - (m * k + k)))) =
      let w : n * k - m * k - k ≡ n * k - (m * k + k) = omega arith in
      ap (λ (l : Bytes). set (replaced (m * k + 1) k row l) 0 (m + 1)) bytes ∙ row-behind m (joined rs) row rest size ∙ rw (drop-zeros k (n * k - m * k), w) in
      let used : counted_rows k n (set (replaced (m * k + 1) k row s) 0 (m + 1)) ≡ rs ++ row ∷ [] =
      rows_pushed k n s row m is below (omega (arith, inside)) long ∙ take_all n (rs ++ row ∷ []) (rw (length-append, many) (omega arith)) in
      let all : padded (1 + n * k) (length (rs ++ row ∷ []) ∷ joined (rs ++ row ∷ [])) ≡ (m + 1) ∷ (joined rs ++ (row ++ zeros (n * k - (m * k + k)))) =
      let w : 1 + n * k - suc (m * k + k) ≡ n * k - (m * k + k) = omega arith in
      let js : joined (rs ++ row ∷ []) ≡ joined rs ++ row = joined-append rs (row ∷ []) ∙ rw append-nil in
      let long₁ : length (joined rs ++ row) ≡ m * k + k = rw (length-append, size, long) in
      rw (js, length-append rs (row ∷ []), many, long₁, w)
      (ap (λ (l : Bytes). (m + 1) ∷ l) (append_assoc (joined rs) row (zeros (n * k - (m * k + k))))) in
      rw used (now ∙ sym all)

-- none counted
pub none-counted : (k n : ℕ) → TightCounted k n (0 ∷ zeros (n * k))
unfolding joined
none-counted k n = let w : 1 + n * k - 1 ≡ n * k = omega arith in rw (zero-min, w)
