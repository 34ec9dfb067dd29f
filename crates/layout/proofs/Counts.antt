-- Rows behind a byte that says how many they are: how a loop reads them, and what they mean where one more is written.
use Prim.Native.Nat.{ℕ, zero, suc, ◌+◌, ◌*◌, ◌-◌, ◌≤◌, ◌<◌, min}
use mathlib.Core.Path.{◌≡◌, refl, sym, ap, ◌∙◌}
use mathlib.Core.List.{[], ◌∷◌, ◌++◌, map, map-append}
use native.Mathlib.Nat.{add_comm, le_refl}
use native.Mathlib.Numerals.{add-one}
use native.Mathlib.Omega.{arith}
use lib.ListN.{length, get_or, take, drop, set, length-take, length-append, length-map}
use lib.Seq.{take-suc, take-suc-set, take_at, take_all, take-take, drop-drop, get_or-take}
use Rattle.model.specs.Base.{Bytes}
use Rattle.rows.specs.Rows.{rows, replaced}
use Rattle.rows.proofs.Rows.{length-rows, row-at, rows-set, rows_take, drop-take, map-take, get_d_map}
use Rattle.rows.proofs.Positions.{here, over}
use Rattle.layout.specs.Layout.{counted_rows, counted}

module _ (k m : ℕ) where
  pub length-rows-counted : (s : Bytes) → length (counted_rows k m s) ≡ min (get_or s 0 0) m
  length-rows-counted s = simp (length-take, length-rows) (omega arith)

  -- where n are there, the row behind them was written, and then n + 1 into the first byte: one more
  pub rows_pushed : (s row : Bytes) (n : ℕ) → n ≡ min (get_or s 0 0) m → n < m → n * k < length s → length row ≡ k
      → counted_rows k m (set (replaced (n * k + 1) k row s) 0 (n + 1)) ≡ take m (counted_rows k m s ++ row ∷ [])
  rows_pushed [] row n c b h r = absurd (omega arith)
  rows_pushed (x ∷ xs) row n c b h r =
      let t = take n (rows k m xs) in
      let l : length (t ++ row ∷ []) ≤ m = simp (length-append, length-take, length-rows) (omega arith) in
      let e : min (n + 1) m ≡ suc n = omega arith in
      let w = rows-set k n m row xs r b (omega arith) in
      let p = take-suc-set (rows k m xs) n row (rw length-rows b) in
      rw (add-one (n * k), e, w, p, ← c) (sym (take_all m (t ++ row ∷ []) l))

  -- where m are there, no more has room
  pub rows-filled : (s row : Bytes) (n : ℕ) → n ≡ min (get_or s 0 0) m → m ≤ n
      → counted_rows k m s ≡ take m (counted_rows k m s ++ row ∷ [])
  rows-filled s row n c h = sym (take_at (counted_rows k m s) (row ∷ []) m (rw length-rows-counted (omega arith)))

module _ {A : Type 0} (decode : Bytes → A) (k m : ℕ) where
  -- there are as many as the byte says, at most m
  pub length-counted : (s : Bytes) → length (counted decode k m s) ≡ min (get_or s 0 0) m
  unfolding counted
  length-counted s = simp length-map (length-rows-counted k m s)

  -- the i-th of them
  pub counted-at : (s : Bytes) (i : ℕ) (z : A) → i < min (get_or s 0 0) m
      → get_or (counted decode k m s) i z ≡ decode (take k (drop (i * k + 1) s))
  unfolding counted
  counted-at s i z h =
      let n = min (get_or s 0 0) m in
      let r = rows k m (drop 1 s) in
      let l : i < length (take n r) = simp (length-take, length-rows) (omega arith) in
      let p = get_or-take n r i [] h ∙ row-at k i m (drop 1 s) [] (omega arith) in
      get_d_map decode i (take n r) z [] l ∙ ap decode (p ∙ rw (drop-drop, add_comm 1 (i * k)))

  -- a loop over them: what is left at the place i
  pub counted_step : (s : Bytes) (i : ℕ) → i < min (get_or s 0 0) m
      → drop i (counted decode k m s) ≡ decode (take k (drop (i * k + 1) s)) ∷ drop (i + 1) (counted decode k m s)
  counted_step s i h =
      let l : i < length (counted decode k m s) = rw length-counted h in
      here (decode []) (counted decode k m s) i l
      ∙ ap (λ (a : A). a ∷ drop (i + 1) (counted decode k m s)) (counted-at s i (decode []) h)

  -- behind the last nothing is left
  pub counted-over : (s : Bytes) (i : ℕ) → min (get_or s 0 0) m ≤ i → drop i (counted decode k m s) ≡ []
  counted-over s i h = over (counted decode k m s) i (rw length-counted h)

  -- a loop that gathers them: those before the place i, with one more, and all
  pub counted-more : (s : Bytes) (i : ℕ) → i < min (get_or s 0 0) m
      → take (i + 1) (counted decode k m s) ≡ take i (counted decode k m s) ++ decode (take k (drop (i * k + 1) s)) ∷ []
  counted-more s i h =
      let l : i < length (counted decode k m s) = rw length-counted h in
      rw (add-one i, take-suc (counted decode k m s) i (decode []) l, counted-at s i (decode []) h)

  pub counted-all : (s : Bytes) (i : ℕ) → min (get_or s 0 0) m ≤ i → take i (counted decode k m s) ≡ counted decode k m s
  counted-all s i h = take_all i (counted decode k m s) (rw length-counted h)

  -- one row more, and what it means
  pub counted-pushed : (s t row : Bytes) → counted_rows k m t ≡ take m (counted_rows k m s ++ row ∷ [])
      → counted decode k m t ≡ take m (counted decode k m s ++ decode row ∷ [])
  unfolding counted
  counted-pushed s t row e = rw (e, map-take, map-append)

  -- they lie in the first p bytes
  pub counted-part : (p : ℕ) (s : Bytes) → m * k + 1 ≤ p → counted decode k m (take p s) ≡ counted decode k m s
  unfolding counted
  counted-part p s h = rw (get_or-take p s 0 0 (omega arith), drop-take 1 p s, rows_take k m (p - 1) (drop 1 s) (omega arith))

  -- a row has no more than k bytes
  short-rows : (j n : ℕ) (xs : Bytes) → map decode (take j (rows k n xs)) ≡ map (λ r. decode (take k r)) (take j (rows k n xs))
  unfolding rows
  short-rows zero n xs = refl
  short-rows (suc j) zero xs = refl
  short-rows (suc j) (suc n) xs = rw (take-take k k xs (le_refl k), short-rows j n (drop k xs))

  pub counted-short : (s : Bytes) → counted decode k m s ≡ counted (λ r. decode (take k r)) k m s
  unfolding counted
  counted-short s = short-rows (min (get_or s 0 0) m) m (drop 1 s)
