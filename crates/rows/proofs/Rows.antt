-- Rows of a flat list and elements before a stop: how they change where the list is cut, joined and written.
use Prim.Native.Nat.{ℕ, zero, suc, ◌+◌, ◌*◌, ◌-◌, ◌≤◌, ◌<◌}
use mathlib.Core.Path.{◌≡◌, refl, sym, ap, ◌∙◌}
use mathlib.Core.Bool.{Bool, true, false, cond}
use mathlib.Core.List.{List, [], ◌∷◌, ◌++◌, map}
use native.Mathlib.Nat.{zero-mul, suc-mul, add-mul, sub-zero, zero-sub, suc-sub-suc, zero-add, suc-add, add_comm}
use native.Mathlib.Nat.{le_refl, le_of_suc-le-suc}
use native.Mathlib.Numerals.{add-one}
use native.Mathlib.Omega.{arith}
use lib.ListN.{length, get_or, take, drop, set, length-take, length-drop, take-append-drop}
use lib.Seq.{take-nil, take_all, take-take, take_at, take-append-le, take-append-add, length-take-le}
use lib.Seq.{drop_at, drop-drop, drop-append-le, set_split}
use Rattle.rows.specs.Rows.{rows, up_to, insert_at, replaced}

-- ---- parts of a list

module _ {ℓ} {A : Type ℓ} where
  -- what is left of a beginning
  pub drop-take : (k p : ℕ) (xs : List A) → drop k (take p xs) ≡ take (p - k) (drop k xs)
  drop-take zero p xs = rw sub-zero
  drop-take (suc k) zero xs = rw zero-sub
  drop-take (suc k) (suc p) [] = rw take-nil
  drop-take (suc k) (suc p) (x ∷ xs) = drop-take k p xs ∙ rw suc-sub-suc

  -- the first n elements where one was put in: it is among them, or it is past them
  pub take-insert : (n i : ℕ) (a : A) (xs : List A) → i < n → i ≤ length xs
      → take n (insert_at i a xs) ≡ take i xs ++ a ∷ take (n - suc i) (drop i xs)
  take-insert n i a xs h l =
      let e : n ≡ length (take i xs) + suc (n - suc i) = omega (arith, length-take-le i xs l) in
      ap (λ (m : ℕ). take m (insert_at i a xs)) e ∙ take-append-add (take i xs) (a ∷ drop i xs) (suc (n - suc i))

  pub insert-past : (n i : ℕ) (a : A) (xs : List A) → i ≤ length xs → n ≤ i → length xs ≤ n
      → take n (insert_at i a xs) ≡ xs
  insert-past n i a xs p q r =
      take-append-le n (take i xs) (a ∷ drop i xs) (rw (length-take-le i xs p) q) ∙ take-take n i xs q ∙ take_all n xs r

-- the elements of a part, of a list with one written over, and at a place, each mapped
module _ {ℓ κ} {A : Type ℓ} {B : Type κ} (f : A → B) where
  pub map-take : (n : ℕ) (xs : List A) → map f (take n xs) ≡ take n (map f xs)
  map-take zero xs = refl
  map-take (suc n) [] = refl
  map-take (suc n) (x ∷ xs) = rw (map-take n xs)

  pub map-drop : (n : ℕ) (xs : List A) → map f (drop n xs) ≡ drop n (map f xs)
  map-drop zero xs = refl
  map-drop (suc n) [] = refl
  map-drop (suc n) (x ∷ xs) = map-drop n xs

  pub map-set : (i : ℕ) (a : A) (xs : List A) → map f (set xs i a) ≡ set (map f xs) i (f a)
  map-set i a [] = refl
  map-set zero a (x ∷ xs) = refl
  map-set (suc i) a (x ∷ xs) = rw (map-set i a xs)

  pub get_d_map : (i : ℕ) (xs : List A) (z : B) (d : A) → i < length xs → get_or (map f xs) i z ≡ f (get_or xs i d)
  get_d_map i [] z d h = absurd (omega arith)
  get_d_map zero (x ∷ xs) z d h = refl
  get_d_map (suc i) (x ∷ xs) z d h = get_d_map i xs z d (le_of_suc-le-suc h)

-- ---- rows

-- n rows are i rows, a row, and the later ones
rows-size : (k i n : ℕ) → i < n → n * k ≡ i * k + k + (n - suc i) * k
rows-size k i n h =
    let e : n ≡ suc (i + (n - suc i)) = omega arith in
    let p : n * k ≡ i * k + (n - suc i) * k + k = ap (λ (j : ℕ). j * k) e ∙ rw (suc-mul, add-mul) in
    omega arith

module _ {ℓ} {A : Type ℓ} (k : ℕ) where
  -- there are n
  pub length-rows : (n : ℕ) (xs : List A) → length (rows k n xs) ≡ n
  unfolding rows
  length-rows zero xs = refl
  length-rows (suc n) xs = ap suc (length-rows n (drop k xs))

  -- the row at i
  pub row-at : (i n : ℕ) (xs z : List A) → i < n → get_or (rows k n xs) i z ≡ take k (drop (i * k) xs)
  unfolding rows
  row-at i zero xs z h = absurd (omega arith)
  row-at zero (suc n) xs z h = rw zero-mul
  row-at (suc i) (suc n) xs z h =
      row-at i n (drop k xs) z (le_of_suc-le-suc h) ∙ rw (drop-drop (i * k) k xs, suc-mul, add_comm k (i * k))

  -- a loop over the rows, at the row i of n
  pub rows_step : (i n : ℕ) (xs : List A) → i < n
      → rows k (n - i) (drop (i * k) xs) ≡ take k (drop (i * k) xs) ∷ rows k (n - (i + 1)) (drop ((i + 1) * k) xs)
  unfolding rows
  rows_step i n xs h = let e : n - i ≡ suc (n - (i + 1)) = omega arith in rw (e, drop-drop, add-one i, suc-mul)

  -- the first rows, and the later ones
  pub rows_take : (n p : ℕ) (xs : List A) → n * k ≤ p → rows k n (take p xs) ≡ rows k n xs
  unfolding rows
  rows_take zero p xs h = refl
  rows_take (suc n) p xs h =
      let q : n * k + k ≤ p = rw suc-mul at h in
      rw (take-take k p xs (omega arith), drop-take, rows_take n (p - k) (drop k xs) (omega arith))

  pub take-rows : (m n : ℕ) (xs : List A) → m ≤ n → take m (rows k n xs) ≡ rows k m xs
  unfolding rows
  take-rows zero n xs h = refl
  take-rows (suc m) zero xs h = absurd (omega arith)
  take-rows (suc m) (suc n) xs h = rw (take-rows m n (drop k xs) (le_of_suc-le-suc h))

  pub drop-rows : (m n : ℕ) (xs : List A) → drop m (rows k n xs) ≡ rows k (n - m) (drop (m * k) xs)
  unfolding rows
  drop-rows zero n xs = rw (sub-zero, zero-mul)
  drop-rows (suc m) zero xs = rw zero-sub
  drop-rows (suc m) (suc n) xs =
      drop-rows m n (drop k xs) ∙ rw (drop-drop (m * k) k xs, suc-sub-suc, suc-mul, add_comm k (m * k))

  -- the rows of two lists that are joined
  pub rows_append : (m n : ℕ) (xs ys : List A) → length xs ≡ m * k
      → rows k (m + n) (xs ++ ys) ≡ rows k m xs ++ rows k n ys
  unfolding rows
  rows_append zero n [] ys h = rw zero-add
  rows_append zero n (x ∷ xs) ys h = absurd (omega (arith, zero-mul k))
  rows_append (suc m) n xs ys h =
      let q : length xs ≡ m * k + k = h ∙ suc-mul m k in
      let l : length (drop k xs) ≡ m * k = length-drop k xs ∙ omega arith in
      let t = take-append-le k xs ys (omega arith) in
      let d = drop-append-le k xs ys (omega arith) in
      rw (suc-add, t, d, rows_append m n (drop k xs) ys l)

  -- the first i rows stay where what follows them changes
  pub rows-keep : (i n : ℕ) (xs ys : List A) → i ≤ n → i * k ≤ length xs
      → rows k n (take (i * k) xs ++ ys) ≡ take i (rows k n xs) ++ rows k (n - i) ys
  rows-keep i n xs ys h l =
      let e : n ≡ i + (n - i) = omega arith in
      ap (λ (j : ℕ). rows k j (take (i * k) xs ++ ys)) e
      ∙ rows_append i (n - i) (take (i * k) xs) ys (length-take-le (i * k) xs l)
      ∙ rw (rows_take i (i * k) xs (le_refl _), take-rows i n xs h)

  rows-later : (i n : ℕ) (xs : List A) → rows k (n - suc i) (drop k (drop (i * k) xs)) ≡ drop (suc i) (rows k n xs)
  rows-later i n xs = rw (drop-drop k (i * k) xs, ← suc-mul i k) (sym (drop-rows (suc i) n xs))

  module _ (i n : ℕ) (row xs : List A) (long : length row ≡ k) (below : i < n) where
    rows-put : (ys : List A) → i * k ≤ length xs
        → rows k n (take (i * k) xs ++ (row ++ ys)) ≡ take i (rows k n xs) ++ row ∷ rows k (n - suc i) ys
    unfolding rows
    rows-put ys h =
        let e : n - i ≡ suc (n - suc i) = omega arith in
        rows-keep i n xs (row ++ ys) (omega arith) h ∙ rw (e, take_at row ys k long, drop_at row ys k long)

    -- a row put in at i: the rows from there on move one place, and the last falls off
    pub rows-insert : n * k ≤ length xs
        → rows k n (take (i * k) xs ++ (row ++ take (length xs - i * k - k) (drop (i * k) xs)))
        ≡ take n (insert_at i row (rows k n xs))
    rows-insert room =
        let p = rows-size k i n below in
        let q = rows_take (n - suc i) (length xs - i * k - k) (drop (i * k) xs) (omega arith) in
        let t = take-rows (n - suc i) (n - i) (drop (i * k) xs) (omega arith) in
        let r = take-insert n i row (rows k n xs) below (rw length-rows (omega arith)) in
        rows-put (take (length xs - i * k - k) (drop (i * k) xs)) (omega arith) ∙ rw q (sym (r ∙ rw (drop-rows, t)))

    -- a row written over the one at i
    pub rows-set : i * k ≤ length xs → rows k n (replaced (i * k) k row xs) ≡ set (rows k n xs) i row
    rows-set h =
        rows-put (drop k (drop (i * k) xs)) h
        ∙ rw rows-later (sym (set_split (rows k n xs) i row (rw length-rows below)))

-- ---- elements before a stop

module _ {ℓ} {A : Type ℓ} (stop : A → Bool) where
  -- by cases: the first element is a stop, or it is none
  up_to-cases : (x : A) (xs : List A) (P : List A → Type ℓ) → (stop x ≡ true → P [])
      → (stop x ≡ false → P (x ∷ up_to stop xs)) → P (up_to stop (x ∷ xs))
  unfolding up_to
  up_to-cases x xs P y n = go (stop x) refl
    where
      go : (t : Bool) → stop x ≡ t → P (cond t [] (x ∷ up_to stop xs))
      go true e = y e
      go false e = n e

  -- they are a beginning of the list
  pub up_to-prefix : (xs : List A) → up_to stop xs ≡ take (length (up_to stop xs)) xs
  unfolding up_to
  up_to-prefix [] = refl
  up_to-prefix (x ∷ xs) =
      up_to-cases x xs (λ l. l ≡ take (length l) (x ∷ xs)) (λ e. refl) (λ e. ap (λ (l : List A). x ∷ l) (up_to-prefix xs))

  pub length-up_to : (xs : List A) → length (up_to stop xs) ≤ length xs
  length-up_to xs = omega (arith, ap length (up_to-prefix xs), length-take (length (up_to stop xs)) xs)

  -- those of a beginning of the list
  pub up_to-take : (n : ℕ) (xs : List A) → up_to stop (take n xs) ≡ take n (up_to stop xs)
  unfolding up_to
  up_to-take zero xs = refl
  up_to-take (suc n) [] = refl
  up_to-take (suc n) (x ∷ xs) =
      up_to-cases x xs (λ l. up_to stop (x ∷ take n xs) ≡ take (suc n) l) (λ e. rw e) (λ e. rw (e, up_to-take n xs))

  -- the first i stay where what follows them changes
  pub up_to-keep : (i : ℕ) (xs ys : List A) → i ≤ length (up_to stop xs)
      → up_to stop (take i xs ++ ys) ≡ take i (up_to stop xs) ++ up_to stop ys
  unfolding up_to
  up_to-keep zero xs ys h = refl
  up_to-keep (suc i) [] ys h = absurd (omega arith)
  up_to-keep (suc i) (x ∷ xs) ys h =
      up_to-cases x xs (λ l. suc i ≤ length l → up_to stop (x ∷ (take i xs ++ ys)) ≡ take (suc i) l ++ up_to stop ys)
      (λ e l. absurd (omega arith)) (λ e l. rw (e, up_to-keep i xs ys (le_of_suc-le-suc l))) h

  -- those of an end of the list
  pub up_to-drop : (i : ℕ) (xs : List A) → i ≤ length (up_to stop xs) → up_to stop (drop i xs) ≡ drop i (up_to stop xs)
  up_to-drop i xs h =
      let split = ap (up_to stop) (sym (take-append-drop i xs)) ∙ up_to-keep i xs (drop i xs) h in
      let l = length-take-le i (up_to stop xs) h in
      sym (ap (drop i) split ∙ drop_at (take i (up_to stop xs)) (up_to stop (drop i xs)) i l)

  -- an element that is no stop put in, or written over another
  module _ (i : ℕ) (a : A) (xs : List A) (kept : stop a ≡ false) where
    pub up_to-insert : i ≤ length (up_to stop xs) → up_to stop (insert_at i a xs) ≡ insert_at i a (up_to stop xs)
    unfolding up_to
    up_to-insert h = up_to-keep i xs (a ∷ drop i xs) h ∙ rw (kept, up_to-drop i xs h)

    pub up_to-set : i < length (up_to stop xs) → up_to stop (set xs i a) ≡ set (up_to stop xs) i a
    unfolding up_to
    up_to-set h =
        rw (set_split xs i a (omega (arith, length-up_to xs)), set_split (up_to stop xs) i a h)
        (up_to-keep i xs (a ∷ drop (suc i) xs) (omega arith) ∙ rw (kept, up_to-drop (suc i) xs h))
