-- A text written into a buffer: what is left to write, and what the buffer holds after it.
use Prim.Native.Nat.{ℕ, zero, suc, ◌+◌, ◌-◌, ◌≤◌, min}
use mathlib.Core.Path.{◌≡◌, refl, sym, ap, ◌∙◌}
use mathlib.Core.List.{List, [], ◌∷◌, ◌++◌, append-nil}
use native.Mathlib.Nat.{add-zero, add-suc, suc-add, zero-add, zero-sub, sub-zero, suc-sub-suc, zero-min, min-zero, suc-min-suc}
use native.Mathlib.Numerals.{add-one}
use native.Mathlib.Omega.{arith}
use lib.ListN.{length, take, drop, set, length-take, length-drop, drop_of_length-le}
use lib.Seq.{sets, length-sets, take-set-le, take-nil, drop-nil}
use lib.Seq.{take_all, drop-drop}
use Rattle.rows.specs.Rows.{replaced, written}
use Rattle.rows.proofs.Parts.{tail-part, tail-replaced}

module _ {ℓ} {A : Type ℓ} where
  -- the library's run of stores: of two texts, in no buffer, past a first element
  sets-append : (xs ys l : List A) (i : ℕ) → sets l i (xs ++ ys) ≡ sets (sets l i xs) (i + length xs) ys
  sets-append [] ys l i = rw add-zero
  sets-append (x ∷ xs) ys l i = sets-append xs ys (set l i x) (suc i) ∙ rw (suc-add, add-suc)

  sets-nil : (i : ℕ) (xs : List A) → sets [] i xs ≡ []
  sets-nil i [] = refl
  sets-nil i (x ∷ xs) = sets-nil (suc i) xs

  sets-cons : (y : A) (l xs : List A) (i : ℕ) → sets (y ∷ l) (suc i) xs ≡ y ∷ sets l i xs
  sets-cons y l [] i = refl
  sets-cons y l (x ∷ xs) i = sets-cons y (set l i x) xs (suc i)

  -- what is left to write: nothing, what follows a first element, what follows a first text
  pub written_none : (i : ℕ) (l : List A) → written i [] l ≡ l
  unfolding written
  written_none i l = refl

  pub written-cons : (i : ℕ) (x : A) (xs l : List A) → written (i + 1) xs (set l i x) ≡ written i (x ∷ xs) l
  unfolding written
  written-cons i x xs l = rw add-one

  pub written-append : (i : ℕ) (xs ys l : List A) → written (i + length xs) ys (written i xs l) ≡ written i (xs ++ ys) l
  unfolding written
  written-append i xs ys l = sym (sets-append xs ys l i)

  -- what the buffer holds: what stood before the text, as much of the text as falls inside, what stood behind it
  pub written-clipped : (i : ℕ) (xs l : List A)
      → written i xs l ≡ take i l ++ (take (length l - i) xs ++ drop (i + length xs) l)
  unfolding written
  written-clipped i xs [] = sets-nil i xs ∙ rw (take-nil, zero-sub, drop-nil)
  written-clipped zero [] (y ∷ l) = rw take-nil
  written-clipped zero (x ∷ xs) (y ∷ l) =
      sets-cons x l xs 0 ∙ ap (λ (r : List A). x ∷ r) (written-clipped zero xs l) ∙ simp (sub-zero, zero-add)
  written-clipped (suc i) xs (y ∷ l) =
      sets-cons y l xs i ∙ ap (λ (r : List A). y ∷ r) (written-clipped i xs l) ∙ rw (suc-sub-suc, suc-add)

  pub length-written : (i : ℕ) (xs l : List A) → length (written i xs l) ≡ length l
  unfolding written
  length-written i xs l = length-sets l i xs

  pub take-written : (n i : ℕ) (xs l : List A) → n ≤ i → take n (written i xs l) ≡ take n l
  unfolding written
  take-written n i [] l h = refl
  take-written n i (x ∷ xs) l h = take-written n (suc i) xs (set l i x) (omega arith) ∙ take-set-le n l i x h

  -- a count cut to the length of a list takes, and drops, what the whole count does
  pub take-clipped : (k n : ℕ) (xs : List A) → n ≡ min (length xs) k → take n xs ≡ take k xs
  take-clipped k n xs h = rw h (go k xs)
    where
      go : (k : ℕ) (xs : List A) → take (min (length xs) k) xs ≡ take k xs
      go k [] = take-nil (min 0 k) ∙ sym (take-nil k)
      go zero (x ∷ xs) = rw min-zero
      go (suc k) (x ∷ xs) = rw suc-min-suc (ap (λ (r : List A). x ∷ r) (go k xs))

  drop-clipped : (k : ℕ) (l : List A) → drop (min k (length l)) l ≡ drop k l
  drop-clipped k [] = drop-nil (min k 0) ∙ sym (drop-nil k)
  drop-clipped zero (x ∷ l) = rw zero-min
  drop-clipped (suc k) (x ∷ l) = rw suc-min-suc (drop-clipped k l)

  -- a text from the end of the buffer on is not stored
  pub written-outside : (i : ℕ) (xs l : List A) → length l ≤ i → written i xs l ≡ l
  written-outside i xs l h =
      let None : length l - i ≡ 0 = omega arith in
      rw (written-clipped i xs l, take_all i l h, None, drop_of_length-le l {i = i + length xs} (omega arith), append-nil)

  -- as much of a text as falls inside, copied into the part of the buffer from the place i on, is the text written there
  pub written-copied : (i n : ℕ) (xs l ys : List A) → n ≡ min (length xs) (length l - i)
      → ys ≡ take n xs ++ drop (length (take n xs)) (take (length l - i) (drop i l))
      → replaced i (length l - i) ys l ≡ written i xs l
  written-copied i n xs l ys h e =
      let size : length (take n xs) ≡ min (length xs) (length (drop i l)) = simp (length-take, length-drop) (omega arith) in
      rw (written-clipped, tail-replaced, e, tail-part, size, drop-clipped, drop-drop, take-clipped (length l - i) n xs h)
