-- A part of a slice, lent and back: what the borrow checker says of the part, said of the whole.
use Prim.Native.Nat.{ℕ, ◌+◌, ◌-◌, ◌≤◌, ◌<◌}
use mathlib.Core.Path.{◌≡◌, sym, ◌∙◌}
use mathlib.Core.List.{List, ◌++◌, append-nil}
use native.Mathlib.Omega.{arith}
use lib.ListN.{length, get_or, take, drop, length-take, length-drop, length-append, drop_of_length-le}
use lib.Seq.{take_all, take-take, length-take-le, drop_at, drop-drop, get_or-take, get_or-drop}
use Rattle.rows.specs.Rows.{replaced}
use Rattle.rows.proofs.Rows.{drop-take}

-- the part from the place a to the end, and what came back in its place
module _ {ℓ} {A : Type ℓ} (a : ℕ) (xs : List A) where
  pub tail-part : take (length xs - a) (drop a xs) ≡ drop a xs
  tail-part = take_all (length xs - a) (drop a xs) (rw length-drop (omega arith))

  pub tail-replaced : (ys : List A) → replaced a (length xs - a) ys xs ≡ take a xs ++ ys
  tail-replaced ys =
      let l : length (drop a xs) ≤ length xs - a = rw length-drop (omega arith) in
      rw (drop_of_length-le (drop a xs) l, append-nil)

module _ {ℓ} {A : Type ℓ} (a k : ℕ) (xs : List A) where
  -- an element, and a part, of the part of k elements from the place a on
  pub part_at : (z : A) (i : ℕ) → i < k → get_or (take k (drop a xs)) i z ≡ get_or xs (a + i) z
  part_at z i h = rw (get_or-take, get_or-drop)

  pub part-part : (b j : ℕ) → b + j ≤ k → take j (drop b (take k (drop a xs))) ≡ take j (drop (a + b) xs)
  part-part b j h = rw (drop-take, take-take j (k - b) (drop b (drop a xs)) (omega arith), drop-drop)

  module _ (inside : a + k ≤ length xs) where
    -- a part that is inside has its k elements
    pub length_part : length (take k (drop a xs)) ≡ k
    length_part = length-take-le k (drop a xs) (rw length-drop (omega arith))

    -- the whole, where ys came back: as long as it was, and with what stood behind the part
    module _ (ys : List A) (long : length ys ≡ k) where
      pub length-replaced : length (replaced a k ys xs) ≡ length xs
      length-replaced = simp (length-append, length-take, length-drop) (omega arith)

      pub after-replaced : drop (a + k) (replaced a k ys xs) ≡ drop (a + k) xs
      after-replaced =
          let from = drop_at (take a xs) (ys ++ drop k (drop a xs)) a (length-take-le a xs (omega arith)) in
          sym (drop-drop k a (replaced a k ys xs)) ∙ rw (from, drop_at ys (drop k (drop a xs)) k long, drop-drop)
