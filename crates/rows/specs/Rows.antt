-- Rows of a fixed size in a flat list; elements put in and written over.
use Rattle.std.specs.Prelude.{ℕ, zero, suc, ◌+◌, ◌≡◌, Bool, cond, List, [], ◌∷◌, ◌++◌, length, take, drop}
use Rattle.std.proofs.lemmas.List.Edits.{sets}

module _ {ℓ} {A : Type ℓ} where
  -- the first n rows of k elements each
  unfoldable pub rows : ℕ → ℕ → List A → List (List A)
  rows k zero xs = []
  rows k (suc n) xs = take k xs ∷ rows k n (drop k xs)

  -- the elements before the first that is a stop
  unfoldable pub up_to : (A → Bool) → List A → List A
  up_to stop [] = []
  up_to stop (x ∷ xs) = let r = x ∷ up_to stop xs in cond (stop x) [] r

  -- a at the place i, and what stood from there on after it
  abbrev pub insert_at : ℕ → A → List A → List A
  insert_at i a xs = take i xs ++ a ∷ drop i xs

  -- ys in the place of the k elements from a on: what a list is after a part of it was lent and came back as ys
  abbrev pub replaced : ℕ → ℕ → List A → List A → List A
  replaced a k ys xs = take a xs ++ (ys ++ drop k (drop a xs))

  -- xs stored in the list l from the place i on: what falls outside is not stored
  unfoldable pub written : ℕ → List A → List A → List A
  written i xs l = sets l i xs

  -- what every writer answers: where the text xs ends, and what the buffer o then holds
  abbrev pub Wrote : ℕ → List A → List A → ℕ → List A → Type ℓ
  Wrote at xs o e p = (e ≡ at + length xs) × (p ≡ written at xs o)
