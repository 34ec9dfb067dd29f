-- What a list is while a loop moves its elements, and after it.
use Rattle.std.specs.Prelude.{ℕ, ◌-◌, List, ◌++◌, length, take, drop}

module _ {ℓ} {A : Type ℓ} where
  -- the first i elements are those of s, the later ones those of d
  abbrev pub spliced : ℕ → List A → List A → List A
  spliced i s d = take i s ++ drop i d

  -- each element k places later: the last k fall off, and the first k stay as they were
  abbrev pub moved_later : ℕ → List A → List A
  moved_later k d = take k d ++ take (length d - k) d

  -- each element k places earlier: the first k are gone, and the last k stay as they were
  abbrev pub moved_earlier : ℕ → List A → List A
  moved_earlier k d = drop k d ++ drop (length d - k) d
