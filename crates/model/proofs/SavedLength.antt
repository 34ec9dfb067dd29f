-- How long saved text is: what a field takes at most.
use Prim.Native.Nat.{ℕ, zero, suc, ◌+◌, ◌*◌, ◌≤◌}
use mathlib.Core.Path.{◌≡◌}
use mathlib.Core.List.{[], ◌∷◌}
use mathlib.Core.Bool.{true}
use lib.Dec.{leb}
use lib.ListN.{length, length-append}
use native.Mathlib.Omega.{arith}
use borrow.Author.Tests.{leb-true}
use Rattle.model.specs.Base.{Bytes, text, all, ◌≐◌, within, All}
use Rattle.model.specs.Limits.{max_depth, max_key}
use Rattle.model.specs.Names.{name_byte, is_name_of, is_key}
use Rattle.model.specs.Values.{Value, valid_value, quoted, value_text}
use Rattle.model.specs.Fields.{Keys, Field, Fields}
use Rattle.model.specs.SavedText.{descend, ascend, turn, saved_behind, saved}
use Rattle.model.proofs.Lists.{by_cases, and_both}
use Rattle.model.proofs.Valid.{Valid}
use Rattle.model.proofs.OpenObjects.{Fits, valid-path}

key-length : (k : Bytes) → is_key k ≡ true → length k ≤ max_key
unfolding is_key is_name_of within
key-length k h = leb-true _ _ (and_both (leb 1 (length k)) (leb (length k) max_key) (and_both _ (all name_byte k) h).0).1

quoted-length : (k : Bytes) → is_key k ≡ true → length (quoted k) ≤ max_key + 2
unfolding quoted text
quoted-length k h = simp length-append (omega (arith, key-length k h))

-- a key in quotes, the colon and a brace
descend-length : (d : ℕ) (q : Keys) → Fits d q → length (descend q) ≤ (max_key + 4) * d
unfolding descend text
descend-length d [] h = omega arith
descend-length zero (k ∷ q) h = absurd h
descend-length (suc d) (k ∷ []) h = simp length-append (omega (arith, quoted-length k h.0))
descend-length (suc d) (k ∷ (l ∷ q)) h = simp length-append (omega (arith, quoted-length k h.0, descend-length d (l ∷ q) h.1))

ascend-length : (d : ℕ) (p : Keys) → Fits d p → length (ascend p) ≤ d
unfolding ascend
ascend-length d [] h = omega arith
ascend-length zero (k ∷ p) h = absurd h
ascend-length (suc d) (k ∷ p) h = omega (arith, ascend-length d p h.1)

-- the last key of the first path needs no brace, and the comma takes its place
turn-length : (d : ℕ) (p q : Keys) → Fits d p → Fits d q → length (turn p q) ≤ (max_key + 5) * d
unfolding turn text
turn-length d [] q g h = omega arith
turn-length d (k ∷ p) [] g h = omega arith
turn-length zero (k ∷ p) (l ∷ q) g h = absurd h
turn-length (suc d) (k ∷ p) (l ∷ q) g h = by_cases (k ≐ l)
    (λ e. rw e (omega (arith, turn-length d p q g.1 h.1)))
    (λ e. rw (e, length-append) (omega (arith, ascend-length d p g.1, descend-length (suc d) (l ∷ q) h)))

-- a field behind another takes at most this: its keys, and its value
abbrev pub saved_field : ℕ
saved_field = (max_key + 5) * max_depth + 34

module _ (value-length : (v : Value) → valid_value v ≡ true → length (value_text v) ≤ 34) where
  behind-length : (p : Keys) (fs : Fields) → Fits max_depth p → All Valid fs → length (saved_behind p fs) ≤ saved_field * length fs + max_depth
  unfolding saved_behind
  behind-length p [] h v = omega (arith, ascend-length max_depth p h)
  behind-length p (f ∷ fs) h v =
      let g = (valid-path f.path v.0.path).1 in
      let t = turn-length max_depth p f.path h g in
      simp length-append (omega (arith, t, value-length f.value v.0.value, behind-length f.path fs g v.1))

  pub saved-length-some : (f : Field) (fs : Fields) → All Valid (f ∷ fs) → length (saved (f ∷ fs)) ≤ suc saved_field * length (f ∷ fs)
  unfolding saved text
  saved-length-some f fs v =
      let g = (valid-path f.path v.0.path).1 in
      let o = descend-length max_depth f.path g in
      simp length-append (omega (arith, o, value-length f.value v.0.value, behind-length f.path fs g v.1))

  pub saved-length : (fs : Fields) → All Valid fs → length (saved fs) ≤ suc saved_field * length fs + 2
  saved-length [] v = unfold saved text in omega arith
  saved-length (f ∷ fs) v = omega (arith, saved-length-some f fs v)
