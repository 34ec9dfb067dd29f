-- Loops that move elements of a list, one store a turn.
use Prim.Native.Nat.{ℕ, suc, ◌+◌, ◌-◌, ◌≤◌, ◌<◌}
use mathlib.Core.Path.{◌≡◌, sym, ap, ◌∙◌}
use mathlib.Core.List.{List, ◌++◌, append-nil}
use native.Mathlib.Nat.{add_comm}
use native.Mathlib.Numerals.{add-one}
use native.Mathlib.Omega.{arith}
use lib.ListN.{length, get_or, take, drop, set, length-take, length-drop, length-append}
use lib.ListN.{get_or-append, drop_of_length-le}
use lib.Seq.{take-suc, take_all, take-length, length-take-le, drop-cons, drop_at}
use lib.Seq.{append_snoc, set_at, get_or-take, get_or-drop, get_or-append-add}
use Rattle.rows.specs.Moves.{spliced, moved_later, moved_earlier}

module _ {ℓ} {A : Type ℓ} (z : A) where
  -- an element of the first list, and of the second
  pub spliced-before : (i j : ℕ) (s d : List A) → j < i → i ≤ length s → get_or (spliced i s d) j z ≡ get_or s j z
  spliced-before i j s d h l =
      get_or-append (take i s) (drop i d) z j (rw (length-take-le i s l) h) ∙ get_or-take i s j z h

  pub spliced-after : (i j : ℕ) (s d : List A) → i ≤ j → i ≤ length s → get_or (spliced i s d) j z ≡ get_or d j z
  spliced-after i j s d h l =
      let e : j ≡ length (take i s) + (j - i) = omega (arith, length-take-le i s l) in
      let f : i + (j - i) ≡ j = omega arith in
      ap (λ (n : ℕ). get_or (spliced i s d) n z) e
      ∙ get_or-append-add (take i s) (drop i d) (j - i) z
      ∙ get_or-drop i d (j - i) z
      ∙ rw f

  -- a loop upwards that copies s over d, and a loop downwards that copies d over s
  pub splice_up : (i : ℕ) (s d : List A) → i < length s → i < length d
      → set (spliced i s d) i (get_or s i z) ≡ spliced (i + 1) s d
  splice_up i s d p q =
      ap (λ (l : List A). set (take i s ++ l) i (get_or s i z)) (drop-cons d i z q)
      ∙ set_at (take i s) (get_or d i z) (drop (suc i) d) (get_or s i z) i (length-take-le i s (omega arith))
      ∙ rw (add-one, take-suc s i z p, append_snoc)

  pub splice-down : (i : ℕ) (s d : List A) → i < length s → i < length d
      → set (spliced (i + 1) s d) i (get_or d i z) ≡ spliced i s d
  splice-down i s d p q =
      rw (add-one, take-suc s i z p, append_snoc, drop-cons d i z q)
      (set_at (take i s) (get_or s i z) (drop (suc i) d) (get_or d i z) i (length-take-le i s (omega arith)))

  -- a loop downwards that moves each element k places later
  pub later-step : (k i : ℕ) (d : List A) → k < i → i ≤ length d
      → set (spliced i d (moved_later k d)) (i - 1) (get_or (spliced i d (moved_later k d)) (i - 1 - k) z)
      ≡ spliced (i - 1) d (moved_later k d)
  later-step k i d h l =
      let e : i - 1 + 1 ≡ i = omega arith in
      let m : i - 1 < length (moved_later k d) = simp (length-append, length-take) (omega arith) in
      let j : i - 1 ≡ length (take k d) + (i - 1 - k) = omega (arith, length-take-le k d (omega arith)) in
      let now = spliced-before i (i - 1 - k) d (moved_later k d) (omega arith) l in
      let then =
      ap (λ (n : ℕ). get_or (moved_later k d) n z) j
      ∙ get_or-append-add (take k d) (take (length d - k) d) (i - 1 - k) z
      ∙ get_or-take (length d - k) d (i - 1 - k) z (omega arith) in
      rw (now ∙ sym then) (rw e at (splice-down (i - 1) d (moved_later k d) (omega arith) m))

  -- a loop upwards that moves each element k places earlier
  pub earlier_step : (k i : ℕ) (d : List A) → i + k < length d
      → set (spliced i (moved_earlier k d) d) i (get_or (spliced i (moved_earlier k d) d) (i + k) z)
      ≡ spliced (i + 1) (moved_earlier k d) d
  earlier_step k i d h =
      let m : i < length (moved_earlier k d) = simp (length-append, length-drop) (omega arith) in
      let now = spliced-after i (i + k) (moved_earlier k d) d (omega arith) (omega arith) in
      let then =
      get_or-append (drop k d) (drop (length d - k) d) z i (rw length-drop (omega arith))
      ∙ get_or-drop k d i z
      ∙ ap (λ (n : ℕ). get_or d n z) (add_comm k i) in
      rw (now ∙ sym then) (splice_up i (moved_earlier k d) d m (omega arith))

-- where these loops begin and end
module _ {ℓ} {A : Type ℓ} where
  pub splice-end : (i : ℕ) (s d : List A) → length s ≤ i → i ≤ length s → spliced i s d ≡ s ++ drop (length s) d
  splice-end i s d p q = let e : i ≡ length s = omega arith in rw (e, take_all (length s) s (omega arith))

  pub later-start : (k : ℕ) (d : List A) → d ≡ spliced (length d) d (moved_later k d)
  later-start k d =
      let l : length (moved_later k d) ≤ length d = simp (length-append, length-take) (omega arith) in
      rw (drop_of_length-le (moved_later k d) l, take-length, append-nil)

  pub later-end : (k i : ℕ) (d : List A) → i ≤ k → k ≤ i → k ≤ length d → spliced i d (moved_later k d) ≡ moved_later k d
  later-end k i d p q l =
      let e : i ≡ k = omega arith in
      rw (e, drop_at (take k d) (take (length d - k) d) k (length-take-le k d l))
