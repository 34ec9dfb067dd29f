-- The text from one path to another and down to a field, and saved text of fields in slots.
use Prim.Native.Nat.{ℕ, suc, ◌+◌, ◌*◌, ◌-◌, ◌≤◌, ◌<◌, min}
use mathlib.Core.Path.{◌≡◌, refl, ap, ◌∙◌}
use mathlib.Core.List.{[], ◌∷◌, ◌++◌, append_assoc}
use native.Mathlib.Omega.{arith}
use lib.ListN.{length, get_or, take, drop, replicate, length-drop}
use Rattle.model.specs.Limits.{max_depth}
use Rattle.model.specs.Base.{Bytes, text, ◌≐◌}
use Rattle.model.specs.Values.{quoted, value_text}
use Rattle.model.specs.Fields.{Keys, Fields}
use Rattle.model.specs.SavedText.{descend, ascend, turn, saved_behind, saved}
use Rattle.model.proofs.Lists.{by_cases}
use Rattle.paths.specs.Layout.{path_in}
use Rattle.layout.specs.Layout.{key_row, name_in}
use Rattle.layout.proofs.Counts.{length-counted, counted_step, counted-over}
use Rattle.record.specs.Slots.{value_in, field_in}
use Rattle.paths.specs.Fields.{shared}

-- ── The text from one path to another, by how many keys they share ──
-- none, where one of them ends with the keys that they share
turn-none : (p q : Keys) → min (length p) (length q) ≤ shared p q → turn p q ≡ []
unfolding turn shared
turn-none [] q h = refl
turn-none (k ∷ p) [] h = refl
turn-none (k ∷ p) (l ∷ q) h = by_cases (k ≐ l)
    (λ e. rw e (turn-none p q (omega (arith, rw e at h))))
    (λ e. absurd (omega (arith, rw e at h)))

turn-some : (p q : Keys) → shared p q < length p → shared p q < length q
    → turn p q ≡ ascend (drop (suc (shared p q)) p) ++ (text "," ++ descend (drop (shared p q) q))
unfolding turn shared
turn-some [] q g h = absurd (omega arith)
turn-some (k ∷ p) [] g h = absurd (omega arith)
turn-some (k ∷ p) (l ∷ q) g h = by_cases (k ≐ l)
    (λ e. rw e (turn-some p q (omega (arith, rw e at g)) (omega (arith, rw e at h))))
    (λ e. rw e)

-- a brace for each key
ascend-braces : (p : Keys) → ascend p ≡ replicate (length p) 0x7D
unfolding ascend
ascend-braces [] = refl
ascend-braces (k ∷ p) = ap (0x7D ∷◌) (ascend-braces p)

path-count : (s : Bytes) → length (path_in s) ≡ min (get_or s 0 0) max_depth
unfolding path_in
path-count s = length-counted name_in key_row max_depth s

-- the text between two slots, whose paths have m and n keys and share i
module _ (a b : Bytes) (m n i : ℕ) (p : m ≡ min (get_or a 0 0) max_depth) (q : n ≡ min (get_or b 0 0) max_depth) (is : i ≡ shared (path_in a) (path_in b)) where
  pub slots_apart : i < m → i < n → turn (path_in a) (path_in b) ≡ replicate (m - i - 1) 0x7D ++ (text "," ++ descend (drop i (path_in b)))
  slots_apart g h =
      let e : length (path_in a) - suc i ≡ m - i - 1 = omega (arith, path-count a) in
      turn-some (path_in a) (path_in b) (omega (arith, path-count a)) (omega (arith, path-count b))
      ∙ rw (← is, ascend-braces, length-drop, e)

  pub slots-within : min m n ≤ i → turn (path_in a) (path_in b) ≡ []
  slots-within h = turn-none (path_in a) (path_in b) (omega (arith, path-count a, path-count b))

-- ── Down to the field at a path ──
descend-two : (k l : Bytes) (p : Keys) → descend (k ∷ (l ∷ p)) ≡ text "\"" ++ (k ++ (text "\"" ++ (text ":" ++ (text "{" ++ descend (l ∷ p)))))
unfolding descend quoted text
descend-two k l p = rw (append_assoc k)

descend-one : (k : Bytes) → descend (k ∷ []) ≡ text "\"" ++ (k ++ (text "\"" ++ (text ":" ++ [])))
unfolding descend quoted text
descend-one k = rw (append_assoc k)

-- the same of a slot, from the key i on: k is that key
module _ (s : Bytes) (i : ℕ) {k : Bytes} (is : k ≡ name_in (take key_row (drop (i * key_row + 1) s))) (h : i < min (get_or s 0 0) max_depth) where
  pub descend-more : i + 1 < min (get_or s 0 0) max_depth
      → descend (drop i (path_in s)) ≡ text "\"" ++ (k ++ (text "\"" ++ (text ":" ++ (text "{" ++ descend (drop (i + 1) (path_in s))))))
  unfolding path_in
  descend-more o = rw (counted_step name_in key_row max_depth s i h, counted_step name_in key_row max_depth s (i + 1) o, ← is) (descend-two k _ _)

  pub descend-last : min (get_or s 0 0) max_depth ≤ i + 1
      → descend (drop i (path_in s)) ≡ text "\"" ++ (k ++ (text "\"" ++ (text ":" ++ descend (drop (i + 1) (path_in s)))))
  unfolding path_in
  descend-last o =
      let None : descend [] ≡ [] = unfold descend in refl in
      rw (counted_step name_in key_row max_depth s i h, counted-over name_in key_row max_depth s (i + 1) o, ← is, None) (descend-one k)

pub descend-over : (s : Bytes) (i : ℕ) → min (get_or s 0 0) max_depth ≤ i → descend (drop i (path_in s)) ≡ []
unfolding path_in descend
descend-over s i h = rw (counted-over name_in key_row max_depth s i h)

-- ── Saved text of fields in slots ──
pub saved-none : saved [] ≡ text "{}"
unfolding saved
saved-none = refl

module _ (s : Bytes) where
  pub saved-some : (fs : Fields) → saved (field_in s ∷ fs) ≡ text "{" ++ (descend (path_in s) ++ (value_text (value_in s) ++ saved_behind (path_in s) fs))
  unfolding saved field_in
  saved-some fs = refl

  pub behind-some : (p : Keys) (fs : Fields) → saved_behind p (field_in s ∷ fs) ≡ turn p (path_in s) ++ (value_text (value_in s) ++ saved_behind (path_in s) fs)
  unfolding saved_behind field_in
  behind-some p fs = refl

  pub behind-none : (n : ℕ) → n ≡ min (get_or s 0 0) max_depth → saved_behind (path_in s) [] ≡ replicate n 0x7D
  unfolding saved_behind
  behind-none n h = rw (h, ascend-braces, path-count)
