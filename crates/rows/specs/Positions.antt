-- A position in a text stands for the text from there on.
use Rattle.std.specs.Prelude.{ℕ, ◌+◌, ◌-◌, ◌≤◌, ◌<◌, ◌≡◌, Bool, not, List, length, drop}
use Rattle.std.specs.Prelude.{Option, None, Some}
use Rattle.rows.specs.Rows.{up_to}

-- a reader takes a text to what it read and the rest, or to nothing
abbrev pub Reader : Type 0 → Type 0 → Type 0
Reader E A = List E → Option (A × List E)

-- the reader f, at the position `at`, reads a and ends at e
pub record Reads {E A : Type 0} (f : Reader E A) (s : List E) (at : ℕ) (a : A) (e : ℕ) : Type 0 where
  pub from : at ≤ e
  pub to : e ≤ length s
  pub is : f (drop at s) ≡ Some (a, drop e s)

-- what was read, and the position behind it, where the rest of the text s is known
unfoldable pub behind : {E A : Type 0} → List E → Option (A × List E) → Option (A × ℕ)
behind s None = None
behind s (Some t) = Some (t.0, length s - length t.1)

-- what the reader f reads from the position `at` on, and the position behind it
unfoldable pub placed : {E A : Type 0} → Reader E A → List E → ℕ → Option (A × ℕ)
placed f s at = behind s (f (drop at s))

-- what a reader leaves is the end of the text that it was given
abbrev pub LeavesEnd : {E A : Type 0} → Reader E A → Type 0
LeavesEnd {E} {A} f = (s : List E) (t : A × List E) → f s ≡ Some t → (n : ℕ) × (n ≤ length s) × (t.1 ≡ drop n s)

-- the same, of a reader that takes at least one element
abbrev pub Takes : {E A : Type 0} → Reader E A → List E → ℕ → A → ℕ → Type 0
Takes f s at a e = (at < e) × Reads f s at a e

module _ {E : Type 0} (ok : E → Bool) where
  -- the longest beginning of elements that all pass
  abbrev pub run : List E → List E
  run xs = up_to (λ x. not (ok x)) xs

  -- where the elements that pass end, from the position `at` on
  unfoldable pub run_end : List E → ℕ → ℕ
  run_end s at = at + length (run (drop at s))
