-- Steps pushed into a slot one behind the other: one turn of a loop that reads them, and of one that takes a field's keys; and a path that may be too long.
use Prim.Native.Nat.{ℕ, ◌+◌, ◌*◌, ◌≤◌, ◌<◌, min}
use mathlib.Core.Path.{◌≡◌, ◌∙◌}
use Rattle.std.specs.Prelude.{None, Some}
use mathlib.Core.List.{List, [], ◌∷◌, ◌++◌, map-append}
use native.Mathlib.Omega.{arith}
use lib.ListN.{length, get_or, take, drop, length-append, length-map, length-take}
use lib.Seq.{take_all}
use borrow.Author.Tests.{le-leb, lt-leb}
use Rattle.rows.specs.Positions.{Reads}
use Rattle.model.specs.Base.{Bytes, ◌>>=◌, ◌>>◌, check}
use Rattle.model.specs.Limits.{max_key, max_depth, max_path_text}
use Rattle.model.specs.Paths.{Step, Steps, names, as_steps, steps_text, read_step, read_path, steps_of}
use Rattle.paths.specs.Layout.{path_in}
use Rattle.layout.specs.Layout.{key_row, name_in}
use Rattle.layout.proofs.Counts.{counted-more}
use Rattle.layout.proofs.Named.{name-length}
use Rattle.paths.proofs.WholePaths.{left, left_step}

-- a step is pushed behind the steps p where there is room: then they are p₁
module _ (p p₁ : Steps) (a : Step) (pushed : p₁ ≡ take max_depth (p ++ a ∷ [])) (room : length p < max_depth) where
  step_pushed : p₁ ≡ p ++ a ∷ []
  step_pushed = pushed ∙ take_all max_depth (p ++ a ∷ []) (rw length-append (omega arith))

  -- it was read from `at` to e
  pub step-turn : (s : Bytes) (at e : ℕ) → Reads read_step s at a e → at < length s → left read_step p (drop at s) ≡ left read_step p₁ (drop e s)
  step-turn s at e r h = rw step_pushed (left_step read_step s at p h room a e r)

-- the steps p are the first i keys of a field's path, and the key behind them is pushed as a list of one
pub key-step-turn : (slot : Bytes) (i : ℕ) → i < min (get_or slot 0 0) max_depth → (p p₁ : Steps) → p ≡ as_steps (take i (path_in slot))
    → (key : Bytes) → key ≡ name_in (take key_row (drop (i * key_row + 1) slot)) → (ns : List Bytes) → ns ≡ take max_key key ∷ []
    → p₁ ≡ take max_depth (p ++ names ns ∷ []) → p₁ ≡ as_steps (take (i + 1) (path_in slot))
unfolding as_steps path_in
key-step-turn slot i h p p₁ inv key is ns one pushed =
    let room : length p < max_depth = rw inv (simp (length-map, length-take) (omega arith)) in
    let whole = take_all max_key key (name-length max_key _ is (simp length-take (omega arith))) in
    step_pushed p p₁ (names ns) pushed room ∙ rw (inv, one, whole, is, counted-more name_in key_row max_depth slot i h, map-append)

-- ── A path of at most 121 bytes in the standard spelling ──
module _ (s : Bytes) where
  pub steps-none : None ≡ read_path read_step s → None ≡ steps_of s
  unfolding steps_of ◌>>=◌
  steps-none h = rw (← h)

  -- n is how long the path's text is
  module _ (p : Steps) (h : Some p ≡ read_path read_step s) (n : ℕ) (is : n ≡ 0 + length (steps_text p)) where
    pub steps-fit : n ≤ max_path_text → Some p ≡ steps_of s
    unfolding steps_of ◌>>=◌ ◌>>◌ check
    steps-fit l = let k : length (steps_text p) ≤ max_path_text = omega arith in rw (← h, le-leb _ max_path_text k)

    pub steps-long : max_path_text < n → None ≡ steps_of s
    unfolding steps_of ◌>>=◌ ◌>>◌ check
    steps-long l = let k : max_path_text < length (steps_text p) = omega arith in rw (← h, lt-leb _ max_path_text k)
