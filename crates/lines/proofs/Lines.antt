-- The lines of a text by positions.
use Prim.Native.Nat.{ℕ, suc, ◌+◌, ◌-◌, ◌≤◌, ◌<◌}
use mathlib.Core.Path.{◌≡◌, refl, ap₂, ◌∙◌}
use mathlib.Core.List.{List, [], ◌∷◌}
use native.Mathlib.Omega.{arith}
use lib.Dec.{eqb}
use lib.ListN.{length, take, drop}
use Rattle.rows.specs.Rows.{up_to}
use Rattle.rows.specs.Positions.{run, run_end}
use Rattle.rows.proofs.Positions.{here, over, run-part, run-rest}
use Rattle.model.specs.Base.{Bytes}
use Rattle.model.specs.Table.{Line, ended, broken, on_first_line, lines}
use Rattle.model.proofs.Lists.{by_cases}
use Rattle.lexical.specs.Classes.{is_not}

-- ── A text is its bytes up to the first 0A, and then its end or that 0A with what follows ──
last_of : Bytes → List Line
last_of [] = []
last_of (x ∷ l) = broken (x ∷ l) ∷ []

lines_of : Bytes → Bytes → List Line
lines_of l [] = last_of l
lines_of l (y ∷ s) = ended l ∷ lines s

one_more : (x : ℕ) (l s : Bytes) → on_first_line x (lines_of l s) ≡ lines_of (x ∷ l) s
unfolding on_first_line lines_of last_of
one_more x [] [] = refl
one_more x (y ∷ l) [] = refl
one_more x l (z ∷ s) = refl

lines-run : (s : Bytes) → lines s ≡ lines_of (run (is_not 0x0A) s) (drop (length (run (is_not 0x0A) s)) s)
unfolding lines up_to is_not lines_of last_of
lines-run [] = refl
lines-run (x ∷ s) = by_cases (eqb x 0x0A) (λ e. rw e) (λ e. rw (e, lines-run s, one_more))

-- ── The line from the position `at` on ends at e ──
module _ (s : Bytes) (at e : ℕ) (is : e ≡ run_end (is_not 0x0A) s at) where
  lines_at_lem : lines (drop at s) ≡ lines_of (take (e - at) (drop at s)) (drop e s)
  lines_at_lem = lines-run (drop at s) ∙ ap₂ lines_of (run-part (is_not 0x0A) s at e is) (run-rest (is_not 0x0A) s at e is)

  pub line-ended : e < length s → lines (drop at s) ≡ ended (take (e - at) (drop at s)) ∷ lines (drop (e + 1) s)
  unfolding lines_of
  line-ended h = lines_at_lem ∙ rw (here 0 s e h)

  pub line-broken : at < length s → e ≡ length s → lines (drop at s) ≡ broken (take (e - at) (drop at s)) ∷ []
  unfolding lines_of last_of
  line-broken p q =
      let n : e - at ≡ suc (e - (at + 1)) = omega arith in
      lines_at_lem ∙ rw (over s e (omega arith), here 0 s at p, n)

-- from the end on there is none
pub lines-over : (s : Bytes) (at : ℕ) → length s ≤ at → lines (drop at s) ≡ []
unfolding lines
lines-over s at h = rw (over s at h)
