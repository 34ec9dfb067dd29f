-- A text that is written piece by piece: what remains to be written of it.
use Prim.Native.Nat.{ℕ, ◌+◌}
use mathlib.Core.Path.{◌≡◌, ◌∙◌}
use mathlib.Core.List.{◌++◌}
use native.Mathlib.Omega.{arith}
use lib.ListN.{length, length-append}
use Rattle.rows.specs.Rows.{written, Wrote}
use Rattle.rows.proofs.Writing.{written-append}
use Rattle.model.specs.Base.{Bytes}

-- all of the text, written into the buffer o from the place `at` on
module _ (at : ℕ) (all o : Bytes) where
  -- the text xs, written into p from the place `to` on, ends where all of it ends and gives the same buffer
  abbrev pub Remains : ℕ → Bytes → Bytes → Type 0
  Remains to xs p = (to + length xs ≡ at + length all) × (written to xs p ≡ written at all o)

  module _ (to e : ℕ) (xs p q : Bytes) where
    -- a first piece was written
    pub remains-step : (ys : Bytes) → Remains to (xs ++ ys) p → Wrote to xs p e q → Remains e ys q
    remains-step ys r w = (omega (arith, length-append xs ys), rw (w.0, w.1) (written-append to xs ys p ∙ r.1))

    -- the last was
    pub remains-end : Remains to xs p → Wrote to xs p e q → Wrote at all o e q
    remains-end r w = (w.0 ∙ r.0, w.1 ∙ r.1)
