-- The texts that are printed, as the pieces that are written one behind the other.
use Prim.Native.Nat.{ℕ, ◌≤◌, ◌<◌, ◌^◌}
use mathlib.Core.Path.{◌≡◌}
use mathlib.Core.List.{[], ◌∷◌, ◌++◌, append_assoc}
use native.Mathlib.Omega.{arith}
use lib.ListN.{length}
use Rattle.model.specs.Base.{Bytes, text, between, decimal}
use Rattle.model.specs.Opening.{fault}
use Rattle.model.specs.Serving.{table_line}
use Rattle.model.specs.Program.{print_fault}
use Rattle.model.proofs.Reading.{decimal-length}
use Rattle.printing.specs.Printed.{most_digits, numbered}

pub usize-length : (n : ℕ) → n < 2 ^ 64 → length (decimal n) ≤ most_digits
usize-length n h = decimal-length n 19 (omega arith)

-- a word with its `;` is a mark
pub numbered-pieces : (w : Bytes) (n : ℕ) → table_line (w ∷ decimal n ∷ []) ≡ numbered (w ++ text ";") n
unfolding table_line between
numbered-pieces w n = simp append_assoc

pub fault-pieces : (n t l : ℕ)
    → print_fault (fault n t l) ≡ text "NO;" ++ (decimal n ++ (text ";" ++ (decimal t ++ (text ";" ++ (decimal l ++ text "\n")))))
unfolding print_fault fault table_line between text
fault-pieces n t l = simp append_assoc
