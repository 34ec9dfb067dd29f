-- The beginning of a line moved to the start of the input.
use Prim.Native.Nat.{ℕ, zero, suc, ◌+◌, ◌-◌, ◌≤◌, min}
use mathlib.Core.Path.{◌≡◌, sym, ap, ◌∙◌}
use mathlib.Core.List.{List, [], ◌∷◌}
use native.Mathlib.Nat.{add-sub_cancel_left, zero-min, min-zero, suc-min-suc}
use native.Mathlib.Omega.{arith}
use lib.ListN.{length, take, drop, length-drop}
use lib.Seq.{take-nil, take_at, length-take-le}
use Rattle.std.specs.List.{copy_within}
use Rattle.rows.proofs.Rows.{drop-take}

-- the first m of the first n elements
first_of : (m n : ℕ) (l : List ℕ) → take m (take n l) ≡ take (min m n) l
first_of zero n l = rw zero-min
first_of (suc m) zero l = rw min-zero
first_of (suc m) (suc n) [] = sym (take-nil (min (suc m) (suc n)))
first_of (suc m) (suc n) (x ∷ l) = rw (suc-min-suc, first_of m n l)

pub kept : (k m n to : ℕ) (d : List ℕ) → k ≤ to → to ≤ length d → n ≡ min m (to - k)
    → take n (copy_within d k (k + n) 0) ≡ take m (drop k (take to d))
kept k m n to d h l q =
    let moved : take n (copy_within d k (k + n) 0) ≡ take n (drop k d) =
    rw add-sub_cancel_left (take_at (take n (drop k d)) (drop (0 + n) d) n (length-take-le n _ (rw length-drop (omega arith)))) in
    moved ∙ sym (rw (drop-take, first_of m (to - k) (drop k d)) (ap (λ j. take j (drop k d)) (sym q)))
