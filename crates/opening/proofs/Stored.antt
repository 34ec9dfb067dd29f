-- Two tables in one array, copied one after the other.
use Prim.Native.Nat.{ℕ, ◌+◌, ◌≤◌}
use mathlib.Core.Path.{◌≡◌, ap, ◌∙◌}
use mathlib.Core.List.{◌++◌, append-nil}
use native.Mathlib.Omega.{arith}
use lib.ListN.{length, take, drop, length-drop, take-append-drop}
use lib.Seq.{take_at, drop_at, take_all, length-take-le}
use Rattle.rows.proofs.Positions.{over}
use Rattle.model.specs.Base.{Bytes}

-- the first b bytes came back as those of s, and then the k others, behind which there are none; w stood in their place
pub both_stored : (b k : ℕ) (s w u p : Bytes) → length s ≡ b + k → length w ≡ k → u ≡ take b s → p ≡ take k (drop b s)
    → take b (u ++ w) ++ (p ++ drop k (drop b (u ++ w))) ≡ s
both_stored b k s w u p many rest first second =
    let long : length u ≡ b = ap length first ∙ length-take-le b s (omega arith) in
    let behind : length (drop b s) ≤ k = rw length-drop (omega arith) in
    rw (take_at u w b long, drop_at u w b long, over w k (omega arith), append-nil p, second, take_all k (drop b s) behind, first) (take-append-drop b s)
