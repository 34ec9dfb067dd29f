-- The keys that two slots' paths share: i and what they share from the key i on.
use Prim.Native.Nat.{ℕ, ◌+◌, ◌*◌, ◌≤◌, ◌<◌, min}
use mathlib.Core.Path.{◌≡◌}
use mathlib.Core.Bool.{Bool, true, false}
use native.Mathlib.Nat.{add-zero}
use native.Mathlib.Omega.{arith}
use borrow.Author.Tests.{ltb-true, ltb-false}
use lib.Dec.{ltb}
use lib.ListN.{get_or, take, drop}
use Rattle.model.specs.Base.{Bytes, ◌≐◌}
use Rattle.model.specs.Limits.{max_depth}
use Rattle.model.proofs.Lists.{by_cases}
use Rattle.layout.specs.Layout.{name_in, key_row}
use Rattle.layout.proofs.Counts.{counted_step, counted-over}
use Rattle.paths.specs.Layout.{path_in}
use Rattle.paths.specs.Fields.{shared}

abbrev pub shared_from : ℕ → Bytes → Bytes → ℕ
shared_from i a b = i + shared (drop i (path_in a)) (drop i (path_in b))

module _ (a b : Bytes) (i : ℕ) where
  first_over : min (get_or a 0 0) max_depth ≤ i → shared_from i a b ≡ i
  unfolding path_in shared
  first_over h = rw (counted-over name_in key_row max_depth a i h, add-zero)

  second_over : i < min (get_or a 0 0) max_depth → min (get_or b 0 0) max_depth ≤ i → shared_from i a b ≡ i
  unfolding path_in shared
  second_over p q = rw (counted_step name_in key_row max_depth a i p, counted-over name_in key_row max_depth b i q, add-zero)

  -- one of the paths ends before i
  pub shared-over : min (min (get_or a 0 0) max_depth) (min (get_or b 0 0) max_depth) ≤ i → shared_from i a b ≡ i
  shared-over h = by_cases (ltb i (min (get_or a 0 0) max_depth))
      (λ p. let l = ltb-true _ _ p in second_over l (omega arith))
      (λ p. first_over (ltb-false _ _ p))

  -- x and y are the keys at i, and r says whether they are the same
  module _ {x y : Bytes} {r : Bool} (p : i < min (get_or a 0 0) max_depth) (q : i < min (get_or b 0 0) max_depth)
      (e : x ≡ name_in (take key_row (drop (i * key_row + 1) a))) (f : y ≡ name_in (take key_row (drop (i * key_row + 1) b))) (is : r ≡ (x ≐ y)) where
    pub shared_step : r ≡ true → shared_from i a b ≡ shared_from (i + 1) a b
    unfolding path_in shared
    shared_step t = rw (counted_step name_in key_row max_depth a i p, counted_step name_in key_row max_depth b i q, ← e, ← f, ← is, t) (omega arith)

    pub shared-stop : r ≡ false → shared_from i a b ≡ i
    unfolding path_in shared
    shared-stop t = rw (counted_step name_in key_row max_depth a i p, counted_step name_in key_row max_depth b i q, ← e, ← f, ← is, t, add-zero)
