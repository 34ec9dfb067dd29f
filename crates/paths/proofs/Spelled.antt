-- Rows behind a byte that says how many there are, spelled one behind the other, as a path's keys are: how a loop writes them.
use Prim.Native.Nat.{ℕ, ◌+◌, ◌*◌, ◌≤◌, ◌<◌, min}
use mathlib.Core.Path.{◌≡◌}
use mathlib.Core.List.{◌++◌, map, map-append, append-nil}
use lib.ListN.{get_or, take, drop}
use Rattle.model.specs.Base.{Bytes, joined}
use Rattle.model.proofs.Lists.{joined-append}
use Rattle.layout.specs.Layout.{counted}
use Rattle.layout.proofs.Counts.{counted-more, counted-all}

module _ {A : Type 0} (decode : Bytes → A) (k m : ℕ) (spell : A → Bytes) where
  -- the text of the first i
  abbrev pub spelled : Bytes → ℕ → Bytes
  spelled s i = joined (map spell (take i (counted decode k m s)))

  -- one more
  pub spelled_step_lem : (s : Bytes) (i : ℕ) → i < min (get_or s 0 0) m
      → spelled s (i + 1) ≡ spelled s i ++ spell (decode (take k (drop (i * k + 1) s)))
  unfolding joined
  spelled_step_lem s i h = rw (counted-more decode k m s i h, map-append, joined-append, append-nil)

  -- all of them
  pub spelled-all : (s : Bytes) (i : ℕ) → min (get_or s 0 0) m ≤ i → spelled s i ≡ joined (map spell (counted decode k m s))
  spelled-all s i h = rw (counted-all decode k m s i h)
