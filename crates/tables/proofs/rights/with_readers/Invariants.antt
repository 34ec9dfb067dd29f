use Prim.Native.Nat.{ℕ, ◌<◌}
use mathlib.Core.Path.{◌≡◌}
use mathlib.Core.Bool.{true}
use lib.ListN.{length}
use Rattle.masks.specs.Bits.{bit_at}
use Rattle.paths.specs.Layout.{path_in}
use Rattle.tables.specs.Memory.{users_in, rule_in}
use Rattle.tables.proofs.Given.{ReadersBut}
use Rattle.tables.proofs.rights.with_readers.Given as goal

abbrev pub invariant-loop-rest : goal.invariant-loop-rest
invariant-loop-rest l =
    ((k : ℕ) → bit_at l.rest k ≡ true → k < length (users_in l.tables)) × ReadersBut l.tables (path_in l.path) (rule_in l.rule) l.mask l.rest l.marked

abbrev pub decreases-loop-rest : goal.decreases-loop-rest
decreases-loop-rest l = l.rest
