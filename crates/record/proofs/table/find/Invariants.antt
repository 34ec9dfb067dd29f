use Prim.Native.Nat.{◌≤◌}
use mathlib.Core.Path.{◌≡◌}
use lib.ListN.{length, drop}
use Rattle.paths.specs.Layout.{path_in}
use Rattle.record.specs.Slots.{fields_in}
use Rattle.record.specs.Search.{place_in}
use Rattle.record.proofs.table.find.Given as goal

abbrev pub invariant-loop-i : goal.invariant-loop-i
invariant-loop-i l = (l.i ≤ length (fields_in l.table)) × (place_in 0 (path_in l.path) (fields_in l.table) ≡ place_in l.i (path_in l.path) (drop l.i (fields_in l.table)))
