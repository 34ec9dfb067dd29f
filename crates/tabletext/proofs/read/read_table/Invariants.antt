use Prim.Native.Nat.{◌+◌, ◌-◌, ◌≤◌}
use lib.ListN.{length}
use Rattle.model.specs.Table.{split}
use Rattle.layout.specs.Layout.{Keeps}
use Rattle.tables.specs.Memory.{tables_in, CanonicalTables}
use Rattle.tabletext.specs.Reading.{table_of}
use Rattle.tabletext.proofs.Lined.{Left}
use Rattle.tabletext.proofs.read.read_table.Given as goal

abbrev pub invariant-loop-at : goal.invariant-loop-at
invariant-loop-at l =
    (l.at ≤ length l.s) × (l.n ≤ l.at + 1) × Left (table_of l.t) (tables_in l.initial.tables) l.s (split l.head) l.n l.at (tables_in l.tables) × Keeps CanonicalTables l.initial.tables l.tables

abbrev pub decreases-loop-at : goal.decreases-loop-at
decreases-loop-at l = length l.s - l.at
