use mathlib.Core.Path.{◌≡◌}
use Rattle.std.specs.Prelude.{Option}
use lib.ListN.{drop}
use Rattle.model.specs.Tables.{User}
use Rattle.model.specs.Serving.{reads_by}
use Rattle.paths.specs.Layout.{path_in}
use Rattle.tables.specs.Memory.{policy_in}
use Rattle.tables.proofs.rights.next_line.Given as goal

abbrev pub invariant-loop-i : goal.invariant-loop-i
invariant-loop-i l =
    (o : Option User) → reads_by (drop l.from (policy_in l.policy)) o (path_in l.path) ≡ reads_by (drop l.i (policy_in l.policy)) o (path_in l.path)
