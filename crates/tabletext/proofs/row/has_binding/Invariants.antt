use mathlib.Core.Path.{◌≡◌}
use lib.ListN.{drop}
use Rattle.model.specs.Base.{any}
use Rattle.model.specs.Tables.{same_binding}
use Rattle.steps.specs.Environments.{bindings_in}
use Rattle.tabletext.proofs.row.has_binding.Given as goal

abbrev pub invariant-loop-i : goal.invariant-loop-i
invariant-loop-i l =
    any (same_binding (record { name = l.name; value = l.value })) (bindings_in l.lines) ≡ any (same_binding (record { name = l.name; value = l.value })) (drop l.i (bindings_in l.lines))
