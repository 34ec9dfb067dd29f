use Rattle.std.proofs.Common.{◌≡◌, Bool, List, ◌≤◌, length, drop}
use Rattle.std.specs.Fn.{FnReturnsAtPair}
use Rattle.model.specs.Limits.{max_bindings}
use Rattle.model.specs.Tables.{Binding}
use Rattle.layout.specs.Layout.{in_use}
use Rattle.steps.specs.Environments.{binding_row, bindings_in}
use Rattle.matching.specs.Parts.{Asked}
use Rattle.matching.proofs.path.first_said.Given as goal

abbrev pub invariant-loop-i : goal.invariant-loop-i
invariant-loop-i g l =
    (l.i ≤ length (in_use binding_row max_bindings l.lines))
    × ((asked : List Binding → Bool) → Asked (FnReturnsAtPair g.F.Fn l.says) asked → asked (bindings_in l.lines) ≡ asked (drop l.i (bindings_in l.lines)))
