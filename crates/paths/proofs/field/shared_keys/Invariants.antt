use mathlib.Core.Path.{◌≡◌}
use Rattle.paths.specs.Layout.{path_in}
use Rattle.paths.specs.Fields.{shared}
use Rattle.paths.proofs.Shared.{shared_from}
use Rattle.paths.proofs.field.shared_keys.Given as goal

abbrev pub invariant-loop-i : goal.invariant-loop-i
invariant-loop-i l = shared (path_in l.a) (path_in l.b) ≡ shared_from l.i l.a l.b
