use mathlib.Core.Path.{◌≡◌}
use lib.ListN.{drop}
use Rattle.model.specs.Fields.{lex, order_key, order_path}
use Rattle.paths.specs.Layout.{path_in}
use Rattle.paths.proofs.field.compare_paths.Given as goal

abbrev pub invariant-loop-i : goal.invariant-loop-i
invariant-loop-i l = order_path (path_in l.a) (path_in l.b) ≡ lex order_key (drop l.i (path_in l.a)) (drop l.i (path_in l.b))
