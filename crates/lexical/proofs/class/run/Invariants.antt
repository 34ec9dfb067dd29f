use mathlib.Core.Path.{◌≡◌}
use Rattle.rows.specs.Positions.{run_end}
use Rattle.lexical.specs.Classes.{in_class}
use Rattle.lexical.proofs.class.run.Given as goal

abbrev pub invariant-loop-i : goal.invariant-loop-i
invariant-loop-i l = run_end (in_class l.class) l.s l.at ≡ run_end (in_class l.class) l.s l.i
