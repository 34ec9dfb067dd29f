use mathlib.Core.Path.{◌≡◌}
use Rattle.rows.specs.Positions.{run_end}
use Rattle.lexical.specs.Classes.{is_not}
use Rattle.lexical.proofs.slice.until.Given as goal

abbrev pub invariant-loop-i : goal.invariant-loop-i
invariant-loop-i l = run_end (is_not l.b) l.s l.at ≡ run_end (is_not l.b) l.s l.i
