use mathlib.Core.Path.{◌≡◌}
use lib.ListN.{drop}
use Rattle.lexical.proofs.slice.same_bytes.Given as goal

abbrev pub invariant-loop-i : goal.invariant-loop-i
invariant-loop-i l = drop l.i l.a ≡ drop l.i l.b
