use Prim.Native.Nat.{compare}
use mathlib.Core.Path.{◌≡◌}
use lib.ListN.{drop}
use Rattle.model.specs.Fields.{lex}
use Rattle.lexical.proofs.slice.compare_from.Given as goal

abbrev pub invariant-loop-i : goal.invariant-loop-i
invariant-loop-i l = lex compare (drop l.from l.a) (drop l.from l.b) ≡ lex compare (drop l.i l.a) (drop l.i l.b)
