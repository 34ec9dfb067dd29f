use mathlib.Core.Path.{◌≡◌}
use Prim.Native.Nat.{◌≤◌}
use lib.ListN.{drop}
use Rattle.model.specs.Base.{number}
use Rattle.lexical.proofs.Decimals.{counted}
use Rattle.lexical.proofs.number.number.Given as goal

abbrev pub invariant-loop-b : goal.invariant-loop-b
invariant-loop-b l = (l.n ≤ l.most) × (number l.most l.s ≡ counted l.most l.n (drop l.b-index l.s))
