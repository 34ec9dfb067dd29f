use mathlib.Core.Path.{◌≡◌}
use lib.ListN.{drop}
use Rattle.model.specs.Base.{any, among}
use Rattle.steps.specs.Steps.{names_in}
use Rattle.matching.proofs.conflict.share.Given as goal

abbrev pub invariant-loop-i : goal.invariant-loop-i
invariant-loop-i l = any (λ x. among x (names_in l.b)) (names_in l.a) ≡ any (λ x. among x (names_in l.b)) (drop l.i (names_in l.a))
