use mathlib.Core.Path.{◌≡◌, ap, ◌∙◌}
use mathlib.Core.List.{◌∷◌}
use native.Mathlib.Omega.{arith}
use lib.ListN.{length, length-set}
use Rattle.rows.proofs.Writing.{written-cons}
use Rattle.steps.proofs.StepRows.{row-filled}
use borrow.Author.Rules.{rules}
use Rattle.steps.specs.Steps.{names_slot}
use Rattle.steps.proofs.policy.put_row.Goals as goal

-- The byte of the kind, and behind it the names: the row is written whole.

pub slice_bounds-put-end : goal.slice_bounds-put-end
slice_bounds-put-end c = search rules

pub put-requires : goal.put-requires
put-requires c = omega (arith, slice_bounds-put-end c)

pub shape_of-row : goal.shape_of-row
shape_of-row c = c.put.auto.out ∙ simp length-set

pub returns : goal.returns
returns c =
    let a = c.args in
    let b = c.from in
    let k : length a.step.names ≡ names_slot = search rules in
    c.put.ensures.1 ∙ written-cons 0 _ _ _ ∙ row-filled (b.result ∷ a.step.names) a.row.now (omega arith) ∙ ap (◌∷ a.step.names) b.ensures
