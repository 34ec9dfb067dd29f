use Prim.Native.Nat.{◌≤◌, ◌+◌, ◌*◌}
use mathlib.Core.Path.{sym, ◌∙◌}
use native.Mathlib.Omega.{arith}
use borrow.Author.Rules.{rules}
use Rattle.steps.specs.Environments.{binding_row, bindings_bytes}
use Rattle.tabletext.proofs.Bindings.{binding-inside, binding-left, binding-over}
use Rattle.tabletext.proofs.row.has_binding.Goals.{In-loop-i, then-same+else-same-2, else-same}
use Rattle.tabletext.proofs.row.has_binding.Goals as goal

-- Each turn leaves the search from the next row on; behind the last row that was counted no line is left.

-- the row at i is inside
inside : (c : In-loop-i) → c.loop-i.i * binding_row + binding_row ≤ bindings_bytes
inside c = binding-inside _ c.row_count-i-end.ensures c.loop-i.i c.loop-i-test.true

pub overflow_mul-at : goal.overflow_mul-at
overflow_mul-at c = omega (arith, inside c)

pub name_from-requires : goal.name_from-requires
name_from-requires c = omega (arith, inside c)

pub overflow_add-at : goal.overflow_add-at
overflow_add-at c = omega (arith, inside (goal.at.overflow_add-at c).In-loop-i)

pub name_from-requires-then-same : goal.name_from-requires-then-same
name_from-requires-then-same c = omega (arith, inside (goal.at.name_from-requires-then-same c).In-loop-i)

pub returns-then-same-2 : goal.returns-then-same-2
returns-then-same-2 c =
    let l = c.loop-i in
    sym (l.invariant
    ∙ binding-left _ c.row_count-i-end.ensures l.i _ c.loop-i-test.true c.name_from.ensures c.same.ensures
    ∙ rw (c.if-same.true, ← c.name_from-then-same.ensures, ← c.same-then-same.ensures, c.if-same-2.true))

pub loop-i-preserved : goal.loop-i-preserved
loop-i-preserved c =
    let l = c.loop-i in
    l.invariant
    ∙ binding-left _ c.row_count-i-end.ensures l.i _ c.loop-i-test.true c.name_from.ensures c.same.ensures
    ∙ elim c.if-same.branch [
      | then-same+else-same-2 w ↦ rw (w.if-same.true, ← w.name_from-then-same.ensures, ← w.same-then-same.ensures, w.if-same-2.false)
      | else-same w ↦ rw w.if-same.false
    ]

pub returns : goal.returns
returns c = let l = c.loop-i in sym (l.invariant ∙ binding-over _ c.row_count-i-end.ensures l.i _ (search rules))
