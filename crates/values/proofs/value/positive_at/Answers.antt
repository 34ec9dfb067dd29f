use mathlib.Core.Path.{sym}
use Rattle.rows.proofs.Positions.{run-within}
use Rattle.lexical.proofs.Decimals.{number-some}
use Rattle.values.proofs.Values.{cast_fits, positive-bad, positive-is}
use Rattle.values.proofs.value.positive_at.Goals as goal

-- The digits run from the position on, and the number that they spell is at most the greatest i32, which its cast keeps.

pub slice_bounds-number-count : goal.slice_bounds-number-count
slice_bounds-number-count c = (run-within _ _ _ _ c.run-to.ensures c.requires).0

pub slice_bounds-number-start : goal.slice_bounds-number-start
slice_bounds-number-start c = (run-within _ _ _ _ c.run-to.ensures c.requires).0

pub slice_bounds-number-end : goal.slice_bounds-number-end
slice_bounds-number-end c = (run-within _ _ _ _ c.run-to.ensures c.requires).1

pub returns-in_err-n : goal.returns-in_err-n
returns-in_err-n c = rw c.from_residual.ensures
    (positive-bad _ _ _ c.run-to.ensures (sym c.in_err-n.ensures), tt)

pub overflow_cast-result : goal.overflow_cast-result
overflow_cast-result c = cast_fits _ (number-some _ _ _ (sym c.in_ok-n.ensures)).2

pub returns : goal.returns
returns c =
    (positive-is _ _ _ c.run-to.ensures c.requires _ (sym c.in_ok-n.ensures), tt)
