use native.Mathlib.Nat.{le_of_lt}
use native.Mathlib.Omega.{arith}
use Rattle.rows.proofs.Positions.{run-within}
use Rattle.cases.proofs.afternoon.answer_input.Goals as goal

-- Each turn passes the line that starts at `at`; what it prints fits, since the output keeps its length.

pub slice_bounds-respond-count : goal.slice_bounds-respond-count
slice_bounds-respond-count g c = (run-within _ _ _ _ c.until-end.ensures (le_of_lt c.loop-at-test.true)).0

pub slice_bounds-respond-start : goal.slice_bounds-respond-start
slice_bounds-respond-start g c = (run-within _ _ _ _ c.until-end.ensures (le_of_lt c.loop-at-test.true)).0

pub slice_bounds-respond-end : goal.slice_bounds-respond-end
slice_bounds-respond-end g c = (run-within _ _ _ _ c.until-end.ensures (le_of_lt c.loop-at-test.true)).1

pub loop-at-smaller : goal.loop-at-smaller
loop-at-smaller g c = omega (arith, (run-within _ _ _ _ c.until-end.ensures (le_of_lt c.loop-at-test.true)).0)
