use native.Mathlib.Omega.{arith}
use Rattle.rows.proofs.Positions.{run-within}
use Rattle.serve.proofs.input.answer_lines.Goals as goal

-- Each turn passes a line and the byte behind it; an answer fits, since at most half of the output is filled before it.

pub slice_bounds-respond-count : goal.slice_bounds-respond-count
slice_bounds-respond-count g c = (run-within _ _ _ _ c.until-end.ensures c.loop-out.invariant.0).0

pub slice_bounds-respond-start : goal.slice_bounds-respond-start
slice_bounds-respond-start g c = (run-within _ _ _ _ c.until-end.ensures c.loop-out.invariant.0).0

pub slice_bounds-respond-end : goal.slice_bounds-respond-end
slice_bounds-respond-end g c = (run-within _ _ _ _ c.until-end.ensures c.loop-out.invariant.0).1

pub loop-out-smaller : goal.loop-out-smaller
loop-out-smaller g c =
    let line = run-within _ _ _ _ c.until-end.ensures c.loop-out.invariant.0 in
    omega (arith, line.0, line.1)
