use borrow.Author.Rules.{rules}
use native.Mathlib.Omega.{arith}
use Rattle.lines.proofs.Cells.{count-more, count_same, count-over}
use Rattle.lines.proofs.count.Goals.{then-b-eq59, else-b-eq59}
use Rattle.lines.proofs.count.Goals as goal

-- The values counted and those of what is left are one more than the line has, since the value at i is counted and not passed.

pub loop-b-init : goal.loop-b-init
loop-b-init c = (omega arith, omega arith)

pub loop-b-preserved : goal.loop-b-preserved
loop-b-preserved c =
    let line = c.args.line.now in
    let i = c.loop-b.b-index in
    elim c.if-b-eq59.branch [
      | then-b-eq59 w ↦ (omega arith, omega (arith, count-more line i (search rules) w.if-b-eq59.true))
      | else-b-eq59 w ↦ (omega arith, omega (arith, count_same line i (search rules) w.if-b-eq59.false))
    ]

pub returns : goal.returns
returns c = omega (arith, count-over c.args.line.now c.loop-b.b-index (search rules))
