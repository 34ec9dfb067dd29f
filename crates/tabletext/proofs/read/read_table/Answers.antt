use mathlib.Core.Path.{sym, ◌∙◌}
use native.Mathlib.Omega.{arith}
use lib.ListN.{length-take}
use borrow.Author.Rules.{rules}
use Rattle.rows.proofs.Positions.{run-within}
use Rattle.tabletext.proofs.Lined.{head-broken, head-other, head-right, left-none, left-broken, left-refused, left-done}
use Rattle.tabletext.proofs.read.read_table.Goals as goal

-- At each turn the line n stands at the position `at`: the lines before it made the tables what they are, and the rest is left to read; what is written as its meaning is stays so.

pub returns-then-end-s-clause-reads_table : goal.returns-then-end-s-clause-reads_table
returns-then-end-s-clause-reads_table c = head-broken _ _ _ _ c.until-end.ensures c.if-end-s.true

pub slice_bounds-head-end : goal.slice_bounds-head-end
slice_bounds-head-end c =
    let w = run-within _ _ _ _ c.until-end.ensures (search rules) in
    simp length-take (omega arith)

pub returns-then-not-is_head-clause-reads_table : goal.returns-then-not-is_head-clause-reads_table
returns-then-not-is_head-clause-reads_table c =
    let w = run-within _ _ _ _ c.until-end.ensures (search rules) in
    head-other _ _ _ _ c.until-end.ensures (omega arith) (sym c.is_head.ensures ∙ c.if-not-is_head.true)

pub overflow_add-at : goal.overflow_add-at
overflow_add-at c = let w = run-within _ _ _ _ c.until-end.ensures (search rules) in omega arith

pub loop-at-init : goal.loop-at-init
loop-at-init c =
    let w = run-within _ _ _ _ c.until-end.ensures (search rules) in
    (omega arith, omega arith, head-right _ _ _ _ c.until-end.ensures (omega arith) (sym c.is_head.ensures ∙ c.if-not-is_head.false), λ h. h)

pub returns-then-to-s-clause-reads_table : goal.returns-then-to-s-clause-reads_table
returns-then-to-s-clause-reads_table c =
    let inv = c.loop-at.invariant in
    left-broken _ _ _ _ _ _ _ inv.2 _ c.until-to.ensures c.loop-at-test.true c.if-to-s.true

pub slice_bounds-read_row-count : goal.slice_bounds-read_row-count
slice_bounds-read_row-count c = (run-within _ _ _ _ c.until-to.ensures (search rules)).0

pub slice_bounds-read_row-start : goal.slice_bounds-read_row-start
slice_bounds-read_row-start c = slice_bounds-read_row-count c

pub slice_bounds-read_row-end : goal.slice_bounds-read_row-end
slice_bounds-read_row-end c = (run-within _ _ _ _ c.until-to.ensures (search rules)).1

pub returns-in-Err-clause-reads_table : goal.returns-in-Err-clause-reads_table
returns-in-Err-clause-reads_table c =
    let l = c.loop-at in
    let w = run-within _ _ _ _ c.until-to.ensures l.invariant.0 in
    let row = c.read_row.ensures in
    left-refused _ _ _ _ _ _ _ l.invariant.2 _ c.until-to.ensures (omega arith) _ _ c.read_row.ensures.adds.0 c.read_row.ensures.adds.1 _ c.in-Err.is

pub loop-at-smaller : goal.loop-at-smaller
loop-at-smaller c = let w = run-within _ _ _ _ c.until-to.ensures (search rules) in omega arith

pub loop-at-preserved : goal.loop-at-preserved
loop-at-preserved c =
    let l = c.loop-at in
    let w = run-within _ _ _ _ c.until-to.ensures l.invariant.0 in
    let row = c.read_row.ensures in
    let next = left-done _ _ _ _ _ _ _ l.invariant.2 _ c.until-to.ensures (omega arith) _ _ c.read_row.ensures.adds.0 c.read_row.ensures.adds.1 c.in_default.is in
    (omega arith, omega arith, next, λ h. c.read_row.ensures.keeps (l.invariant.3 h))

pub returns-clause-reads_table : goal.returns-clause-reads_table
returns-clause-reads_table c = let inv = c.loop-at.invariant in left-none _ _ _ _ _ _ _ inv.2 c.loop-at-test.false
