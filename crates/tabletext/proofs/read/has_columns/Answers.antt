use mathlib.Core.Path.{sym, ◌∙◌}
use mathlib.Core.Bool.{and-false}
use borrow.Author.Rules.{rules}
use borrow.Author.Tests.{eq-eqb, ne_eqb}
use Rattle.model.specs.Table.{same_length}
use Rattle.tabletext.proofs.Lined.{columns-over, column-missing, column-there}
use Rattle.tabletext.proofs.read.has_columns.Goals as goal

-- There are as many columns, and each turn leaves whether the head has those behind one that it has.

pub returns-then-count-n : goal.returns-then-count-n
unfolding same_length
returns-then-count-n c = rw (← c.count.ensures, ← c.count-n.ensures, ne_eqb _ _ c.if-count-n.true)

pub returns-then-not-has_column : goal.returns-then-not-has_column
returns-then-not-has_column c =
    let l = c.loop-j in
    rw (l.invariant ∙ column-missing _ _ l.j (search rules) _ c.value.ensures (sym c.has_column.ensures ∙ c.if-not-has_column.true), and-false)

pub loop-j-preserved : goal.loop-j-preserved
loop-j-preserved c =
    let l = c.loop-j in
    l.invariant ∙ column-there _ _ l.j (search rules) _ c.value.ensures (sym c.has_column.ensures ∙ c.if-not-has_column.false)

pub returns : goal.returns
unfolding same_length
returns c =
    let l = c.loop-j in
    let e = eq-eqb _ _ c.if-count-n.false in
    rw (← c.count.ensures, ← c.count-n.ensures, e) (sym (l.invariant ∙ columns-over _ _ l.j (search rules)))
