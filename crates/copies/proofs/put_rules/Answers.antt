use mathlib.Core.Path.{sym, ◌∙◌}
use native.Mathlib.Omega.{arith}
use borrow.Author.Rules.{rules}
use Rattle.buffers.proofs.Writers.{wrote_none}
use Rattle.layout.proofs.Used.{counted-fit}
use Rattle.model.specs.Limits.{max_rules}
use Rattle.tables.specs.Memory.{rule_row}
use Rattle.tables.proofs.Policy.{rule-inside}
use Rattle.writer.proofs.Remains.{remains-step, remains-end}
use Rattle.copies.proofs.Lines.{rules-yes, rules-no, rules-end}
use Rattle.copies.proofs.put_rules.Goals.{then-is_for, else-is_for}
use Rattle.copies.proofs.put_rules.Goals as goal

-- Each turn writes the line of one row, if it is the user's, of bounded length; the lines of the later rows remain to be written.

pub row_at-rule-requires : goal.row_at-rule-requires
row_at-rule-requires c = rule-inside _ c.row_count-i-end.ensures c.loop-i.i c.loop-i-test.true (search rules)

pub returns : goal.returns
returns c =
    let l = c.loop-i in
    let n = c.row_count-i-end.ensures in
    let f = counted-fit rule_row max_rules _ n in
    record { wrote = remains-end _ _ _ _ _ _ _ _ (rw (rules-end _ _ n l.i (search rules)) at l.invariant.2) (wrote_none _ _); upper_bound = search rules }

pub loop-i-preserved : goal.loop-i-preserved
loop-i-preserved c =
    let l = c.loop-i in
    let n = c.row_count-i-end.ensures in
    let row = c.row_at-rule.ensures.0 in
    let below = c.loop-i-test.true in
    let is-for = sym c.is_for.ensures in
    elim c.if-is_for.branch [
      | then-is_for w ↦ let line = w.put_rule_line-to in
          let rest = rw (rules-yes _ _ n l.i below row (is-for ∙ w.if-is_for.true)) at l.invariant.2 in
          rw (w.to-is, w.out-is) (omega (arith, line.ensures.upper_bound), line.auto.out ∙ l.invariant.1, remains-step _ _ _ _ _ _ _ _ _ rest line.ensures.wrote)
      | else-is_for w ↦ rw (w.to-is, w.out-is) (omega arith, l.invariant.1, rw (rules-no _ _ n l.i below row (is-for ∙ w.if-is_for.false)) at l.invariant.2)
    ]
