use mathlib.Core.Path.{◌≡◌, sym, ◌∙◌}
use native.Mathlib.Omega.{arith}
use borrow.Author.Rules.{rules}
use Rattle.tables.proofs.Policy.{rule-inside}
use Rattle.tables.proofs.Given.{lines-passed}
use Rattle.tables.proofs.rights.next_line.Goals as goal

-- Each line that may not match leaves what the lines behind it let read.

pub row_at-rule-requires : goal.row_at-rule-requires
row_at-rule-requires c =
    rule-inside _ c.requires.2 c.loop-i.i c.loop-i-test.true c.requires.0

pub returns-then-may_match : goal.returns-then-may_match
returns-then-may_match c =
    let l = c.loop-i in
    let may = rw c.rule_path.ensures.result_value at (sym c.may_match.ensures ∙ c.if-may_match.true) in
    record { lower_bound = (search rules, search rules); path_value = (λ h. rw (← c.row_at-rule.ensures.0) may); path_value_2 = l.invariant }

pub loop-i-preserved : goal.loop-i-preserved
loop-i-preserved c =
    let l = c.loop-i in
    let no = rw c.rule_path.ensures.result_value at (sym c.may_match.ensures ∙ c.if-may_match.false) in
    let passed = lines-passed _ _ c.requires.2 l.i c.loop-i-test.true c.row_at-rule.ensures.0 no in
    λ o. l.invariant o ∙ passed o

pub returns : goal.returns
returns c =
    let l = c.loop-i in
    let end : l.i ≡ c.args.n = omega arith in
    record { lower_bound = (search rules, search rules); path_value = (λ h. absurd (omega arith)); path_value_2 = rw end at l.invariant }
