use mathlib.Core.Path.{refl, sym, ◌∙◌}
use native.Mathlib.Omega.{arith}
use borrow.Author.Rules.{rules}
use Rattle.layout.proofs.Used.{used-fit, used-last, used-more}
use Rattle.model.specs.Base.{any}
use Rattle.model.specs.Limits.{max_rules}
use Rattle.model.specs.Rights.{may_write}
use Rattle.tables.specs.Memory.{rule_row}
use Rattle.tables.specs.Grants.{gives_write}
use Rattle.tables.proofs.Policy.{any-rule, rules-over}
use Rattle.tables.proofs.rights.may_write.Goals as goal

-- Up to the first empty row each turn leaves the question for the lines behind the one that it asked.

pub loop-i-init : goal.loop-i-init
unfolding may_write gives_write
loop-i-init c = (search rules, refl)

pub returns-then-is_empty : goal.returns-then-is_empty
unfolding any
returns-then-is_empty c =
    let l = c.loop-i in
    let last = used-last rule_row max_rules _ l.i (search rules) l.invariant.0 c.row_at-rule.ensures.0 (sym c.is_empty.ensures ∙ c.if-is_empty.true) in
    sym (l.invariant.1 ∙ rw (rules-over _ refl l.i last))

pub returns-then-gives_write : goal.returns-then-gives_write
returns-then-gives_write c =
    let l = c.loop-i in
    let more = used-more rule_row max_rules _ l.i (search rules) l.invariant.0 c.row_at-rule.ensures.0 (sym c.is_empty.ensures ∙ c.if-is_empty.false) in
    sym (l.invariant.1 ∙ any-rule _ refl l.i more c.row_at-rule.ensures.0 _ c.gives_write.ensures ∙ rw c.if-gives_write.true)

pub loop-i-preserved : goal.loop-i-preserved
loop-i-preserved c =
    let l = c.loop-i in
    let more = used-more rule_row max_rules _ l.i (search rules) l.invariant.0 c.row_at-rule.ensures.0 (sym c.is_empty.ensures ∙ c.if-is_empty.false) in
    (omega arith, l.invariant.1 ∙ any-rule _ refl l.i more c.row_at-rule.ensures.0 _ c.gives_write.ensures ∙ rw c.if-gives_write.false)

pub returns : goal.returns
unfolding any
returns c =
    let l = c.loop-i in
    let s = c.args.policy.now in
    sym (l.invariant.1 ∙ rw (rules-over s refl l.i (omega (arith, used-fit rule_row max_rules s))))
