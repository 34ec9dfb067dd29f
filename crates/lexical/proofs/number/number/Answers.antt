use mathlib.Core.Path.{sym, ◌∙◌}
use borrow.Author.Rules.{rules}
use native.Mathlib.Omega.{arith}
use Rattle.model.proofs.Reading.{digit-bounds}
use Rattle.lexical.proofs.Decimals.{number-empty, number-padded, number-plain, counted_step, counted_stop, counted-end, counted-past}
use Rattle.lexical.proofs.number.number.Goals as goal

-- A text that is not empty and has no zero in front is what its digits spell; each turn leaves the digits that follow, with the number so far.

pub returns-then-s-eq0 : goal.returns-then-s-eq0
returns-then-s-eq0 c = sym (number-empty _ _ c.if-s-eq0.true)

pub returns-then-s-gt1 : goal.returns-then-s-gt1
returns-then-s-gt1 c = sym (number-padded _ _ (search rules) c.if-s-gt1.true)

pub overflow_sub-n : goal.overflow_sub-n
overflow_sub-n c = (digit-bounds _ (sym c.is_digit.ensures ∙ c.if-not-is_digit.false)).0

pub returns-then-not-is_digit : goal.returns-then-not-is_digit
returns-then-not-is_digit c =
    let l = c.loop-b in
    sym (l.invariant.1 ∙ counted_stop _ _ _ l.b-index (search rules) (sym c.is_digit.ensures ∙ c.if-not-is_digit.true))

pub returns-then-most-n : goal.returns-then-most-n
returns-then-most-n c =
    let l = c.loop-b in
    sym (l.invariant.1 ∙ counted_step _ _ _ l.b-index (search rules) (sym c.is_digit.ensures ∙ c.if-not-is_digit.false) ∙ counted-past _ _ _ c.if-most-n.true)

pub loop-b-preserved : goal.loop-b-preserved
loop-b-preserved c =
    let l = c.loop-b in
    (search rules, l.invariant.1 ∙ counted_step _ _ _ l.b-index (search rules) (sym c.is_digit.ensures ∙ c.if-not-is_digit.false))

pub returns : goal.returns
returns c = let l = c.loop-b in sym (l.invariant.1 ∙ counted-end _ _ _ l.b-index (search rules) l.invariant.0)

pub loop-b-init : goal.loop-b-init
loop-b-init c = (search rules, number-plain _ _ (omega arith) (λ e. grind arith))
