use mathlib.Core.Path.{refl, sym, ap, ◌∙◌}
use native.Mathlib.Omega.{arith}
use borrow.Author.Rules.{rules}
use Rattle.model.specs.Limits.{max_bindings}
use Rattle.layout.proofs.Used.{used-fit}
use Rattle.steps.specs.Environments.{binding_row}
use Rattle.matching.proofs.Matched.{lines-over, lines-stop, line-more, line-first}
use Rattle.matching.proofs.path.first_said.Goals as goal

-- Up to the first empty row each turn leaves the question for the lines from the next row on.

pub loop-i-init : goal.loop-i-init
loop-i-init g c = (search rules, λ asked is. refl)

pub returns-then-lines-at-eq0 : goal.returns-then-lines-at-eq0
returns-then-lines-at-eq0 g c = λ asked is.
    let l = c.loop-i in
    sym (l.invariant.1 asked is ∙ ap asked (lines-stop _ l.i c.loop-i-test.true l.invariant.0 c.if-lines-at-eq0.true) ∙ is.none)

pub returns-in-Some : goal.returns-in-Some
returns-in-Some g c = λ asked is.
    let l = c.loop-i in
    let line = line-first _ l.i c.loop-i-test.true l.invariant.0 c.if-lines-at-eq0.false c.name_from-name.ensures c.name_from-value.ensures in
    sym (l.invariant.1 asked is ∙ ap asked line ∙ is.first _ _ c.says.result (search rules) ∙ rw c.in-Some.is)

pub loop-i-preserved : goal.loop-i-preserved
loop-i-preserved g c =
    let l = c.loop-i in
    let more = line-more _ l.i c.loop-i-test.true l.invariant.0 c.if-lines-at-eq0.false in
    let line = line-first _ l.i c.loop-i-test.true l.invariant.0 c.if-lines-at-eq0.false c.name_from-name.ensures c.name_from-value.ensures in
    (omega arith, λ asked is. l.invariant.1 asked is ∙ ap asked line ∙ is.first _ _ c.says.result (search rules) ∙ rw c.in_default.is)

pub returns : goal.returns
returns g c = λ asked is.
    let l = c.loop-i in
    sym (l.invariant.1 asked is ∙ ap asked (lines-over _ l.i (omega (arith, used-fit binding_row max_bindings c.args.lines.now))) ∙ is.none)
