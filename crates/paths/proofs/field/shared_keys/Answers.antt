use mathlib.Core.Path.{sym, ◌∙◌}
use native.Mathlib.Omega.{arith}
use borrow.Author.Rules.{rules}
use Rattle.paths.proofs.Shared.{shared-over, shared_step, shared-stop}
use Rattle.paths.proofs.field.shared_keys.Goals as goal

-- Each turn counts a key that both paths have at the same place; the first two that differ end the count, or the end of a path.

pub returns-then-not-same : goal.returns-then-not-same
returns-then-not-same c =
    let l = c.loop-i in
    sym (l.invariant ∙ shared-stop _ _ l.i (search rules) (search rules) c.key_at.ensures c.key_at-in-loop-i.ensures c.same.ensures c.if-not-same.true)

pub loop-i-preserved : goal.loop-i-preserved
loop-i-preserved c =
    let l = c.loop-i in
    l.invariant ∙ shared_step _ _ l.i (search rules) (search rules) c.key_at.ensures c.key_at-in-loop-i.ensures c.same.ensures c.if-not-same.false

pub returns : goal.returns
returns c = sym (c.loop-i.invariant ∙ shared-over _ _ c.loop-i.i (omega arith) ∙ omega arith)
