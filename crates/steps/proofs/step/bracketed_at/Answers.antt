use mathlib.Core.Path.{◌≡◌, sym, ◌∙◌}
use mathlib.Core.Bool.{true}
use mathlib.Core.List.{[], ◌∷◌}
use native.Mathlib.Omega.{arith}
use lib.ListN.{drop}
use Rattle.model.specs.Base.{after, is_some}
use Rattle.lexical.proofs.Runs.{byte-stands}
use Rattle.steps.proofs.StepReaders.{bracketed-not, bracketed-empty, bracketed-unclosed, bracketed-is}
use Rattle.steps.proofs.step.bracketed_at.Goals.{Else-not-is_at}
use Rattle.steps.proofs.step.bracketed_at.Goals as goal

-- The brackets stand where the bytes say, and what `selector_at` answers between them is the step.

pub returns-then-not-is_at : goal.returns-then-not-is_at
returns-then-not-is_at c = (bracketed-not _ _ (sym c.is_at.ensures ∙ c.if-not-is_at.true), tt)

-- the opening bracket stands there
opens : (c : Else-not-is_at) → let a = c.args in is_some (after (0x5B ∷ []) (drop a.at a.s.now)) ≡ true
opens c = sym c.is_at.ensures ∙ c.if-not-is_at.false

pub selector_at-requires : goal.selector_at-requires
selector_at-requires c = (byte-stands _ _ _ (opens c)).0

pub returns-in_err-step : goal.returns-in_err-step
returns-in_err-step c =
    rw c.from_residual.ensures (bracketed-empty _ _ (opens (goal.at.returns-in_err-step c).Else-not-is_at) c.in_err-step.ensures.0, tt)

pub returns-then-not-is_at-2 : goal.returns-then-not-is_at-2
returns-then-not-is_at-2 c =
    (bracketed-unclosed _ _ (opens (goal.at.returns-then-not-is_at-2 c).Else-not-is_at) _ _ c.in_ok-step.ensures.0 (sym c.is_at-2.ensures ∙ c.if-not-is_at-2.true), tt)

pub overflow_add-result : goal.overflow_add-result
overflow_add-result c =
    let s = c.args.s.now in
    let inside = (byte-stands 0x5D s c.in_ok-step.to (sym c.is_at-2.ensures ∙ c.if-not-is_at-2.false)).0 in
    omega arith

pub returns : goal.returns
returns c =
    (bracketed-is _ _ (opens (goal.at.returns c).Else-not-is_at) _ _ c.in_ok-step.ensures.0 (sym c.is_at-2.ensures ∙ c.if-not-is_at-2.false), c.in_ok-step.ensures.1)
