use mathlib.Core.Path.{◌≡◌, sym, ◌∙◌}
use mathlib.Core.Bool.{true}
use mathlib.Core.List.{[], ◌∷◌}
use native.Mathlib.Omega.{arith}
use lib.ListN.{drop}
use Rattle.model.specs.Base.{after, is_some}
use Rattle.lexical.proofs.Runs.{byte-stands}
use Rattle.lexical.proofs.Between.{between-unopened, between-misfit, between-unclosed, between-closed}
use Rattle.lexical.proofs.class.between.Goals.{Else-not-is_at}
use Rattle.lexical.proofs.class.between.Goals as goal

-- Where the quotes stand and where the bytes of the class end decide what the reader reads.

-- the opening quote stands there
opens : (c : Else-not-is_at) → let a = c.args in is_some (after (a.quote ∷ []) (drop a.at a.s.now)) ≡ true
opens c = sym c.is_at.ensures ∙ c.if-not-is_at.false

pub returns-then-not-is_at : goal.returns-then-not-is_at
returns-then-not-is_at c = between-unopened _ _ _ _ _ _ (sym c.is_at.ensures ∙ c.if-not-is_at.true)

pub scan-requires : goal.scan-requires
scan-requires c = (byte-stands _ _ _ (opens c)).0

pub returns-in_err-to : goal.returns-in_err-to
returns-in_err-to c =
    rw c.from_residual.ensures (between-misfit _ _ _ _ _ _ (opens (goal.at.returns-in_err-to c).Else-not-is_at) _ c.scan.ensures c.in_err-to.was)

pub returns-then-not-is_at-2 : goal.returns-then-not-is_at-2
returns-then-not-is_at-2 c =
    between-unclosed _ _ _ _ _ _ (opens (goal.at.returns-then-not-is_at-2 c).Else-not-is_at) _ c.scan.ensures _ c.in_ok-to.was (sym c.is_at-2.ensures ∙ c.if-not-is_at-2.true)

pub overflow_add-result : goal.overflow_add-result
overflow_add-result c =
    let a = c.args in
    let inside = (byte-stands a.quote a.s.now c.in_ok-to.to (sym c.is_at-2.ensures ∙ c.if-not-is_at-2.false)).0 in
    omega arith

pub returns : goal.returns
returns c =
    between-closed _ _ _ _ _ _ (opens (goal.at.returns c).Else-not-is_at) _ c.scan.ensures _ c.in_ok-to.was (sym c.is_at-2.ensures ∙ c.if-not-is_at-2.false)
