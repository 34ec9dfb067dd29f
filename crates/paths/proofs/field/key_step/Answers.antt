use mathlib.Core.Path.{◌≡◌, sym, ◌∙◌}
use mathlib.Core.Bool.{true}
use mathlib.Core.List.{[], ◌∷◌}
use native.Mathlib.Omega.{arith}
use lib.ListN.{drop}
use Rattle.model.specs.Base.{after, is_some}
use Rattle.lexical.proofs.Runs.{byte-stands}
use Rattle.paths.proofs.KeySteps.{key-unopened, key-empty, key-unclosed, key-closed}
use Rattle.paths.proofs.field.key_step.Goals.{Else-not-is_at}
use Rattle.paths.proofs.field.key_step.Goals as goal

-- The brackets stand where the bytes say, and what `between` answers behind the opening one is the key.

-- the opening bracket stands there
opens : (c : Else-not-is_at) → let a = c.args in is_some (after (0x5B ∷ []) (drop a.at a.s.now)) ≡ true
opens c = sym c.is_at.ensures ∙ c.if-not-is_at.false

pub returns-then-not-is_at : goal.returns-then-not-is_at
returns-then-not-is_at c = key-unopened _ _ (sym c.is_at.ensures ∙ c.if-not-is_at.true)

pub between-requires : goal.between-requires
between-requires c = (byte-stands _ _ _ (opens c)).0

pub returns-in_err-e : goal.returns-in_err-e
returns-in_err-e c =
    rw c.from_residual.ensures (key-empty _ _ (opens (goal.at.returns-in_err-e c).Else-not-is_at) _ c.between.ensures c.in_err-e.was)

pub returns-then-not-is_at-2 : goal.returns-then-not-is_at-2
returns-then-not-is_at-2 c =
    key-unclosed _ _ (opens (goal.at.returns-then-not-is_at-2 c).Else-not-is_at) _ c.between.ensures _ c.in_ok-e.was (sym c.is_at-2.ensures ∙ c.if-not-is_at-2.true)

pub overflow_add-result : goal.overflow_add-result
overflow_add-result c =
    let s = c.args.s.now in
    let inside = (byte-stands 0x5D s c.in_ok-e.e (sym c.is_at-2.ensures ∙ c.if-not-is_at-2.false)).0 in
    omega arith

pub returns : goal.returns
returns c =
    key-closed _ _ (opens (goal.at.returns c).Else-not-is_at) _ c.between.ensures _ c.in_ok-e.was (sym c.is_at-2.ensures ∙ c.if-not-is_at-2.false)
