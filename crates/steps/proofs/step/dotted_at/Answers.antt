use mathlib.Core.Path.{◌≡◌, ◌∙◌, sym}
use mathlib.Core.Bool.{true}
use mathlib.Core.List.{[], ◌∷◌}
use Prim.Native.Nat.{◌+◌, ◌≤◌}
use lib.ListN.{length, drop}
use Rattle.model.specs.Base.{after, is_some}
use Rattle.model.specs.Paths.{read_wildcard, read_identifier}
use Rattle.lexical.proofs.Runs.{byte-stands}
use Rattle.steps.proofs.StepReaders.{either-step, dotted-not, dotted-then}
use borrow.Author.Rules.{rules}
use Rattle.steps.proofs.step.dotted_at.Goals.{Else-not-is_at}
use Rattle.steps.proofs.step.dotted_at.Goals as goal

-- Behind the dot the first that reads something decides.

pub returns-then-not-is_at : goal.returns-then-not-is_at
returns-then-not-is_at c = (dotted-not _ _ (sym c.is_at.ensures ∙ c.if-not-is_at.true), tt)

-- the dot stands there
opens : (c : Else-not-is_at) → let a = c.args in is_some (after (0x2E ∷ []) (drop a.at a.s.now)) ≡ true
opens c = sym c.is_at.ensures ∙ c.if-not-is_at.false

pub wildcard_at-requires : goal.wildcard_at-requires
wildcard_at-requires c = (byte-stands _ _ _ (opens c)).0

pub or_else-requires : goal.or_else-requires
or_else-requires c =
    let h : c.args.at + 1 ≤ length c.args.s.now = (byte-stands _ _ _ (opens (goal.at.or_else-requires c).Else-not-is_at)).0 in
    search rules

pub returns : goal.returns
returns c =
    rw (← dotted-then _ c.args.at (search rules) (opens (goal.at.returns c).Else-not-is_at))
    (either-step read_wildcard read_identifier _ _ _ _ c.wildcard_at.ensures (search rules))
