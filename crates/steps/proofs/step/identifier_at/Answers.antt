use Prim.Native.Nat.{◌+◌, ◌≤◌}
use mathlib.Core.Path.{◌∙◌, sym, ap}
use Rattle.std.specs.Prelude.{Some}
use Rattle.model.specs.Paths.{Step}
use native.Mathlib.Omega.{arith}
use lib.ListN.{length}
use Rattle.lexical.proofs.Between.{scan-within}
use Rattle.steps.proofs.StepReaders.{identifier-misfit, identifier-digit, identifier-is}
use Rattle.steps.specs.declared.step.Kind.TheVariants.{Names}
use Rattle.steps.proofs.StepBytes.{one-canonical}
use borrow.Author.Rules.{rules}
use Rattle.model.specs.Limits.{max_key}
use Rattle.steps.proofs.step.identifier_at.Goals.{In_ok-to}
use Rattle.steps.proofs.step.identifier_at.Goals as goal

-- The bytes of the class are an identifier by how many they are and by the first of them.

pub returns-in_err-to : goal.returns-in_err-to
returns-in_err-to c = rw c.from_residual.ensures (identifier-misfit _ _ (search rules) _ c.scan.ensures c.in_err-to.was, tt)

-- one byte at least stands from the position on
within : (c : In_ok-to)
    → let a = c.args in
    let to = c.in_ok-to.to in
    (a.at + 1 ≤ to) × (to ≤ a.at + max_key) × (to ≤ length a.s.now)
within c = scan-within _ _ _ _ _ _ c.scan.ensures (search rules) _ c.in_ok-to.was

pub bounds-s-at : goal.bounds-s-at
bounds-s-at c = omega (arith, within (goal.at.bounds-s-at c).In_ok-to)

pub returns-then-is_digit : goal.returns-then-is_digit
returns-then-is_digit c =
    (identifier-digit _ _ (search rules) _ c.scan.ensures _ c.in_ok-to.was (sym c.is_digit.ensures ∙ c.if-is_digit.true), tt)

pub slice_bounds-one_named-count : goal.slice_bounds-one_named-count
slice_bounds-one_named-count c = omega (arith, within (goal.at.slice_bounds-one_named-count c).In_ok-to)

pub slice_bounds-one_named-start : goal.slice_bounds-one_named-start
slice_bounds-one_named-start c = omega (arith, within (goal.at.slice_bounds-one_named-start c).In_ok-to)

pub slice_bounds-one_named-end : goal.slice_bounds-one_named-end
slice_bounds-one_named-end c = omega (arith, within (goal.at.slice_bounds-one_named-end c).In_ok-to)

pub returns : goal.returns
returns c = (
  ap (λ (t : Step). Some (t, c.in_ok-to.to)) c.one_named.ensures.0
      ∙ identifier-is _ _ (search rules) _ c.scan.ensures _ c.in_ok-to.was (sym c.is_digit.ensures ∙ c.if-is_digit.false),
  one-canonical c.one_named.result Names tt _ c.one_named.ensures.0 c.one_named.ensures.1,
)
