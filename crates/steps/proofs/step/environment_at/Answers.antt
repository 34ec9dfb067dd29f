use Prim.Native.Nat.{◌+◌, ◌≤◌}
use mathlib.Core.Path.{◌≡◌, ◌∙◌, sym, ap}
use Rattle.std.specs.Prelude.{Some}
use Rattle.model.specs.Paths.{Step}
use mathlib.Core.Bool.{true}
use native.Mathlib.Omega.{arith}
use lib.ListN.{length, drop}
use Rattle.model.specs.Base.{after, is_some}
use Rattle.lexical.proofs.Slices.{after-at}
use Rattle.lexical.proofs.Between.{scan-within}
use Rattle.steps.proofs.StepReaders.{environment-not, environment-misfit, environment-is}
use Rattle.steps.specs.declared.step.Kind.TheVariants.{Environment}
use Rattle.steps.proofs.StepBytes.{one-canonical}
use Rattle.model.specs.Limits.{max_name}
use Rattle.steps.proofs.step.environment_at.Goals.{Else-not-starts, In_ok-to}
use Rattle.steps.proofs.step.environment_at.Goals as goal

-- Behind the word the plain bytes are a plain name by how many they are.

pub returns-then-not-starts : goal.returns-then-not-starts
returns-then-not-starts c = (environment-not _ _ c.requires.1 _ _ (sym c.starts.ensures ∙ c.if-not-starts.true), tt)

-- the word stands there
opens : (c : Else-not-starts) → let a = c.args in is_some (after a.word.now (drop a.at a.s.now)) ≡ true
opens c = sym c.starts.ensures ∙ c.if-not-starts.false

pub scan-requires : goal.scan-requires
scan-requires c = (after-at _ _ _ c.requires.0 (opens c)).1

pub returns-in_err-to : goal.returns-in_err-to
returns-in_err-to c =
    let p = c.requires in
    rw c.from_residual.ensures (environment-misfit _ _ p.1 _ _ p.0 (opens (goal.at.returns-in_err-to c).Else-not-starts) _ c.scan.ensures c.in_err-to.was, tt)

-- one byte at least stands behind the word
within : (c : In_ok-to)
    → let a = c.args in
    let from = a.at + length a.word.now in
    let to = c.in_ok-to.to in
    (from + 1 ≤ to) × (to ≤ from + max_name) × (to ≤ length a.s.now)
within c =
    scan-within _ _ _ _ _ _ c.scan.ensures (after-at _ _ _ c.requires.0 (sym c.starts.ensures ∙ c.if-not-starts.false)).1 _ c.in_ok-to.was

pub slice_bounds-one_named-count : goal.slice_bounds-one_named-count
slice_bounds-one_named-count c = omega (arith, within c)

pub slice_bounds-one_named-start : goal.slice_bounds-one_named-start
slice_bounds-one_named-start c = omega (arith, within c)

pub slice_bounds-one_named-end : goal.slice_bounds-one_named-end
slice_bounds-one_named-end c = omega (arith, within c)

pub returns : goal.returns
returns c =
    let p = c.requires in (
      ap (λ (t : Step). Some (t, c.in_ok-to.to)) c.one_named.ensures.0
          ∙ environment-is _ _ p.1 _ _ p.0 (opens (goal.at.returns c).Else-not-starts) _ c.scan.ensures _ c.in_ok-to.was,
      one-canonical c.one_named.result (Environment c.args.operator) tt _ c.one_named.ensures.0 c.one_named.ensures.1,
    )
