use Prim.Native.Nat.{◌+◌, ◌≤◌}
use mathlib.Core.Path.{◌≡◌, refl, ◌∙◌}
use mathlib.Core.List.{◌++◌, append-nil}
use native.Mathlib.Omega.{arith}
use lib.ListN.{length, take, length-append, length-take}
use Rattle.rows.specs.Rows.{Wrote}
use Rattle.model.specs.Base.{text, between}
use Rattle.model.specs.Paths.{name_text, step_text}
use Rattle.buffers.proofs.Writers.{wrote_none, wrote-both}
use Rattle.layout.proofs.Named.{name-length}
use Rattle.steps.specs.Steps.{names_in}
use Rattle.steps.proofs.StepTexts.{spelled_names, divider, divider-some, divider-none, names-step, names-all}
use borrow.Author.Rules.{rules}
use Rattle.model.specs.Limits.{max_key}
use Rattle.steps.proofs.policy.put_list.Goals.{Joined-i-gt0, then-i-gt0, else-i-gt0}
use Rattle.steps.proofs.policy.put_list.Goals as goal

-- Behind the opening bracket, before each turn the names so far are written, with commas between, each with at most 19 bytes.

-- where the ways meet, a comma is written before every name but the first
met : (c : Joined-i-gt0)
    → let l = c.loop-i in
    let p = c.put_byte-to in
    let s = c.args.names.now in
    (c.if-i-gt0.to ≤ l.to + 1) × (length c.if-i-gt0.out ≡ length p.new.out)
    × Wrote p.result (spelled_names (take l.i (names_in s)) ++ divider (text ",") l.i) p.new.out c.if-i-gt0.to c.if-i-gt0.out
unfolding text
met c =
    let l = c.loop-i in
    let comma = text "," in
    elim c.if-i-gt0.branch [
      | then-i-gt0 w ↦
          let comma_written = w.put_byte-to-then-i-gt0.ensures in
          let more = wrote-both _ _ _ _ _ _ _ _ l.invariant.2 comma_written in
          rw (w.to-is, w.out-is) (omega (arith, comma_written.0), w.put_byte-to-then-i-gt0.auto.out ∙ l.invariant.1, rw (divider-some comma l.i w.if-i-gt0.true) more)
      | else-i-gt0 w ↦ rw (w.to-is, w.out-is) (omega arith, l.invariant.1, rw (divider-none comma l.i w.if-i-gt0.false, append-nil) l.invariant.2)
    ]

pub loop-i-init : goal.loop-i-init
unfolding spelled_names between
loop-i-init c = (search rules, refl, wrote_none _ _)

pub put_quoted-to-requires : goal.put_quoted-to-requires
put_quoted-to-requires c =
    let m = met (goal.at.put_quoted-to-requires c).Joined-i-gt0 in
    let k = name-length max_key _ c.key_at.ensures (simp length-take (omega arith)) in
    omega arith

pub loop-i-preserved : goal.loop-i-preserved
unfolding name_text text
loop-i-preserved c =
    let l = c.loop-i in
    let s = c.args.names.now in
    let m = met (goal.at.loop-i-preserved c).Joined-i-gt0 in
    let name = c.key_at.ensures in
    let k = name-length max_key _ name (simp length-take (omega arith)) in
    let quoted = c.put_quoted-to.ensures in
    let all = wrote-both _ _ _ _ _ _ _ _ m.2 quoted in
    (omega (arith, simp length-append at quoted.0), search rules, rw (names-step s l.i (search rules), ← name) all)

pub returns : goal.returns
unfolding step_text spelled_names text
returns c =
    let l = c.loop-i in
    let s = c.args.names.now in
    let end = wrote-both _ _ _ _ _ _ _ _ l.invariant.2 c.put_byte.ensures in
    rw (← names-all s l.i (search rules)) (wrote-both _ _ _ _ _ _ _ _ c.put_byte-to.ensures end)
