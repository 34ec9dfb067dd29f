use Prim.Native.Nat.{suc, ◌+◌, ◌-◌}
use mathlib.Core.Path.{◌≡◌}
use native.Mathlib.Omega.{arith}
use borrow.Author.Rules.{rules}
use Rattle.buffers.proofs.Writers.{wrote_none}
use Rattle.writer.proofs.Remains.{remains-step, remains-end}
use Rattle.writer.proofs.turn.put_braces.Goals as goal

-- Each turn writes one of the braces that remain.

pub loop-i-preserved : goal.loop-i-preserved
loop-i-preserved c =
    let l = c.loop-i in
    let n = c.args.n in
    let e : n - l.i ≡ suc (n - (l.i + 1)) = omega arith in
    (search rules, remains-step _ _ _ _ _ _ _ _ _ (rw e at l.invariant.1) (search rules, c.put_byte.ensures.1))

pub returns : goal.returns
returns c =
    let l = c.loop-i in
    let n = c.args.n in
    let e : n - l.i ≡ 0 = omega arith in
    remains-end _ _ _ _ _ _ _ _ (rw e at l.invariant.1) (omega arith, (wrote_none _ _).1)
