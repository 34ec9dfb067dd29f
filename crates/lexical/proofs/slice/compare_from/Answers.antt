use mathlib.Core.Path.{◌≡◌, sym, ap, ◌∙◌}
use Prim.Native.Nat.{min}
use native.Mathlib.Omega.{arith}
use lib.ListN.{length}
use Rattle.lexical.specs.Orders.{order_of}
use Rattle.lexical.proofs.Slices.{order-step, order-differs, order-ends, cmp-order}
use Rattle.lexical.proofs.slice.compare_from.Goals as goal

-- The first two bytes that differ decide, or the lengths; each turn leaves the order of what stands behind two equal bytes.

pub returns-then-a-i : goal.returns-then-a-i
returns-then-a-i c =
    let l = c.loop-i in
    c.cmp.ensures ∙ cmp-order _ _ ∙ sym (ap order_of (l.invariant ∙ order-differs _ _ l.i (omega arith) (omega arith) c.if-a-i.true))

pub loop-i-preserved : goal.loop-i-preserved
loop-i-preserved c = let l = c.loop-i in l.invariant ∙ order-step _ _ l.i (omega arith) (omega arith) c.if-a-i.false

pub returns : goal.returns
returns c =
    let l = c.loop-i in
    let e : l.i ≡ min (length c.args.a.now) (length c.args.b.now) = omega arith in
    c.cmp-2.ensures ∙ cmp-order _ _ ∙ sym (ap order_of (l.invariant ∙ order-ends _ _ l.i e))
