use Prim.Native.Nat.{◌<◌}
use mathlib.Core.Path.{◌≡◌, refl}
use native.Mathlib.Omega.{arith}
use borrow.Author.Rules.{rules}
use lib.ListN.{length-take}
use Rattle.std.proofs.lemmas.List.{get_or-take}
use Rattle.model.specs.Base.{joined}
use Rattle.buffers.proofs.Writers.{wrote_none, wrote-both}
use Rattle.deliveries.proofs.Delivered.{lines_more}
use Rattle.deliveries.proofs.put_deliveries.Goals as goal

-- Each turn writes the line for one number, behind the lines for those before it.

pub loop-n-init : goal.loop-n-init
unfolding joined
loop-n-init c = (search rules, refl, wrote_none _ _)

pub loop-n-preserved : goal.loop-n-preserved
loop-n-preserved c =
    let l = c.loop-n in
    let a = c.args in
    let line = c.put_delivery-to.ensures in
    let below : l.n-index < a.told = omega (arith, length-take a.told a.list.now) in
    let more = lines_more a.pushed.now a.list.now l.n-index (omega arith) in
    (omega (arith, line.upper_bound), search rules, rw more (wrote-both _ _ _ _ _ _ _ _ l.invariant.2 (rw get_or-take at line.wrote)))

pub returns : goal.returns
returns c =
    let l = c.loop-n in
    let a = c.args in
    let all : l.n-index ≡ a.told = omega (arith, length-take a.told a.list.now) in
    record { wrote = rw (← all) l.invariant.2; upper_bound = omega (arith, l.invariant.0) }
