use mathlib.Core.Path.{refl, sym, ap, ◌∙◌}
use native.Mathlib.Omega.{arith}
use borrow.Author.Rules.{rules}
use Rattle.model.specs.Fields.{order_path}
use Rattle.lexical.specs.Orders.{order_of}
use Rattle.lexical.proofs.Slices.{cmp-order}
use Rattle.paths.proofs.Ordered.{keys-same, keys-differ, paths-end}
use Rattle.paths.proofs.field.compare_paths.Goals as goal

-- The first two keys that differ decide, or the numbers of keys; each turn leaves the order of what stands behind two equal keys.

pub loop-i-init : goal.loop-i-init
unfolding order_path
loop-i-init c = refl

pub returns-in_default : goal.returns-in_default
returns-in_default c =
    let l = c.loop-i in
    rw l.invariant (keys-differ _ _ l.i (search rules) (search rules) c.key_at.ensures c.key_at-in-loop-i.ensures c.compare.ensures c.in_default.not-Equal)

pub loop-i-preserved : goal.loop-i-preserved
loop-i-preserved c =
    let l = c.loop-i in
    l.invariant ∙ keys-same _ _ l.i (search rules) (search rules) c.key_at.ensures c.key_at-in-loop-i.ensures c.compare.ensures c.in-Equal.is

pub returns : goal.returns
returns c =
    let l = c.loop-i in
    rw (c.cmp.ensures, c.count-m.ensures, c.count-n.ensures)
    (cmp-order _ _ ∙ sym (ap order_of (l.invariant ∙ paths-end _ _ l.i (omega arith))))
