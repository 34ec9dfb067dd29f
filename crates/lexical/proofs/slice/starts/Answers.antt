use mathlib.Core.Path.{sym, ap, ◌∙◌}
use native.Mathlib.Nat.{add-zero}
use native.Mathlib.Omega.{arith}
use lib.ListN.{length-drop}
use Rattle.model.specs.Base.{is_some}
use Rattle.lexical.proofs.Slices.{after-step, after_stop, after-end, after-short}
use Rattle.lexical.proofs.slice.starts.Goals as goal

-- A word does not stand where less is left of the text; else each turn leaves the rest of the word, at the position behind two equal bytes.

pub returns-then-s-at : goal.returns-then-s-at
returns-then-s-at c = sym (after-short _ _ (simp length-drop (omega arith)))

pub loop-i-init : goal.loop-i-init
loop-i-init c = (omega arith, rw add-zero)

pub returns-then-s-at-2 : goal.returns-then-s-at-2
unfolding is_some
returns-then-s-at-2 c =
    let l = c.loop-i in
    sym (ap is_some (l.invariant.1 ∙ after_stop _ _ _ l.i (omega arith) (omega arith) c.if-s-at-2.true))

pub loop-i-preserved : goal.loop-i-preserved
loop-i-preserved c =
    let l = c.loop-i in
    (l.invariant.0, l.invariant.1 ∙ after-step _ _ _ l.i (omega arith) (omega arith) c.if-s-at-2.false)

pub returns : goal.returns
unfolding is_some
returns c = let l = c.loop-i in sym (ap is_some (l.invariant.1 ∙ after-end _ _ _ l.i (omega arith)))
