use mathlib.Core.Path.{refl, sym, ◌∙◌}
use native.Mathlib.Omega.{arith}
use borrow.Author.Rules.{rules}
use lib.ListN.{length-set}
use Rattle.deliveries.proofs.Received.{listed_start, listed_more, listed_same, listed-none, listed-all}
use Rattle.deliveries.proofs.put_receivers.Goals.{then-receives, else-receives}
use Rattle.deliveries.proofs.put_receivers.Goals as goal

-- Each turn stores the number of one user's session, if that user receives the push; the numbers of the later users remain to be stored.

pub loop-j-init : goal.loop-j-init
loop-j-init c = (search rules, refl, listed_start _ _ _ _ c.requires)

pub returns-then-none_from : goal.returns-then-none_from
returns-then-none_from c =
    let l = c.loop-j in
    listed-none _ _ _ _ l.told l.j l.list l.invariant.2 (sym c.none_from.ensures ∙ c.if-none_from.true)

pub loop-j-preserved : goal.loop-j-preserved
loop-j-preserved c =
    let l = c.loop-j in
    let below = c.loop-j-test.true in
    let test = c.receives.ensures in
    elim c.if-receives.branch [
      | then-receives w ↦
          let more = listed_more _ _ _ _ l.told l.j _ l.invariant.2 below test w.if-receives.true w.state_at.ensures w.number.ensures in
          rw (w.list-is, w.told-is) (omega arith, simp length-set l.invariant.1, more)
      | else-receives w ↦
          let same = listed_same _ _ _ _ l.told l.j _ l.invariant.2 below test w.if-receives.false in
          rw (w.list-is, w.told-is) (omega arith, l.invariant.1, same)
    ]

pub returns : goal.returns
returns c = let l = c.loop-j in listed-all _ _ _ _ l.told l.j l.list l.invariant.2 (search rules)
