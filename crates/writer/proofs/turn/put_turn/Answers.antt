use native.Mathlib.Omega.{arith}
use borrow.Author.Rules.{rules}
use lib.ListN.{length-replicate}
use Rattle.model.specs.Base.{text}
use Rattle.buffers.proofs.Writers.{wrote_none, wrote-both}
use Rattle.writer.proofs.Turns.{slots_apart, slots-within}
use Rattle.writer.proofs.turn.put_turn.Goals as goal

-- A brace for each key of the first path behind the one where the paths part, a comma, and the way down to the second from there.

pub returns-then-m-i : goal.returns-then-m-i
returns-then-m-i c =
    let e = slots-within _ _ _ _ _ c.count-m.ensures c.count-n.ensures c.shared_keys-i.ensures (search rules) in
    record { wrote = rw e (wrote_none _ _); upper_bound = search rules }

pub returns-then-n-i : goal.returns-then-n-i
returns-then-n-i c =
    let e = slots-within _ _ _ _ _ c.count-m.ensures c.count-n.ensures c.shared_keys-i.ensures (search rules) in
    record { wrote = rw e (wrote_none _ _); upper_bound = search rules }

pub put_byte-to-requires : goal.put_byte-to-requires
put_byte-to-requires c = omega (arith, simp length-replicate at c.put_braces-closed.ensures.0)

pub put_descent-requires : goal.put_descent-requires
put_descent-requires c = omega (arith, simp length-replicate at c.put_braces-closed.ensures.0)

pub returns : goal.returns
unfolding text
returns c =
    let e = slots_apart _ _ _ _ _ c.count-m.ensures c.count-n.ensures c.shared_keys-i.ensures c.if-m-i.false c.if-n-i.false in
    let opened = wrote-both _ _ _ _ _ _ _ _ c.put_byte-to.ensures c.put_descent.ensures.wrote in
    record { wrote = rw e (wrote-both _ _ _ _ _ _ _ _ c.put_braces-closed.ensures opened); upper_bound = omega (arith, simp length-replicate at c.put_braces-closed.ensures.0) }
