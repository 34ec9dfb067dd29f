use Prim.Native.Nat.{◌≤◌}
use mathlib.Core.Path.{◌≡◌, refl, ap, ◌∙◌}
use Rattle.std.specs.Prelude.{Ok}
use Rattle.server.specs.declared.answer.Reply.TheVariants.{Accepted}
use native.Mathlib.Omega.{arith}
use borrow.Author.Rules.{rules}
use lib.ListN.{length, length-drop}
use Rattle.rows.proofs.Parts.{tail-part}
use Rattle.model.specs.Limits.{max_copy, max_line}
use Rattle.buffers.proofs.Writers.{wrote-both}
use Rattle.printing.proofs.Responded.{reply-inside, responds-masked, responds, accepted-inside, accepted-few, printed-other, printed-accepted}
use Rattle.printing.proofs.respond.Goals.{In-Accepted}
use Rattle.printing.proofs.respond.Goals as goal

-- The answer is written, and behind that of an accepted request the deliveries; what was pushed stands in the line from the reply's position on.

-- what the reply was matched with
accepted : (c : In-Accepted) → c.request-reply.result ≡ Ok (Accepted c.in-Accepted.told c.in-Accepted.at)
accepted c = c.in-Ok.is ∙ ap Ok c.in-Accepted.is

-- the position that was answered lies in the line
inside : (c : In-Accepted)
    → let line = c.args.line.now in
    (c.in-Accepted.at ≤ length line) × (length line ≤ max_line)
inside c =
    accepted-inside _ _ _ _ _ _ c.request-reply.ensures.served_by_masks (accepted c)

pub put_answer-to-requires : goal.put_answer-to-requires
put_answer-to-requires c =
    let (inside, same) = reply-inside _ _ _ _ _ _ c.request-reply.ensures.served_by_masks in
    let long : length c.args.buffer.now ≡ max_copy = search rules in
    (same ∙ long, rw same inside)

pub slice_bounds-put_deliveries-count : goal.slice_bounds-put_deliveries-count
slice_bounds-put_deliveries-count c = (inside (goal.at.slice_bounds-put_deliveries-count c).In-Accepted).0

pub slice_bounds-put_deliveries-start : goal.slice_bounds-put_deliveries-start
slice_bounds-put_deliveries-start c = (inside (goal.at.slice_bounds-put_deliveries-start c).In-Accepted).0

pub put_deliveries-requires : goal.put_deliveries-requires
put_deliveries-requires c =
    let served = c.request-reply.ensures.served_by_masks in
    let (few, room) = accepted-few _ _ _ _ _ _ served (accepted (goal.at.put_deliveries-requires c).In-Accepted) in
    let (within, short) = inside (goal.at.put_deliveries-requires c).In-Accepted in
    (room, few, rw (tail-part, length-drop) (omega arith), omega (arith, c.put_answer-to.ensures.upper_bound))

pub returns-in_default : goal.returns-in_default
returns-in_default c =
    let served = c.request-reply.ensures.served_by_masks in
    let other = printed-other _ _ _ _ _ _ served (λ k at e. let is = c.in_default.is in cc) in
    record {
      responds_by_masks = responds-masked _ _ _ _ _ _ served (rw other c.put_answer-to.ensures.wrote) (omega arith);
      responds_by_policy = responds _ _ _ _ _ _ served refl (rw other c.put_answer-to.ensures.wrote) (omega arith);
    }

pub returns-in_default-given : goal.returns-in_default-given
returns-in_default-given c =
    let served = c.request-reply.ensures.served_by_masks in
    let other = printed-other _ _ _ _ _ _ served (λ k at e. let is = c.in-Ok.is in c.in_default-given.not-Accepted k at (cc)) in
    record {
      responds_by_masks = responds-masked _ _ _ _ _ _ served (rw other c.put_answer-to.ensures.wrote) (omega arith);
      responds_by_policy = responds _ _ _ _ _ _ served refl (rw other c.put_answer-to.ensures.wrote) (omega arith);
    }

pub returns : goal.returns
returns c =
    let served = c.request-reply.ensures.served_by_masks in
    let sent = rw tail-part at c.put_deliveries.ensures.wrote in
    let both = wrote-both _ _ _ _ _ _ _ _ c.put_answer-to.ensures.wrote sent in
    record {
      responds_by_masks = responds-masked _ _ _ _ _ _ served (rw (printed-accepted _ _ _ _ _ _ served (accepted (goal.at.returns c).In-Accepted)) both) (omega (arith, c.put_answer-to.ensures.upper_bound));
      responds_by_policy = responds _ _ _ _ _ _ served refl (rw (printed-accepted _ _ _ _ _ _ served (accepted (goal.at.returns c).In-Accepted)) both) (omega (arith, c.put_answer-to.ensures.upper_bound));
    }
