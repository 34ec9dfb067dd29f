use Prim.Native.Nat.{◌≤◌}
use mathlib.Core.Path.{◌≡◌, ap, ◌∙◌}
use Rattle.std.specs.Prelude.{Ok}
use Rattle.server.specs.declared.answer.Reply.TheVariants.{Session, Length, Accepted}
use native.Mathlib.Omega.{arith}
use lib.ListN.{length, length-take}
use Rattle.model.specs.Base.{text, between}
use Rattle.model.specs.Serving.{table_line}
use Rattle.model.specs.Program.{print_answer}
use Rattle.buffers.proofs.Writers.{wrote-both}
use Rattle.printing.proofs.Pieces.{numbered-pieces}
use Rattle.model.specs.Limits.{max_copy}
use Rattle.printing.proofs.put_answer.Goals.{After-put-arg-1, In-Ok-Accepted, In-Ok-Length, In-Ok-Session}
use Rattle.printing.proofs.put_answer.Goals as goal

-- Each reply's line is written; behind a length, the first bytes of the buffer.

-- what the reply was matched with
session : (c : In-Ok-Session) → c.args.reply ≡ Ok (Session c.in-Ok-Session.n)
session c = c.in-Ok-Session.is ∙ ap Ok (rw c.in-Ok-Session.is at c.in-Ok-Session.field-0-is)

of-length : (c : In-Ok-Length) → c.args.reply ≡ Ok (Length c.in-Ok-Length.n)
of-length c = c.in-Ok-Length.is ∙ ap Ok (rw c.in-Ok-Length.is at c.in-Ok-Length.field-0-is)

accepted : (c : In-Ok-Accepted) → c.args.reply ≡ Ok (Accepted c.in-Ok-Accepted.field-0-0 c.in-Ok-Accepted.field-0-1)
accepted c = c.in-Ok-Accepted.is ∙ ap Ok (rw c.in-Ok-Accepted.is at c.in-Ok-Accepted.field-0-is)

-- the length lies in the buffer
inside : (c : In-Ok-Length)
    → let b = c.args.buffer.now in
    (c.in-Ok-Length.n ≤ length b) × (length b ≡ max_copy)
inside c = let pre = c.requires in (rw (of-length c) at pre.1, pre.0)

pub slice_bounds-put-end : goal.slice_bounds-put-end
slice_bounds-put-end c =
    let i = inside (goal.at.slice_bounds-put-end c).In-Ok-Length in
    simp length-take (omega arith)

pub put-requires : goal.put-requires
put-requires c =
    let i = inside (goal.at.put-requires c).In-Ok-Length in
    let n = slice_bounds-put-end c in
    omega arith

pub returns-in-Err : goal.returns-in-Err
unfolding print_answer text
returns-in-Err c =
    let put = c.put_numbered.ensures in
    record { wrote = rw (c.in-Err.is, ← c.number.ensures, numbered-pieces) c.put_numbered.ensures.wrote; upper_bound = omega arith }

pub returns-in-Ok-Session : goal.returns-in-Ok-Session
unfolding print_answer text
returns-in-Ok-Session c =
    let put = c.put_numbered-in-Ok-Session.ensures in
    record { wrote = rw (session (goal.at.returns-in-Ok-Session c).In-Ok-Session, numbered-pieces) c.put_numbered-in-Ok-Session.ensures.wrote; upper_bound = omega arith }

pub returns-in-Ok-Length : goal.returns-in-Ok-Length
unfolding print_answer text
returns-in-Ok-Length c =
    let i = inside (goal.at.returns-in-Ok-Length c).In-Ok-Length in
    let n = slice_bounds-put-end (goal.at.returns-in-Ok-Length c).After-put-arg-1 in
    record { wrote = rw (of-length (goal.at.returns-in-Ok-Length c).In-Ok-Length, numbered-pieces) (wrote-both _ _ _ _ _ _ _ _ c.put_numbered-to.ensures.wrote c.put.ensures); upper_bound = omega arith }

pub returns-in-Ok-Accepted : goal.returns-in-Ok-Accepted
unfolding print_answer table_line between text
returns-in-Ok-Accepted c =
    let put = c.put-in-Ok-Accepted.ensures in
    record { wrote = rw (accepted (goal.at.returns-in-Ok-Accepted c).In-Ok-Accepted) put; upper_bound = omega arith }
