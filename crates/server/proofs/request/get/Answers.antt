use Prim.Native.Nat.{◌≤◌}
use mathlib.Core.Path.{◌≡◌, refl, ap, ◌∙◌}
use native.Mathlib.Omega.{arith}
use lib.ListN.{length}
use borrow.Author.Rules.{rules}
use Rattle.model.specs.Serving.{room_for}
use Rattle.std.proofs.lemmas.Result.{err_from_is_err_and}
use Rattle.refusals.specs.declared.Refusal.TheVariants.{NoSession}
use Rattle.sessions.proofs.Known.{none-handed, session-inside, session-below}
use Rattle.server.proofs.Replied.{left-refused, unwritten, shown-refused, shown-done, get-unknown, get-shows}
use Rattle.server.proofs.request.get.Goals.{After-slice_known-3-1, then-buffer-head+else-buffer-length, else-buffer-head}
use Rattle.server.proofs.request.get.Goals as goal

-- No session of the number: 14. Else the copy of the session's user is written if it fits: there is room for the longest record, or it was measured.

-- where the ways meet, the buffer is as it was lent, and the copy that is then written fits
met : (c : After-slice_known-3-1)
    → let buffer = c.args.buffer.now in
    (c.if-buffer-head.buffer ≡ buffer) × (c.put_copy-length-2.result ≤ length buffer)
met c =
    let copy = c.put_copy-length-2.ensures in
    let head = c.put_head-head.ensures.wrote in
    let same = unwritten _ _ head in
    elim c.if-buffer-head.branch [
      | then-buffer-head+else-buffer-length w ↦
          let measured = w.put_copy-length.ensures.wrote in
          let kept = w.buffer-is ∙ unwritten _ _ measured ∙ same in
          (kept, omega (arith, ap length kept, ap length w.buffer-is, measured.0, c.put_copy-length-2.ensures.wrote.0, w.if-buffer-length.false))
      | else-buffer-head w ↦ (w.buffer-is ∙ same, omega (arith, ap length same, w.if-buffer-head.false, head.0, c.put_copy-length-2.ensures.upper_bound))
    ]

pub returns-in_err-i : goal.returns-in_err-i
unfolding room_for
returns-in_err-i c text l =
    let a = c.args in
    let none = c.in_err-i.ensures.ok_part in
    let p = err_from_is_err_and c.from_residual.result c.from_residual.ensures.1 in
    rw (none-handed NoSession none c.in_err-i.ensures.value p.1 p.2)
    (left-refused (get-unknown a.tables.now a.logins.now a.fields.now a.n c.session.ensures none _) text _ _ l refl)

pub row_at-user-requires : goal.row_at-user-requires
row_at-user-requires c =
    session-inside _ _ _ c.session.ensures c.in_ok-i.ensures.ok_part (search rules)

pub put_copy-length-requires : goal.put_copy-length-requires
put_copy-length-requires c =
    (search rules, search rules, search rules, session-below _ _ _ c.session.ensures c.in_ok-i.ensures.ok_part)

pub returns-then-buffer-length : goal.returns-then-buffer-length
unfolding room_for
returns-then-buffer-length c text l =
    let a = c.args in
    let kept = unwritten _ _ c.put_copy-length.ensures.wrote ∙ unwritten _ _ c.put_head-head.ensures.wrote in
    let shows = get-shows a.tables.now a.logins.now a.fields.now a.n c.session.ensures c.in_ok-i.ensures.ok_part c.row_at-user.ensures.0 c.policy_of-policy.ensures.0 (length a.buffer.now) in
    shown-refused _ a.buffer.now shows text _ l kept c.put_copy-length.ensures.wrote c.if-buffer-length.true

pub put_copy-length-requires-2 : goal.put_copy-length-requires-2
put_copy-length-requires-2 c =
    (search rules, search rules, search rules, session-below _ _ _ c.session.ensures c.in_ok-i.ensures.ok_part)

pub shape_of-buffer : goal.shape_of-buffer
shape_of-buffer c = c.put_copy-length-2.auto.out ∙ ap length (met c).0

pub returns : goal.returns
unfolding room_for
returns c text l =
    let a = c.args in
    let shows = get-shows a.tables.now a.logins.now a.fields.now a.n c.session.ensures c.in_ok-i.ensures.ok_part c.row_at-user.ensures.0 c.policy_of-policy.ensures.0 (length a.buffer.now) in
    shown-done _ a.buffer.now shows text _ l (met c).0 c.put_copy-length-2.ensures.wrote (met c).1
