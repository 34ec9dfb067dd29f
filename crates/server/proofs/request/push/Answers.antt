use mathlib.Core.Path.{refl}
use native.Mathlib.Omega.{arith}
use borrow.Author.Rules.{rules}
use lib.ListN.{length}
use Rattle.model.specs.Serving.{room_for}
use Rattle.values.specs.Scalars.{value_in}
use Rattle.std.proofs.lemmas.Result.{err_from_is_err_and}
use Rattle.server.proofs.Pushed.{push-short, push-ruled, push-below, push-place, push-done}
use Rattle.server.proofs.Replied.{left-refused}
use Rattle.server.proofs.request.push.Goals as goal

-- A list that is too short: 15. Else the ruling decides; nothing is changed before it is known.

pub returns-then-list-lt-LIST_ROOM : goal.returns-then-list-lt-LIST_ROOM
unfolding room_for
returns-then-list-lt-LIST_ROOM c b =
    let a = c.args in
    let value = value_in a.line.now a.value in
    left-refused (push-short a.tables.now a.logins.now a.fields.now a.n a.path.now (length a.list.now) c.if-list-lt-LIST_ROOM.true value) _ _ b _ refl

pub mask_for-mask-requires : goal.mask_for-mask-requires
mask_for-mask-requires c =
    push-place _ _ _ _ _ c.decide.ensures c.in_ok-ruling.was

pub put_state-requires : goal.put_state-requires
put_state-requires c =
    push-below _ _ _ _ _ c.decide.ensures c.in_ok-ruling.was

pub store_value_at-requires : goal.store_value_at-requires
store_value_at-requires c =
    let given = c.requires in
    let place = push-place _ _ _ _ _ c.decide.ensures c.in_ok-ruling.was in
    record { path_len = (search rules, omega (arith, given.short), given.inside); path_value = (given.keyed, place) }

pub returns-in_err-ruling : goal.returns-in_err-ruling
unfolding room_for
returns-in_err-ruling c b =
    let long = c.if-list-lt-LIST_ROOM.false in
    let p = err_from_is_err_and c.from_residual.result c.from_residual.ensures.1 in
    rw (p.1, p.2) (left-refused (push-ruled _ _ _ _ _ c.decide.ensures c.in_err-ruling.was _ long _) _ _ b _ refl)

pub returns : goal.returns
unfolding room_for
returns c b =
    let long = c.if-list-lt-LIST_ROOM.false in
    let given = c.requires in
    let stored = c.store_value_at.ensures.table_after in
    push-done _ _ _ _ _ c.decide.ensures c.in_ok-ruling.was b _ long _ _ c.mask_for-mask.ensures c.put_receivers-told.ensures c.put_state.ensures _ stored c.store_value_at.ensures.table_after_2 c.store_value_at.ensures.table_after_3 given.keyed given.proper _ _ given.stands
