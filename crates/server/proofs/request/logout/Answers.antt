use mathlib.Core.Path.{refl}
use native.Mathlib.Omega.{arith}
use Rattle.std.proofs.lemmas.Result.{err_from_is_err_and}
use Rattle.refusals.specs.declared.Refusal.TheVariants.{NoSession}
use Rattle.sessions.proofs.Known.{none-handed, session-below}
use Rattle.server.proofs.Replied.{left-refused, logout-unknown, logout-left}
use Rattle.server.proofs.request.logout.Goals as goal

-- No session of the number: 14. Else the login state of the session's user is closed and put back.

pub returns-in_err-i : goal.returns-in_err-i
returns-in_err-i c text fields b l =
    let a = c.args in
    let none = c.in_err-i.ensures.ok_part in
    let p = err_from_is_err_and c.from_residual.result c.from_residual.ensures.1 in
    rw (none-handed NoSession none c.in_err-i.ensures.value p.1 p.2)
    (left-refused (logout-unknown a.tables.now a.logins.now fields a.n c.session.ensures none _) text _ b l refl)

pub state_at-requires : goal.state_at-requires
state_at-requires c = omega (arith, session-below _ _ _ c.session.ensures c.in_ok-i.ensures.ok_part)

pub put_state-requires : goal.put_state-requires
put_state-requires c =
    omega (arith, session-below _ _ _ c.session.ensures c.in_ok-i.ensures.ok_part)

pub returns : goal.returns
returns c text fields b l =
    let a = c.args in
    logout-left a.tables.now a.logins.now fields a.n c.session.ensures c.in_ok-i.ensures.ok_part c.state_at.ensures c.closed-left.ensures c.put_state.ensures text b l
