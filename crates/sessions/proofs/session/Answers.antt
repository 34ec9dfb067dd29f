use mathlib.Core.Path.{ap}
use native.Mathlib.Omega.{arith}
use borrow.Author.Tests.{not-true, not-false}
use Rattle.sessions.specs.Logins.{logins_in, state_of}
use Rattle.sessions.specs.declared.NumberParts.{NumberParts}
use Rattle.std.specs.Prelude.{Some}
use Rattle.sessions.proofs.States.{session-none, session-below, session-closed, session-other, session-open}
use Rattle.sessions.proofs.session.Goals as goal

-- Behind the last user that was counted nobody has a session; before it the login state says whether one is open, and at which count.

pub returns-then-row_count-i : goal.returns-then-row_count-i
returns-then-row_count-i c =
    let a = c.args in
    rw (session-none _ (logins_in a.logins.now) a.n c.split_number-parts.ensures c.row_count.ensures (omega arith))

pub state_at-state-requires : goal.state_at-state-requires
state_at-state-requires c =
    let a = c.args in
    session-below _ (logins_in a.logins.now) a.n c.split_number-parts.ensures c.row_count.ensures (omega arith)

pub returns-then-not-state : goal.returns-then-not-state
unfolding state_of
returns-then-not-state c =
    let a = c.args in
    rw (session-closed _ (logins_in a.logins.now) a.n c.split_number-parts.ensures c.row_count.ensures c.if-row_count-i.false c.state_at-state.ensures (not-true _ c.if-not-state.true))

pub returns-then-state-parts : goal.returns-then-state-parts
unfolding state_of
returns-then-state-parts c =
    let a = c.args in
    let is_open = not-false _ c.if-not-state.false in
    rw (session-other _ (logins_in a.logins.now) a.n c.split_number-parts.ensures c.row_count.ensures c.if-row_count-i.false c.state_at-state.ensures is_open (λ e. omega arith))

pub returns : goal.returns
unfolding state_of
returns c =
    let a = c.args in
    let is_open = not-false _ c.if-not-state.false in
    let found = session-open _ (logins_in a.logins.now) a.n c.split_number-parts.ensures c.row_count.ensures c.if-row_count-i.false c.state_at-state.ensures is_open (omega arith) in
    rw found (ap (λ (q : NumberParts). Some q.index) c.split_number-parts.ensures)
