use mathlib.Core.Path.{◌≡◌, ap}
use mathlib.Core.Bool.{Bool, true}
use native.Mathlib.Omega.{arith}
use borrow.Author.Rules.{rules}
use Rattle.sessions.specs.Logins.{logins_in, state_of}
use Rattle.model.specs.Refusals.{done}
use Rattle.sessions.proofs.States.{found_below, login-unknown, wrong-key, has-session, logins-ended, login-enters}
use Rattle.sessions.proofs.login.Goals as goal

-- Nobody of that name, or another key: 12. A session is open: 13. No login is left: 18. Else the state of one login more is stored, and its number answered.

pub returns-in_default : goal.returns-in_default
returns-in_default c =
    let a = c.args in
    let decided = login-unknown _ _ c.in_default.is c.find_user.ensures (logins_in a.logins.now) a.key.now in
    record { answers = rw decided; leaves = rw decided; numbers = rw decided }

pub overflow_mul-i : goal.overflow_mul-i
overflow_mul-i c = omega (arith, found_below _ _ c.in-Some.is c.find_user.ensures)

pub overflow_add-i : goal.overflow_add-i
overflow_add-i c = omega (arith, found_below _ _ c.in-Some.is c.find_user.ensures)

pub name_from-requires : goal.name_from-requires
name_from-requires c = omega (arith, found_below _ _ c.in-Some.is c.find_user.ensures)

pub returns-then-not-same_bytes : goal.returns-then-not-same_bytes
returns-then-not-same_bytes c =
    let ls = logins_in c.args.logins.now in
    let name = c.name_from.ensures in
    let decided = wrong-key _ _ c.in-Some.is c.find_user.ensures ls _ name c.same_bytes.ensures c.if-not-same_bytes.true in
    record { answers = rw decided; leaves = rw decided; numbers = rw decided }

pub state_at-state-requires : goal.state_at-state-requires
state_at-state-requires c =
    found_below _ _ c.in-Some.is c.find_user.ensures

pub returns-then-state : goal.returns-then-state
unfolding state_of
returns-then-state c =
    let is_open : ◌≡◌ {A = Bool} _ true = c.if-state.true in
    let ls = logins_in c.args.logins.now in
    let name = c.name_from.ensures in
    let right = c.if-not-same_bytes.false in
    let decided = has-session _ _ c.in-Some.is c.find_user.ensures ls _ name c.same_bytes.ensures right c.state_at-state.ensures is_open in
    record { answers = rw decided; leaves = rw decided; numbers = rw decided }

pub returns-then-state-ge-MAX_LOGINS : goal.returns-then-state-ge-MAX_LOGINS
unfolding state_of
returns-then-state-ge-MAX_LOGINS c =
    let ls = logins_in c.args.logins.now in
    let name = c.name_from.ensures in
    let right = c.if-not-same_bytes.false in
    let state = c.state_at-state.ensures in
    let decided = logins-ended _ _ c.in-Some.is c.find_user.ensures ls _ name c.same_bytes.ensures right state (search rules) c.if-state-ge-MAX_LOGINS.true in
    record { answers = rw decided; leaves = rw decided; numbers = rw decided }

pub put_state-requires : goal.put_state-requires
put_state-requires c =
    found_below _ _ c.in-Some.is c.find_user.ensures

pub number-requires : goal.number-requires
number-requires c =
    found_below _ _ c.in-Some.is c.find_user.ensures

pub returns : goal.returns
unfolding state_of
returns c =
    let ls = logins_in c.args.logins.now in
    let name = c.name_from.ensures in
    let right = c.if-not-same_bytes.false in
    let state = c.state_at-state.ensures in
    let enters = c.entered-next.ensures in
    let decided = login-enters _ _ c.in-Some.is c.find_user.ensures ls _ name c.same_bytes.ensures right state c.if-state.false c.if-state-ge-MAX_LOGINS.false enters in
    let stored = c.put_state.ensures in
    record { answers = rw decided (ap done c.number.ensures); leaves = rw decided stored.states; numbers = rw decided stored.numbers }
