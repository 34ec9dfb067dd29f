use mathlib.Core.Path.{sym}
use native.Mathlib.Omega.{arith}
use borrow.Author.Rules.{rules}
use Rattle.record.specs.Slots.{fields_in}
use Rattle.sessions.specs.Logins.{logins_in, state_of}
use Rattle.std.proofs.lemmas.Result.{err_from_is_err_and}
use Rattle.refusals.specs.declared.Refusal.TheVariants.{NoSession}
use Rattle.sessions.proofs.Known.{session-below, session-inside, none-handed}
use Rattle.pushes.proofs.Ruled.{unknown-session, no-right, stored-held, quota-reached, stored-new}
use Rattle.pushes.proofs.decide.Goals as goal

-- The answers in the order of the refusals: of the session, of the right, of the quota; else the field is stored where the search ended.

pub returns-in_err-i : goal.returns-in_err-i
returns-in_err-i c =
    let a = c.args in
    let none = c.in_err-i.ensures.ok_part in
    let p = err_from_is_err_and c.from_residual.result c.from_residual.ensures.1 in
    rw (none-handed NoSession none c.in_err-i.ensures.value p.1 p.2) (record {
      answers = λ v. sym (unknown-session _ (logins_in a.logins.now) a.n c.session.ensures (fields_in a.fields.now) _ v none);
      place = tt;
    })

pub row_at-user-requires : goal.row_at-user-requires
row_at-user-requires c =
    let a = c.args in
    omega (arith, session-inside _ (logins_in a.logins.now) a.n c.session.ensures c.in_ok-i.ensures.ok_part (search rules))

pub returns-then-not-may_write : goal.returns-then-not-may_write
returns-then-not-may_write c =
    let a = c.args in
    record {
      answers = λ v. sym (no-right _ (logins_in a.logins.now) a.n c.session.ensures c.in_ok-i.ensures.ok_part c.row_at-user.ensures.0 c.policy_of.ensures.0 _ c.may_write.ensures (fields_in a.fields.now) v c.if-not-may_write.true);
      place = tt;
    }

pub state_at-state-requires : goal.state_at-state-requires
state_at-state-requires c =
    let a = c.args in
    search (rules, session-below _ (logins_in a.logins.now) a.n c.session.ensures c.in_ok-i.ensures.ok_part)

pub returns-in_default : goal.returns-in_default
returns-in_default c =
    let a = c.args in
    record {
      answers = λ v. sym (stored-held _ (logins_in a.logins.now) a.n c.session.ensures c.in_ok-i.ensures.ok_part c.row_at-user.ensures.0 c.policy_of.ensures.0 _ c.may_write.ensures (fields_in a.fields.now) v
          c.if-not-may_write.false c.state_at-state.ensures c.find-place.ensures c.in_default.is);
      place = c.find-place.ensures;
    }

pub returns-then-small_quota-state : goal.returns-then-small_quota-state
unfolding state_of
returns-then-small_quota-state c =
    let a = c.args in
    record {
      answers = λ v. sym (quota-reached _ (logins_in a.logins.now) a.n c.session.ensures c.in_ok-i.ensures.ok_part c.row_at-user.ensures.0 c.policy_of.ensures.0 _ c.may_write.ensures (fields_in a.fields.now) v
          c.if-not-may_write.false c.state_at-state.ensures c.find-place.ensures c.in-Before.is c.small_quota.ensures.0 c.if-small_quota-state.true);
      place = tt;
    }

pub returns : goal.returns
unfolding state_of
returns c =
    let a = c.args in
    record {
      answers = λ v. sym (stored-new _ (logins_in a.logins.now) a.n c.session.ensures c.in_ok-i.ensures.ok_part c.row_at-user.ensures.0 c.policy_of.ensures.0 _ c.may_write.ensures (fields_in a.fields.now) v
          c.if-not-may_write.false c.state_at-state.ensures c.find-place.ensures c.in-Before.is c.small_quota.ensures.0
          c.if-small_quota-state.false c.creating.ensures);
      place = c.find-place.ensures;
    }
