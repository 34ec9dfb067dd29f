use mathlib.Core.Path.{◌≡◌, refl, ap, ◌∙◌}
use Rattle.requests.specs.declared.Ask.{Ask}
use Rattle.requests.specs.declared.Request.TheVariants.{InSession}
use Rattle.server.proofs.Pushed.{line_refused, asks, asked-stands, asked-short, line-decided, push-asked, slot-asked}
use Rattle.server.proofs.Agree.{line-masked, line-served}
use Rattle.server.proofs.Replied.{left-refused}
use Rattle.server.proofs.request.request.Goals.{In-InSession}
use Rattle.server.proofs.request.request.Goals as goal

-- The line is taken apart; what it asks for is answered by the function for it.

-- what a session asks for
asks-for : (q : In-InSession) {k : Ask} → q.in-InSession.ask ≡ k → q.in-Some.asked ≡ InSession q.in-InSession.n k
asks-for q is = q.in-InSession.is ∙ ap (InSession q.in-InSession.n) is

pub returns-in_default : goal.returns-in_default
returns-in_default c =
    record {
      served_by_masks = line-masked _ _ _ _ _ _ (line_refused _ _ c.parse.ensures.reads_as c.in_default.is _ _ _ _) (left-refused refl _ _ _ _ refl);
      served_by_policy = line-served _ _ _ _ _ _ refl (line_refused _ _ c.parse.ensures.reads_as c.in_default.is _ _ _ _) (left-refused refl _ _ _ _ refl);
    }

pub login-requires : goal.login-requires
login-requires c =
    asked-stands _ _ c.parse.ensures.reads_as c.in-Some.is c.in-Login.is

pub push-requires : goal.push-requires
push-requires c =
    let parsed = c.parse.ensures.reads_as in
    let slot = c.parse.ensures.slot_after in
    let is = c.in-Some.is in
    let kind = asks-for (goal.at.push-requires c).In-InSession c.in-Push.is in
    let (keyed, valid) = push-asked _ _ (asks _ _ parsed is kind) in
    let (inside, stands) = asked-stands _ _ parsed is kind in
    record { short = asked-short _ _ parsed is kind; inside = inside; stands = stands; keyed = keyed; proper = (slot-asked _ _ is kind slot, valid) }

pub returns-in-Login : goal.returns-in-Login
returns-in-Login c =
    let a = c.args in
    record {
      served_by_masks = line-masked _ _ _ _ _ _ (line-decided _ _ c.parse.ensures.reads_as c.in-Some.is c.in-Login.is _ _ _ _) (c.login.ensures a.fields.now a.buffer.now a.list.now);
      served_by_policy = line-served _ _ _ _ _ _ refl (line-decided _ _ c.parse.ensures.reads_as c.in-Some.is c.in-Login.is _ _ _ _) (c.login.ensures a.fields.now a.buffer.now a.list.now);
    }

pub returns-in-Get : goal.returns-in-Get
returns-in-Get c =
    let a = c.args in
    let is = asks-for (goal.at.returns-in-Get c).In-InSession c.in-Get.is in
    record {
      served_by_masks = line-masked _ _ _ _ _ _ (line-decided _ _ c.parse.ensures.reads_as c.in-Some.is is _ _ _ _) (c.get.ensures a.line.now a.list.now);
      served_by_policy = line-served _ _ _ _ _ _ refl (line-decided _ _ c.parse.ensures.reads_as c.in-Some.is is _ _ _ _) (c.get.ensures a.line.now a.list.now);
    }

pub returns-in-Push : goal.returns-in-Push
returns-in-Push c =
    let a = c.args in
    let is = asks-for (goal.at.returns-in-Push c).In-InSession c.in-Push.is in
    record {
      served_by_masks = line-masked _ _ _ _ _ _ (line-decided _ _ c.parse.ensures.reads_as c.in-Some.is is _ _ _ _) (c.push.ensures a.buffer.now);
      served_by_policy = line-served _ _ _ _ _ _ refl (line-decided _ _ c.parse.ensures.reads_as c.in-Some.is is _ _ _ _) (c.push.ensures a.buffer.now);
    }

pub returns-in-Logout : goal.returns-in-Logout
returns-in-Logout c =
    let a = c.args in
    let is = asks-for (goal.at.returns-in-Logout c).In-InSession c.in-Logout.is in
    record {
      served_by_masks = line-masked _ _ _ _ _ _ (line-decided _ _ c.parse.ensures.reads_as c.in-Some.is is _ _ _ _) (c.logout.ensures a.line.now a.fields.now a.buffer.now a.list.now);
      served_by_policy = line-served _ _ _ _ _ _ refl (line-decided _ _ c.parse.ensures.reads_as c.in-Some.is is _ _ _ _) (c.logout.ensures a.line.now a.fields.now a.buffer.now a.list.now);
    }
