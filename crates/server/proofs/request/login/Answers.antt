use Rattle.std.specs.Prelude.{Ok, Err}
use Rattle.std.proofs.lemmas.Result.{err_from_is_err_and}
use Rattle.rows.proofs.Parts.{tail-part}
use Rattle.server.proofs.Replied.{login-left}
use Rattle.server.proofs.request.login.Goals as goal

-- The answer of the login states is passed on.

pub returns-in_err-n : goal.returns-in_err-n
returns-in_err-n c fields b l =
    let a = c.args in
    let p = err_from_is_err_and c.from_residual.result c.from_residual.ensures.1 in
    rw (p.1, p.2) (rw tail-part at (login-left a.tables.now a.logins.now _ _ _ (Err c.in_err-n.field-0.0) c.login.ensures c.in_err-n.was fields b l a.line.now))

pub returns : goal.returns
returns c fields b l =
    let a = c.args in
    rw tail-part at (login-left a.tables.now a.logins.now _ _ _ (Ok c.in_ok-n.n) c.login.ensures c.in_ok-n.was fields b l a.line.now)
