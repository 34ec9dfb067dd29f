use Rattle.sessions.specs.Logins.{state_of, with_session, closed}
use Rattle.sessions.proofs.closed.Goals as goal

-- The login state with its own count and no session.

pub returns : goal.returns
unfolding state_of with_session closed
returns c = c.set_session.ensures
