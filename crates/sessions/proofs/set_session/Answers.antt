use mathlib.Core.Path.{refl}
use Rattle.sessions.specs.Logins.{state_of, with_session}
use Rattle.sessions.proofs.set_session.Goals as goal

pub returns : goal.returns
unfolding state_of with_session
returns c = refl
