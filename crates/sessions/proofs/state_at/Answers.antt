use mathlib.Core.Path.{sym}
use Rattle.sessions.specs.Logins.{state_of}
use Rattle.sessions.proofs.States.{state-read}
use Rattle.sessions.proofs.state_at.Goals as goal

-- Three numbers are read where the row of the index stands.

pub returns : goal.returns
unfolding state_of
returns c = sym (state-read _ _ c.requires)
