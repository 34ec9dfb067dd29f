use native.Mathlib.Numerals.{add-one}
use Rattle.model.specs.Serving.{creating}
use Rattle.sessions.specs.Logins.{state_of}
use Rattle.pushes.proofs.creating.Goals as goal

-- The count goes up by one, and the rest stays.

pub returns : goal.returns
unfolding state_of creating
returns c = rw add-one
