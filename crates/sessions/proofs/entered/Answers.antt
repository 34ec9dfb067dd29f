use mathlib.Core.Path.{◌≡◌, ◌∙◌}
use Prim.Native.Nat.{◌+◌}
use mathlib.Core.Bool.{true}
use native.Mathlib.Numerals.{add-one}
use Rattle.model.specs.Opening.{LoginState}
use Rattle.sessions.specs.Logins.{state_of, with_session, entered}
use Rattle.sessions.proofs.entered.Goals as goal

-- The login state with one login more, which fits below the last, and a session.

-- one more, as the code counts it
one_more : (a : LoginState) → with_session a (a.logins + 1) true ≡ entered a
unfolding with_session entered
one_more a = rw (add-one a.logins)

pub returns : goal.returns
unfolding state_of
returns c = c.set_session.ensures ∙ one_more _
