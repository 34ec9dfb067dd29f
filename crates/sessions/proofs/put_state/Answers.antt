use mathlib.Core.Path.{◌≡◌}
use lib.ListN.{length}
use borrow.Author.Rules.{rules}
use Rattle.sessions.specs.Logins.{login_numbers, state_of}
use Rattle.sessions.proofs.States.{state-put}
use Rattle.sessions.proofs.put_state.Goals as goal

-- Three numbers are stored where the row of the index stands; the flag is stored as 1 or 0.

pub returns : goal.returns
unfolding state_of
returns c =
    let long : length c.args.logins.now ≡ login_numbers = search rules in
    state-put _ _ c.requires _ _ _ long
