-- Serving by the masks on document 01's example, by computation from the definitions alone (document 02, request 2); specs/MaskedCases has its states, pushes and copies.
use Rattle.std.specs.Prelude.{◌≡◌, refl, true}
use Rattle.model.specs.Base.{all}
use Rattle.model.specs.Cases.{club_state}
use Rattle.masks.specs.Readers.{policy_masks}
use Rattle.server.specs.MaskedCases.{Opened, given, passes, cases}

pub policy_gives : policy_masks club_state.tables club_state.fields ≡ given
unfolding Opened given
policy_gives = refl

pub cases_hold : all passes cases ≡ true
unfolding Opened cases passes
cases_hold = refl
