use Rattle.model.specs.Base.{text}
use Rattle.model.specs.Requests.{read_logout}
use Rattle.requests.proofs.logout_line.Goals as goal

-- `LOGOUT;` is the word.

pub returns : goal.returns
unfolding read_logout text
returns c = λ p. c.ask_line.ensures p tt
