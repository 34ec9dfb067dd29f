use Rattle.model.specs.Base.{text}
use Rattle.model.specs.Requests.{read_get}
use Rattle.requests.proofs.get_line.Goals as goal

-- `GET;` is the word.

pub returns : goal.returns
unfolding read_get text
returns c = λ p. c.ask_line.ensures p tt
