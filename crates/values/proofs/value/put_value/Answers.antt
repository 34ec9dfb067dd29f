use Rattle.model.specs.Base.{text}
use Rattle.model.specs.Values.{quoted, value_text}
use Rattle.values.proofs.value.put_value.Goals.{In-Text}
use Rattle.values.proofs.value.put_value.Goals as goal

-- Each variant writes its value's text; a string stands between quotes.

pub returns-in-True : goal.returns-in-True
unfolding value_text text
returns-in-True c = rw c.in-True.is c.put.ensures

pub returns-in-False : goal.returns-in-False
unfolding value_text text
returns-in-False c = rw c.in-False.is c.put-in-False.ensures

pub returns-in-Text : goal.returns-in-Text
unfolding value_text quoted text
returns-in-Text c = rw c.in-Text.is c.put_quoted.ensures
