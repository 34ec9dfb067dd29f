use mathlib.Core.Path.{sym, ◌∙◌}
use Rattle.values.proofs.Values.{word-is, word-not}
use Rattle.values.proofs.value.word_at.Goals as goal

-- Where the word stands there, the value ends behind it.

pub returns-then-starts : goal.returns-then-starts
returns-then-starts c =
    let asks = c.requires in
    (word-is _ _ asks.0 _ _ (sym c.starts.ensures ∙ c.if-starts.true), asks.1)

pub returns : goal.returns
returns c = (word-not _ _ _ _ (sym c.starts.ensures ∙ c.if-starts.false), tt)
