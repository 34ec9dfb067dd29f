use mathlib.Core.Path.{sym, ◌∙◌}
use Rattle.lexical.proofs.Slices.{after-yes, after-no}
use Rattle.requests.proofs.behind.Goals as goal

-- The line goes on behind the word if it begins with it.

pub returns-then-starts : goal.returns-then-starts
returns-then-starts c = after-yes _ _ (sym c.starts.ensures ∙ c.if-starts.true)

pub returns-else-starts : goal.returns-else-starts
returns-else-starts c = after-no _ _ (sym c.starts.ensures ∙ c.if-starts.false)
