use mathlib.Core.Path.{◌∙◌}
use borrow.Author.Tests.{le-leb, lt-leb}
use Rattle.lexical.specs.Orders.{first_word}
use Rattle.lexical.proofs.slice.first_word.Goals as goal

-- Shorter than a word, or its first word.

pub returns-then-a-lt-WORD : goal.returns-then-a-lt-WORD
unfolding first_word
returns-then-a-lt-WORD c = (rw (lt-leb _ _ c.if-a-lt-WORD.true), λ i. (c.shared_slice_known-1.given i).fits)

pub returns : goal.returns
unfolding first_word
returns c = (c.word.ensures ∙ rw (le-leb _ _ c.if-a-lt-WORD.false), λ i. (c.shared_slice_known-1.given i).fits)
