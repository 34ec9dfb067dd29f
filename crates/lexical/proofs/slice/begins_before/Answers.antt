use mathlib.Core.Path.{◌≡◌, sym, ◌∙◌}
use lib.Dec.{ltb}
use lib.ListN.{length}
use borrow.Author.Tests.{le-leb, lt-leb}
use Rattle.model.proofs.Lists.{never}
use Rattle.lexical.specs.Orders.{word_bytes, begins_before}
use Rattle.lexical.proofs.Words.{begins-behind}
use Rattle.lexical.proofs.slice.begins_before.Goals as goal

-- It has a word, which is less.

pub returns-then-b-lt-WORD : goal.returns-then-b-lt-WORD
unfolding begins_before
returns-then-b-lt-WORD c = record { value = rw (lt-leb _ _ c.if-b-lt-WORD.true); b_value = λ a b e h. never (sym h) }

pub returns : goal.returns
unfolding begins_before
returns c =
    let s = c.args in
    let less : ltb c.word.result s.x ≡ begins_before s.b.now s.x = rw (c.word.ensures, le-leb word_bytes (length s.b.now) c.if-b-lt-WORD.false) in
    record { value = less; b_value = λ a b e h. begins-behind a _ b (λ i. (c.shared_slice_known-1.given i).fits) (rw (← e) (sym less ∙ h)) }
