use Prim.Native.Nat.{compare}
use mathlib.Core.Path.{◌≡◌, sym, ap, ◌∙◌}
use borrow.Author.Rules.{rules}
use lib.ListN.{drop}
use Rattle.model.specs.Fields.{and_then, lex, order_key}
use Rattle.lexical.specs.Orders.{order_of, word_bytes}
use Rattle.lexical.proofs.Slices.{compare_same, different-first, cmp-order}
use Rattle.lexical.proofs.Words.{order-words}
use Rattle.lexical.proofs.slice.compare.Goals.{After-word-y}
use Rattle.lexical.proofs.slice.compare.Goals as goal

-- Short texts byte by byte; else the first words decide as numbers, or what stands behind them.

by-words : (c : After-word-y) → order_key c.args.a.now c.args.b.now ≡ and_then (compare c.word-x.result c.word-y.result) (lex compare (drop word_bytes c.args.a.now) (drop word_bytes c.args.b.now))
unfolding order_key
by-words c = rw (c.word-x.ensures, c.word-y.ensures)
    (order-words word_bytes c.args.a.now c.args.b.now (search rules) (search rules) (λ i. (c.type_inv.a i).fits) (λ i. (c.type_inv.b i).fits))

pub returns-then-x-y : goal.returns-then-x-y
returns-then-x-y c =
    c.cmp.ensures ∙ cmp-order _ _ ∙ sym (ap order_of (by-words (goal.at.returns-then-x-y c).After-word-y ∙ different-first _ _ c.if-x-y.true _))

pub returns : goal.returns
unfolding and_then
returns c = c.compare_from-2.ensures ∙ sym (ap order_of (by-words (goal.at.returns c).After-word-y ∙ rw (compare_same _ _ c.if-x-y.false)))

pub returns-then-min-lt-WORD : goal.returns-then-min-lt-WORD
unfolding order_key
returns-then-min-lt-WORD c = search rules
