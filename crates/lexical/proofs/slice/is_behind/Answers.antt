use mathlib.Core.Path.{sym, ◌∙◌}
use Rattle.rows.proofs.Parts.{tail-part}
use borrow.Author.Rules.{rules}
use Rattle.model.specs.Fields.{order_key}
use Rattle.lexical.specs.Orders.{word_bytes}
use Rattle.lexical.proofs.Words.{word-behind, second-behind, second-same}
use Rattle.lexical.proofs.slice.is_behind.Goals as goal

-- Short texts byte by byte; else the first words decide, or the second ones, which begin within the first or behind them, or what stands behind these.

pub returns-then-x-y : goal.returns-then-x-y
unfolding order_key
returns-then-x-y c =
    let d = rw (c.word-x.ensures, c.word-y.ensures) at c.if-x-y.true in
    rw (c.word-x.ensures, c.word-y.ensures)
    (word-behind word_bytes _ _ (search rules) (search rules) (λ i. (c.shared_slice_known-1.given i).fits) (λ i. (c.shared_slice_known-2-1.given i).fits) d)

pub returns-then-v-w : goal.returns-then-v-w
unfolding order_key
returns-then-v-w c =
    let a = c.args.a.now in
    let b = c.args.b.now in
    let at = c.min-second.result in
    let e = sym c.word-x.ensures ∙ c.if-x-y.false ∙ c.word-y.ensures in
    rw (c.word-v.ensures, c.word-w.ensures, tail-part at a, tail-part at b)
    (second-behind word_bytes a b (search rules) (search rules) (λ i. (c.shared_slice_known-1.given i).fits) (λ i. (c.shared_slice_known-2-1.given i).fits)
    at (search rules) e (search rules) (search rules)
    (rw (c.word-v.ensures, c.word-w.ensures, tail-part at a, tail-part at b) at c.if-v-w.true))

pub returns : goal.returns
unfolding order_key
returns c =
    let a = c.args.a.now in
    let b = c.args.b.now in
    let at = c.min-second.result in
    let e = sym c.word-x.ensures ∙ c.if-x-y.false ∙ c.word-y.ensures in
    let f = rw (tail-part at a, tail-part at b) at (sym c.word-v.ensures ∙ c.if-v-w.false ∙ c.word-w.ensures) in
    c.is_behind_from-2.ensures ∙ rw (second-same word_bytes a b (search rules) (search rules) (λ i. (c.shared_slice_known-1.given i).fits) (λ i. (c.shared_slice_known-2-1.given i).fits)
    at (search rules) e (search rules) (search rules) f)

pub returns-then-n-lt-WORD : goal.returns-then-n-lt-WORD
unfolding order_key
returns-then-n-lt-WORD c = search rules
