use Prim.Native.Nat.{◌-◌}
use mathlib.Core.Path.{sym, ◌∙◌}
use lib.ListN.{length, drop}
use Rattle.rows.proofs.Parts.{tail-part}
use borrow.Author.Rules.{rules}
use Rattle.model.specs.Base.{Bytes}
use Rattle.lexical.specs.Orders.{word_bytes, big_endian}
use Rattle.lexical.proofs.Slices.{same_not}
use Rattle.lexical.proofs.Words.{words_same}
use Rattle.lexical.proofs.slice.same_words.Goals as goal

-- The last words differ, or the first words decide, which reach as far as these.

pub returns-then-word : goal.returns-then-word
returns-then-word c =
    let a = c.args.a.now in
    let b = c.args.b.now in
    let at = length a - word_bytes in
    sym (same_not a b (λ (t : Bytes). big_endian word_bytes (drop at t))
    (rw (c.word.ensures, c.word-2.ensures, tail-part at a, tail-part at b) at c.if-word.true))

pub returns : goal.returns
returns c =
    let a = c.args.a.now in
    let b = c.args.b.now in
    let at = length a - word_bytes in
    let f = rw (tail-part at a, tail-part at b) at (sym c.word.ensures ∙ c.if-word.false ∙ c.word-2.ensures) in
    rw (c.word-3.ensures, c.word-4.ensures)
    (words_same word_bytes a b (search rules) (search rules) (λ i. (c.shared_slice_known-1.given i).fits) (λ i. (c.shared_slice_known-2-1.given i).fits)
    at (search rules) (search rules) (search rules) f)
