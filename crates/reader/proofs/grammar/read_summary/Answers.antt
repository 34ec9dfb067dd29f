use mathlib.Core.Path.{◌≡◌, sym}
use Rattle.std.specs.Prelude.{None, Some}
use Rattle.std.proofs.Common.{arith}
use Rattle.std.proofs.lemmas.Result.{err_from_is_err_and}
use Rattle.rows.specs.Positions.{Reads}
use Rattle.rows.proofs.Positions.{run-within}
use Rattle.model.specs.RecordText.{Members}
use Rattle.reader.specs.Tokens.{read_top}
use Rattle.reader.specs.Summaries.{summary}
use Rattle.reader.specs.declared.grammar.RecordError.TheVariants.{NotRecord}
use Rattle.reader.proofs.Mapped.{mapped-bad, mapped-reads}
use Rattle.reader.proofs.Tops.{leaves-top, tree-none, tree-behind, tree_is}
use Rattle.reader.proofs.Readings.{reading-none, reading-twice, reading-fields}
use borrow.Author.Rules.{rules}
use Rattle.reader.proofs.grammar.read_summary.Goals.{In_ok-top}
use Rattle.reader.proofs.grammar.read_summary.Goals as goal

-- The object of a record stands behind the blanks, and the text ends with it.

-- the object stands where `top_at` says, and has so many fields
top : (c : In_ok-top)
    → (m : Members) × Reads read_top c.args.s.now c.run-at.result m c.in_ok-top.top.end × (summary m ≡ (c.in_ok-top.top.fields, c.in_ok-top.top.twice))
top c =
    let some : c.top_at.result ≡ Some c.in_ok-top.top = grind (arith, c.in_ok-top.ensures.value) in
    mapped-reads summary read_top _ _ leaves-top (run-within _ _ _ _ c.run-at.ensures (search rules)).1 _ _ (sym (rw some at c.top_at.ensures))

pub top_at-requires : goal.top_at-requires
top_at-requires c = ((run-within _ _ _ _ c.run-at.ensures (search rules)).1, search rules)

pub returns-in_err-top : goal.returns-in_err-top
returns-in_err-top c =
    let p = err_from_is_err_and c.from_residual.result c.from_residual.ensures.1 in
    let none : c.top_at.result ≡ None = grind (arith, c.in_err-top.ensures.value) in
    let not : c.in_err-top.field-0.0 ≡ NotRecord = grind (arith, c.in_err-top.ensures.value) in
    rw (p.1, p.2, not) (reading-none _ (tree-none _ _ c.run-at.ensures (mapped-bad summary read_top _ _ (sym (rw none at c.top_at.ensures)))))

pub returns-then-top-s : goal.returns-then-top-s
returns-then-top-s c =
    let t = top (goal.at.returns-then-top-s c).In_ok-top in
    reading-none _ (tree-behind _ _ c.run-at.ensures _ _ t.1 (search rules))

pub returns-then-top : goal.returns-then-top
returns-then-top c =
    let t = top (goal.at.returns-then-top c).In_ok-top in
    reading-twice _ _ (tree_is _ _ c.run-at.ensures _ _ t.1 c.if-top-s.false) _ _ t.2 c.if-top.true

pub returns : goal.returns
returns c =
    let t = top (goal.at.returns c).In_ok-top in
    reading-fields _ _ (tree_is _ _ c.run-at.ensures _ _ t.1 c.if-top-s.false) _ _ t.2 c.if-top.false
