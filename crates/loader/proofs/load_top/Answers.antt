use Rattle.std.proofs.Common.{arith}
use mathlib.Core.Path.{◌∙◌}
use mathlib.Core.List.{[]}
use Rattle.rows.specs.Positions.{Reads}
use Rattle.paths.specs.Layout.{path_in}
use Rattle.model.specs.Limits.{max_depth}
use Rattle.layout.specs.Layout.{counted, key_row, CanonicalName}
use Rattle.layout.proofs.Canonical.{canonical-uncounted}
use Rattle.reader.specs.Tokens.{read_token}
use Rattle.reader.specs.declared.tokens.Token.TheVariants.{Open, Close}
use Rattle.reader.proofs.Spaced.{token-absent, token-stands, token-other, token-not}
use Rattle.reader.proofs.Tops.{top-unopened, top-empty, top-object}
use Rattle.loader.proofs.Loading.{none-loaded, emptied, emptied-zeros}
use borrow.Author.Rules.{rules}
use Rattle.loader.proofs.load_top.Goals.{In-Open-default}
use Rattle.loader.proofs.load_top.Goals as goal

-- The table is emptied; an object whose closing brace stands right behind the opening one adds nothing, and any other has members.

-- the brace stands where `token_at` says
opened : (c : In-Open-default) → Reads (read_token 0x7B) c.args.s.now c.args.at tt c.in_ok-open.field-0.1
opened c = rw c.in-Open-default.is-0 at (token-stands _ _ _ _ c.in_ok-open.ensures c.requires.0)

pub returns-in_err-open : goal.returns-in_err-open
returns-in_err-open c =
    record { result_after = rw c.from_residual.ensures (top-unopened _ _ _ (token-absent _ _ c.in_err-open.ensures Open)); canonical_fields = emptied-zeros _ }

pub returns-in_default : goal.returns-in_default
returns-in_default c =
    record { result_after = top-unopened _ _ _ (token-other _ _ _ _ c.in_ok-open.ensures c.requires.0 Open (search rules)); canonical_fields = emptied-zeros _ }

pub token_at-requires-2 : goal.token_at-requires-2
token_at-requires-2 c = (opened c).to

pub returns-in-Some-Close-default : goal.returns-in-Some-Close-default
returns-in-Some-Close-default c =
    let None = emptied c.args.table.now ∙ none-loaded [] [] in
    let o = opened (goal.at.returns-in-Some-Close-default c).In-Open-default in
    let k = c.in-Some-Close-default in
    let closed = rw k.field-0-0-is at (token-stands _ _ _ _ k.ensures o.to) in
    record { result_after = rw None (top-empty _ _ _ _ o _ closed); canonical_fields = emptied-zeros _ }

pub load_object-requires : goal.load_object-requires
unfolding path_in counted
load_object-requires c = search rules

pub returns : goal.returns
unfolding path_in counted
returns c =
    let None = emptied c.args.table.now in
    let o = opened (goal.at.returns c).In-Open-default in
    let not-closed = token-not _ _ c.token_at-2.result c.token_at-2.ensures o.to Close (λ e i. grind arith) in
    let fields = c.load_object.ensures.result_after in
    let keeps = c.load_object.ensures.keeps in
    record { result_after = rw None at fields ∙ top-object _ _ _ _ o not-closed; canonical_fields = λ zeros. keeps (canonical-uncounted (CanonicalName key_row) key_row max_depth) (emptied-zeros _ zeros) }
