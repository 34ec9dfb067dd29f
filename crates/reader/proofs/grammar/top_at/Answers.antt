use mathlib.Core.Path.{◌≡◌, ◌∙◌}
use Rattle.std.proofs.Common.{arith}
use Rattle.rows.specs.Positions.{Reads, placed}
use Rattle.model.specs.Limits.{max_depth}
use Rattle.model.specs.RecordText.{read_object, count, twice}
use Rattle.reader.specs.Tokens.{read_token, mapped, read_top}
use Rattle.reader.specs.Summaries.{summary}
use Rattle.reader.specs.declared.tokens.Token.TheVariants.{Open, Close}
use Rattle.reader.proofs.Spaced.{token-absent, token-stands, token-other, token-not}
use Rattle.reader.proofs.Tops.{top-unopened, top-empty, top-object}
use borrow.Author.Rules.{rules}
use Rattle.reader.proofs.grammar.top_at.Goals.{In-Open-default, Joined-token_at}
use Rattle.reader.proofs.grammar.top_at.Goals as goal

-- An object whose closing brace stands right behind the opening one is empty; any other has members.

-- the brace stands where `token_at` says
opened : (c : In-Open-default) → Reads (read_token 0x7B) c.args.s.now c.args.at tt c.in_ok-open.field-0.1
opened c = rw c.in-Open-default.is-0 at (token-stands _ _ _ _ c.in_ok-open.ensures c.requires.0)

-- no brace closes it there, so that it has members
with-members : (c : Joined-token_at) → placed (mapped summary (read_object max_depth)) c.args.s.now c.args.at ≡ placed (mapped summary read_top) c.args.s.now c.args.at
with-members c =
    let o = rw c.in-Open-default.is-0 at (token-stands _ _ _ _ c.in_ok-open.ensures c.requires.0) in
    top-object _ _ _ _ o (token-not _ _ c.token_at-2.result c.token_at-2.ensures o.to Close
    (λ e i. grind arith))

pub returns-in_err-open : goal.returns-in_err-open
returns-in_err-open c = rw c.from_residual.ensures (top-unopened _ _ _ (token-absent _ _ c.in_err-open.ensures Open))

pub returns-in_default : goal.returns-in_default
returns-in_default c = top-unopened _ _ _ (token-other _ _ _ _ c.in_ok-open.ensures c.requires.0 Open (search rules))

pub token_at-requires-2 : goal.token_at-requires-2
token_at-requires-2 c = (opened c).to

pub returns-in-Some-Close-default : goal.returns-in-Some-Close-default
unfolding summary count twice
returns-in-Some-Close-default c =
    let o = opened (goal.at.returns-in-Some-Close-default c).In-Open-default in
    let k = c.in-Some-Close-default in
    top-empty summary _ _ _ o _ (rw k.field-0-0-is at (token-stands _ _ _ _ k.ensures o.to))

pub returns-then-s-le-SHORT_TEXT : goal.returns-then-s-le-SHORT_TEXT
returns-then-s-le-SHORT_TEXT c = c.object_at.ensures.result_value ∙ with-members (goal.at.returns-then-s-le-SHORT_TEXT c).Joined-token_at

pub returns : goal.returns
returns c = c.object_at-2.ensures.result_value ∙ with-members (goal.at.returns c).Joined-token_at
