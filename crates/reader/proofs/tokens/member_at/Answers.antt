use native.Mathlib.Omega.{arith}
use mathlib.Core.Path.{sym}
use Rattle.rows.specs.Positions.{Reads}
use Rattle.rows.proofs.Positions.{none-placed, reads-placed}
use Rattle.model.specs.RecordText.{read_key}
use Rattle.reader.specs.Tokens.{read_token, key_answer}
use Rattle.reader.specs.declared.tokens.Token.TheVariants.{Colon}
use Rattle.reader.proofs.Spaced.{key-leaves, token-moves, token-absent, token-stands, token-other, member-no-key, member-no-colon, member_is}
use borrow.Author.Rules.{rules}
use Rattle.reader.proofs.tokens.member_at.Goals.{In_ok-key}
use Rattle.reader.proofs.tokens.member_at.Goals as goal

-- A key by `key_at` and a colon by `token_at`, one behind the other, are a member.

-- the key stands where `key_at` says
key : (c : In_ok-key) → let k = c.in_ok-key.key in Reads read_key c.args.s.now c.args.at (key_answer c.args.s.now k).0 k.next
key c = reads-placed _ _ _ key-leaves c.requires _ _ (sym c.in_ok-key.ensures.result_value)

pub returns-in_err-key-clause-result_value : goal.returns-in_err-key-clause-result_value
returns-in_err-key-clause-result_value c =
    rw c.from_residual.ensures (member-no-key _ _ (none-placed _ _ _ (sym c.in_err-key.ensures.result_value)))

pub returns-in_err-next-clause-result_value : goal.returns-in_err-next-clause-result_value
returns-in_err-next-clause-result_value c =
    rw c.from_residual-in_err-next.ensures (member-no-colon _ _ _ _ (key (goal.at.returns-in_err-next-clause-result_value c).In_ok-key) (token-absent _ _ c.in_err-next.ensures Colon))

pub returns-in_default : goal.returns-in_default
returns-in_default c =
    let k = key (goal.at.returns-in_default c).In_ok-key in
    record { result_value = member-no-colon _ _ _ _ k (token-other _ _ _ _ c.in_ok-next.ensures k.to Colon (search rules)); member_in_text = tt }

-- a colon stands behind it
colon : (c : goal.In-Colon-default) → Reads (read_token 0x3A) c.args.s.now c.in_ok-key.key.next tt c.in_ok-next.field-0.1
colon c =
    let k = reads-placed _ _ _ key-leaves c.requires _ _ (sym c.in_ok-key.ensures.result_value) in
    rw c.in-Colon-default.is-0 at (token-stands _ _ _ _ c.in_ok-next.ensures k.to)

pub returns-clause-result_value : goal.returns-clause-result_value
returns-clause-result_value c =
    member_is _ _ _ _ (key (goal.at.returns-clause-result_value c).In_ok-key) _ (colon c)

pub returns-clause-member_in_text : goal.returns-clause-member_in_text
returns-clause-member_in_text c =
    let (a, b, d, e) = c.in_ok-key.ensures.key_in_text in
    (a, b, omega (arith, d, token-moves _ _ _ _ (colon c)), (colon c).to)
