use Prim.Native.Nat.{ℕ, ◌≤◌}
use mathlib.Core.Path.{◌≡◌, sym, ◌∙◌}
use Rattle.std.specs.Prelude.{Option, Some}
use native.Mathlib.Omega.{arith}
use lib.ListN.{length, drop}
use Rattle.rows.proofs.Parts.{tail-part}
use Rattle.model.specs.Base.{after, ◌>>=◌}
use Rattle.model.specs.Requests.{Ask, in_session, session_of, read_ask}
use Rattle.lexical.proofs.Decimals.{number-some}
use Rattle.requests.proofs.ByPositions.{word-ends, other_word}
use Rattle.requests.proofs.ask_line.Goals.{After-number, In_ok-from}
use Rattle.requests.proofs.ask_line.Goals as goal

-- What stands behind the word is a number of at most the greatest u32, which its cast keeps.

-- the line begins with the word
begins : (c : In_ok-from)
    → let args = c.args in
    let from = c.in_ok-from.from in
    (after args.word.now args.line.now ≡ Some (drop from args.line.now)) × (from ≤ length args.line.now)
begins c = word-ends _ _ _ c.behind.ensures c.in_ok-from.was

-- and what is read goes by the number
reads : (c : After-number) {v : Option ℕ} (a : Ask) → c.number.result ≡ v
    → let args = c.args in
    (v >>= λ n. Some (in_session n a)) ≡ read_ask args.word.now a args.line.now
unfolding read_ask session_of ◌>>=◌
reads c a is = rw ((word-ends _ _ _ c.behind.ensures c.in_ok-from.was).0, sym (rw tail-part at c.number.ensures) ∙ is)

pub returns-in_err-from : goal.returns-in_err-from
unfolding read_ask
returns-in_err-from c = λ p _. rw c.from_residual.ensures (record { asks = other_word _ _ _ c.in_err-from.ensures; stands = tt })

pub slice_bounds-number-count : goal.slice_bounds-number-count
slice_bounds-number-count c = (begins c).1

pub slice_bounds-number-start : goal.slice_bounds-number-start
slice_bounds-number-start c = (begins c).1

pub returns-in_err-session : goal.returns-in_err-session
unfolding ◌>>=◌
returns-in_err-session c = λ p _. rw c.from_residual-in_err-session.ensures (record { asks = reads (goal.at.returns-in_err-session c).After-number _ c.in_err-session.was; stands = tt })

pub overflow_cast-result : goal.overflow_cast-result
overflow_cast-result c = record { fits = omega (arith, (number-some _ _ _ (sym c.in_ok-session.ensures)).2) }

pub returns : goal.returns
unfolding ◌>>=◌
returns c = λ p at. record { asks = reads (goal.at.returns c).After-number _ c.in_ok-session.was; stands = at }
