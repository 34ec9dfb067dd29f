use Prim.Native.Nat.{◌≤◌}
use mathlib.Core.Path.{◌≡◌, refl, sym, ◌∙◌}
use Rattle.std.specs.Prelude.{Some}
use native.Mathlib.Omega.{arith}
use lib.ListN.{length, drop}
use Rattle.rows.proofs.Parts.{tail-part}
use Rattle.model.specs.Base.{text, after, check, ◌>>◌}
use Rattle.model.specs.Requests.{read_login}
use Rattle.requests.proofs.ByPositions.{word-ends, other_word, UserEnds, user-last, user-ends}
use Rattle.requests.proofs.login_line.Goals.{Else-cut-line, In_ok-from}
use Rattle.requests.proofs.login_line.Goals as goal

-- The line is cut where the user ends, and both sides are names: each exit is what one of these tests says of the model's reader.

-- the line begins with `LOGIN;`, and the user ends inside of it
begins : (c : In_ok-from)
    → let line = c.args.line.now in
    let from = c.in_ok-from.from in
    (after (text "LOGIN;") line ≡ Some (drop from line)) × (from ≤ length line)
unfolding text
begins c = word-ends _ _ _ c.behind.ensures c.in_ok-from.was

ends : (c : Else-cut-line)
    → UserEnds c.args.line.now c.in_ok-from.from c.until-cut.result
unfolding text
ends c =
    let (word, long) = word-ends _ _ _ c.behind.ensures c.in_ok-from.was in
    user-ends _ _ word _ c.until-cut.ensures long c.if-cut-line.false

pub returns-in_err-from : goal.returns-in_err-from
unfolding read_login text
returns-in_err-from c = λ p. rw c.from_residual.ensures (record { asks = other_word (text "LOGIN;") _ _ c.in_err-from.ensures; stands = tt })

pub until-cut-requires : goal.until-cut-requires
until-cut-requires c = (begins c).1

pub returns-then-cut-line : goal.returns-then-cut-line
returns-then-cut-line c = λ p. record { asks = user-last _ _ (begins (goal.at.returns-then-cut-line c).In_ok-from).0 _ c.until-cut.ensures c.if-cut-line.true; stands = tt }

pub slice_bounds-is_name-count : goal.slice_bounds-is_name-count
slice_bounds-is_name-count c = (ends c).starts

pub slice_bounds-is_name-start : goal.slice_bounds-is_name-start
slice_bounds-is_name-start c = (ends c).starts

pub slice_bounds-is_name-end : goal.slice_bounds-is_name-end
slice_bounds-is_name-end c = omega (arith, ends c)

pub returns-then-not-is_name : goal.returns-then-not-is_name
unfolding check ◌>>◌
returns-then-not-is_name c = λ p. record { asks = (ends (goal.at.returns-then-not-is_name c).Else-cut-line).read (sym c.is_name.ensures ∙ c.if-not-is_name.true) refl; stands = tt }

pub overflow_add-key : goal.overflow_add-key
overflow_add-key c = omega (arith, ends (goal.at.overflow_add-key c).Else-cut-line)

pub slice_bounds-is_name-count-2 : goal.slice_bounds-is_name-count-2
slice_bounds-is_name-count-2 c = omega (arith, ends (goal.at.slice_bounds-is_name-count-2 c).Else-cut-line)

pub slice_bounds-is_name-start-2 : goal.slice_bounds-is_name-start-2
slice_bounds-is_name-start-2 c = omega (arith, ends (goal.at.slice_bounds-is_name-start-2 c).Else-cut-line)

pub returns-then-not-is_name-2 : goal.returns-then-not-is_name-2
unfolding check ◌>>◌
returns-then-not-is_name-2 c =
    let user = sym c.is_name.ensures ∙ c.if-not-is_name.false in
    let key = sym (rw tail-part at c.is_name-2.ensures) ∙ c.if-not-is_name-2.true in
    λ p. record { asks = (ends (goal.at.returns-then-not-is_name-2 c).Else-cut-line).read user key; stands = tt }

pub returns : goal.returns
unfolding check ◌>>◌
returns c =
    let e = ends (goal.at.returns c).Else-cut-line in
    let user = sym c.is_name.ensures ∙ c.if-not-is_name.false in
    let key = sym (rw tail-part at c.is_name-2.ensures) ∙ c.if-not-is_name-2.false in
    λ p. record { asks = e.read user key; stands = (e.starts, e.to) }
