use Prim.Native.Nat.{◌+◌, ◌-◌, ◌≤◌}
use mathlib.Core.Path.{◌≡◌, refl, sym}
use Rattle.std.specs.Prelude.{Option, Some}
use native.Mathlib.Omega.{arith}
use lib.ListN.{length, take, drop}
use Rattle.model.specs.Base.{text, after, number, ◌>>=◌}
use Rattle.model.specs.Limits.{max_session}
use Rattle.model.specs.Values.{Value, value_of}
use Rattle.model.specs.Requests.{read_push}
use Rattle.paths.specs.Layout.{path_in}
use Rattle.paths.proofs.PathBytes.{keys-encoded}
use Rattle.lexical.proofs.Decimals.{number-some}
use Rattle.requests.proofs.ByPositions.{word-ends, other_word, push_of, PathEnds, session-last, session-ends, path-last, path-ends, push-stands}
use Rattle.requests.proofs.ByPositions.{whole-bad, whole-more, whole_is}
use Rattle.requests.proofs.push_line.Goals.{Else-a-line, Else-b-line, In_ok-slot, In_ok-from, In_ok-session}
use Rattle.requests.proofs.push_line.Goals as goal

-- The line is cut where the session and the path end; each exit is what the number, the path or the value says of the model's reader.

-- the line begins with `PUSH;`, and session and path end inside of it
begins : (c : In_ok-from)
    → let line = c.args.line.now in
    let from = c.in_ok-from.from in
    (after (text "PUSH;") line ≡ Some (drop from line)) × (from ≤ length line)
unfolding text
begins c = word-ends _ _ _ c.behind.ensures c.in_ok-from.was

session-inside : (c : Else-a-line)
    → let line = c.args.line.now in
    (c.in_ok-from.from ≤ c.until-a.result) × (c.until-a.result + 1 ≤ length line)
unfolding text
session-inside c =
    let (word, long) = word-ends _ _ _ c.behind.ensures c.in_ok-from.was in
    omega (arith, session-ends _ _ word _ c.until-a.ensures long c.if-a-line.false)

ends : (c : Else-b-line)
    → PathEnds c.args.line.now c.in_ok-from.from c.until-a.result c.until-b.result
unfolding text
ends c =
    let (word, long) = word-ends _ _ _ c.behind.ensures c.in_ok-from.was in
    path-ends _ _ word _ c.until-a.ensures long c.if-a-line.false _ c.until-b.ensures c.if-b-line.false

-- the session is a number
session : (c : In_ok-session)
    → let from = c.in_ok-from.from in
    number max_session (take (c.until-a.result - from) (drop from c.args.line.now)) ≡ Some c.in_ok-session.session
session c = sym c.in_ok-session.ensures

-- and the path is one: what is read goes by the value
by_value : (c : In_ok-slot) {v : Option Value}
    → let line = c.args.line.now in
    value_of (drop (c.until-b.result + 1) line) ≡ v
    → push_of (Some c.in_ok-session.session) (Some (path_in c.in_ok-slot.slot)) v ≡ read_push line
unfolding text
by_value c v =
    let (word, long) = word-ends _ _ _ c.behind.ensures c.in_ok-from.was in
    let e = path-ends _ _ word _ c.until-a.ensures long c.if-a-line.false _ c.until-b.ensures c.if-b-line.false in
    e.read (sym c.in_ok-session.ensures) (sym c.in_ok-slot.ensures.0) v

pub returns-in_err-from : goal.returns-in_err-from
unfolding read_push text
returns-in_err-from c = rw c.from_residual.ensures (record { reads_as = record { asks = other_word (text "PUSH;") _ _ c.in_err-from.ensures; stands = tt }; slot_after = refl })

pub until-a-requires : goal.until-a-requires
until-a-requires c = (begins c).1

pub returns-then-a-line : goal.returns-then-a-line
returns-then-a-line c = record { reads_as = record { asks = session-last _ _ (begins (goal.at.returns-then-a-line c).In_ok-from).0 _ c.until-a.ensures c.if-a-line.true; stands = tt }; slot_after = refl }

pub overflow_add-at : goal.overflow_add-at
overflow_add-at c = omega (arith, session-inside c)

pub until-b-requires : goal.until-b-requires
until-b-requires c = (session-inside c).1

pub returns-then-b-line : goal.returns-then-b-line
returns-then-b-line c =
    let (word, long) = begins (goal.at.returns-then-b-line c).In_ok-from in
    record { reads_as = record { asks = path-last _ _ word _ c.until-a.ensures long c.if-a-line.false _ c.until-b.ensures c.if-b-line.true; stands = tt }; slot_after = refl }

pub slice_bounds-number-count : goal.slice_bounds-number-count
slice_bounds-number-count c = (ends c).starts

pub slice_bounds-number-start : goal.slice_bounds-number-start
slice_bounds-number-start c = (ends c).starts

pub slice_bounds-number-end : goal.slice_bounds-number-end
slice_bounds-number-end c = omega (arith, ends c)

pub returns-in_err-session : goal.returns-in_err-session
unfolding push_of ◌>>=◌
returns-in_err-session c =
    rw c.from_residual-in_err-session.ensures
    (record { reads_as = record { asks = (ends (goal.at.returns-in_err-session c).Else-b-line).read (sym c.in_err-session.ensures) refl refl; stands = tt }; slot_after = refl })

pub slice_bounds-read_path-count : goal.slice_bounds-read_path-count
slice_bounds-read_path-count c = omega (arith, ends (goal.at.slice_bounds-read_path-count c).Else-b-line)

pub slice_bounds-read_path-start : goal.slice_bounds-read_path-start
slice_bounds-read_path-start c = omega (arith, ends (goal.at.slice_bounds-read_path-start c).Else-b-line)

pub slice_bounds-read_path-end : goal.slice_bounds-read_path-end
slice_bounds-read_path-end c = omega (arith, ends (goal.at.slice_bounds-read_path-end c).Else-b-line)

pub returns-in_err-slot : goal.returns-in_err-slot
unfolding push_of ◌>>=◌
returns-in_err-slot c =
    rw c.from_residual-in_err-slot.ensures
    (record { reads_as = record { asks = (ends (goal.at.returns-in_err-slot c).Else-b-line).read (session (goal.at.returns-in_err-slot c).In_ok-session) (sym c.in_err-slot.ensures.0) refl; stands = tt }; slot_after = refl })

pub overflow_add-b : goal.overflow_add-b
overflow_add-b c = omega (arith, ends (goal.at.overflow_add-b c).Else-b-line)

pub value_at-requires : goal.value_at-requires
value_at-requires c = omega (arith, ends (goal.at.value_at-requires c).Else-b-line)

pub returns-in_err-value : goal.returns-in_err-value
unfolding push_of ◌>>=◌
returns-in_err-value c =
    rw c.from_residual-in_err-value.ensures
    (record { reads_as = record { asks = by_value (goal.at.returns-in_err-value c).In_ok-slot (whole-bad _ _ _ c.value_at.ensures.result_value c.in_err-value.was); stands = tt }; slot_after = refl })

pub returns-then-end-line : goal.returns-then-end-line
unfolding push_of ◌>>=◌
returns-then-end-line c =
    let e = ends (goal.at.returns-then-end-line c).Else-b-line in
    let is = c.in_ok-value.was in
    record { reads_as = record { asks = by_value (goal.at.returns-then-end-line c).In_ok-slot (whole-more _ _ _ c.value_at.ensures.result_value (omega arith) _ _ is (λ at-end. omega (arith, c.if-end-line.true))); stands = tt }; slot_after = refl }

pub overflow_cast-result : goal.overflow_cast-result
overflow_cast-result c =
    record { fits = omega (arith, (number-some _ _ _ (session (goal.at.overflow_cast-result c).In_ok-session)).2) }

pub returns : goal.returns
unfolding push_of ◌>>=◌
returns c =
    let e = ends (goal.at.returns c).Else-b-line in
    let is = c.in_ok-value.was in
    let path = sym c.in_ok-slot.ensures.0 in
    let value = whole_is _ _ _ c.value_at.ensures.result_value (omega arith) _ _ is (omega (arith, c.if-end-line.false)) in
    let inside = c.in_ok-value.ensures.answer_in_text in
    record { reads_as = record { asks = by_value (goal.at.returns c).In_ok-slot value; stands = (inside, push-stands _ _ _ _ _ _ e path value) }; slot_after = keys-encoded _ c.in_ok-slot.ensures.1 }
