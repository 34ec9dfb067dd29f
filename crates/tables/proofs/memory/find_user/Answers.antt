use mathlib.Core.Path.{refl, ◌∙◌}
use native.Mathlib.Omega.{arith}
use Rattle.layout.proofs.Used.{used-fit}
use Rattle.model.specs.Limits.{max_users}
use borrow.Author.Rules.{rules}
use Rattle.model.specs.Tables.{user_named}
use Rattle.tables.specs.Memory.{user_row}
use Rattle.tables.proofs.Users.{named-over, named-stop, named_more, named-next}
use Rattle.tables.proofs.memory.find_user.Goals as goal

-- Up to the first empty row each turn leaves the search from the next row on.

pub loop-i-init : goal.loop-i-init
unfolding user_named
loop-i-init c = (search rules, refl)

pub returns-then-users-at-eq0 : goal.returns-then-users-at-eq0
returns-then-users-at-eq0 c =
    let l = c.loop-i in
    rw (l.invariant.1, named-stop _ _ l.i c.loop-i-test.true l.invariant.0 c.if-users-at-eq0.true)

pub returns-then-same_bytes : goal.returns-then-same_bytes
returns-then-same_bytes c =
    let l = c.loop-i in
    let turn = named-next _ _ l.i c.loop-i-test.true l.invariant.0 c.if-users-at-eq0.false c.name_from.ensures c.same_bytes.ensures in
    rw (l.invariant.1, turn, c.if-same_bytes.true)

pub loop-i-preserved : goal.loop-i-preserved
loop-i-preserved c =
    let l = c.loop-i in
    let turn = named-next _ _ l.i c.loop-i-test.true l.invariant.0 c.if-users-at-eq0.false c.name_from.ensures c.same_bytes.ensures in
    let more = named_more c.args.name.now _ l.i c.loop-i-test.true l.invariant.0 c.if-users-at-eq0.false in
    (omega arith, l.invariant.1 ∙ turn ∙ rw c.if-same_bytes.false)

pub returns : goal.returns
returns c =
    let l = c.loop-i in
    let a = c.args in
    rw (l.invariant.1, named-over a.name.now a.users.now l.i (omega (arith, used-fit user_row max_users c.args.users.now)))
