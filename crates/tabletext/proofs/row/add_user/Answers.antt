use mathlib.Core.Path.{◌≡◌, sym, ◌∙◌}
use mathlib.Core.Bool.{true, false}
use Rattle.std.specs.Prelude.{None, Some}
use native.Mathlib.Omega.{arith}
use Rattle.model.specs.Base.{Bytes, text, ◌≐◌, number}
use Rattle.model.specs.Limits.{max_quota}
use Rattle.model.specs.Names.{is_name}
use Rattle.model.specs.Table.{split, under}
use Rattle.model.specs.Tables.{every_role, user_named}
use Rattle.model.proofs.Spelling.{name-named}
use Rattle.lexical.proofs.Decimals.{number-some}
use Rattle.tables.specs.Memory.{users_in}
use Rattle.tabletext.proofs.Standing.{user-known, user-unknown}
use Rattle.tabletext.proofs.Added.{passed, failed, refuses, users-counted, user_names}
use Rattle.tabletext.proofs.Added.{user-unnamed, user-every, user-bad, user-doubled, user-full, user-added}
use Rattle.tabletext.proofs.row.add_user.Goals.{After-is_name-2, Else-not-is_name, Else-not-is_name-2, Else-not-is_name-3, Else-same, In-Some, In_default-find_user}
use Rattle.tabletext.proofs.row.add_user.Goals as goal

-- The tests are made in the order of the definition: each exit is at the first that fails, and a line that passes them all finds room.

-- the line's values under its columns
abbrev val : Bytes → Bytes → Bytes → Bytes
val head line = under (split head) (split line)

-- ── The tests that were passed ──
name : (c : Else-not-is_name) → is_name (val c.args.head.now c.args.line.now (text "user")) ≡ true
unfolding text
name c = rw (← c.value_under-name.ensures) (passed c.is_name.ensures c.if-not-is_name.false)

role : (c : Else-not-is_name-2) → is_name (val c.args.head.now c.args.line.now (text "role")) ≡ true
unfolding text
role c = rw (← c.value_under-role.ensures) (passed c.is_name-2.ensures c.if-not-is_name-2.false)

names : (c : Else-not-is_name-3) → user_names (val c.args.head.now c.args.line.now) ≡ true
unfolding text
names c =
    let user_named : is_name (val c.args.head.now c.args.line.now (text "user")) ≡ true = rw (← c.value_under-name.ensures) (passed c.is_name.ensures c.if-not-is_name.false) in
    let role_named : is_name (val c.args.head.now c.args.line.now (text "role")) ≡ true = rw (← c.value_under-role.ensures) (passed c.is_name-2.ensures c.if-not-is_name-2.false) in
    let key = passed c.is_name-3.ensures c.if-not-is_name-3.false in
    rw (user_named, role_named, ← c.value_under-key.ensures, key)

one-role : (c : Else-same) → (val c.args.head.now c.args.line.now (text "role") ≐ every_role) ≡ false
unfolding text every_role
one-role c = rw (← c.value_under-role.ensures) (sym c.same.ensures ∙ c.if-same.false)

quota : (c : In-Some) → number max_quota (val c.args.head.now c.args.line.now (text "allowance")) ≡ Some c.in-Some.quota
unfolding text
quota c = rw (← c.value_under.ensures) (sym c.in-Some.ensures)

new : (c : In_default-find_user) → user_named (val c.args.head.now c.args.line.now (text "user")) (users_in c.args.users.now) ≡ None
unfolding text
new c = user-unknown _ c.value_under-name.ensures c.find_user.ensures c.in_default-find_user.is

pub returns-then-not-is_name-clause-adds : goal.returns-then-not-is_name-clause-adds
unfolding text
returns-then-not-is_name-clause-adds c =
    let bad = failed c.is_name.ensures c.if-not-is_name.true in
    refuses _ (user-unnamed _ _ (rw (← c.value_under-name.ensures, bad)))

pub returns-then-not-is_name-2-clause-adds : goal.returns-then-not-is_name-2-clause-adds
unfolding text
returns-then-not-is_name-2-clause-adds c =
    let bad = failed c.is_name-2.ensures c.if-not-is_name-2.true in
    refuses _ (user-unnamed _ _ (rw (name (goal.at.returns-then-not-is_name-2-clause-adds c).Else-not-is_name, ← c.value_under-role.ensures, bad)))

pub returns-then-not-is_name-3-clause-adds : goal.returns-then-not-is_name-3-clause-adds
unfolding text
returns-then-not-is_name-3-clause-adds c =
    let bad = failed c.is_name-3.ensures c.if-not-is_name-3.true in
    refuses _ (user-unnamed _ _ (rw (name (goal.at.returns-then-not-is_name-3-clause-adds c).Else-not-is_name, role (goal.at.returns-then-not-is_name-3-clause-adds c).Else-not-is_name-2, ← c.value_under-key.ensures, bad)))

pub returns-then-same-clause-adds : goal.returns-then-same-clause-adds
unfolding text every_role
returns-then-same-clause-adds c = refuses _ (user-every _ _ (names (goal.at.returns-then-same-clause-adds c).Else-not-is_name-3) (rw (← c.value_under-role.ensures) (sym c.same.ensures ∙ c.if-same.true)))

pub returns-in_default-clause-adds : goal.returns-in_default-clause-adds
unfolding text
returns-in_default-clause-adds c =
    let bad = sym c.number.ensures ∙ c.in_default.is in
    refuses _ (user-bad _ _ (names (goal.at.returns-in_default-clause-adds c).Else-not-is_name-3) (one-role (goal.at.returns-in_default-clause-adds c).Else-same) (rw (← c.value_under.ensures) bad))

pub find_user-requires : goal.find_user-requires
find_user-requires c = omega (arith, c.requires.0)

pub returns-in-Some-find_user-clause-adds : goal.returns-in-Some-find_user-clause-adds
unfolding text
returns-in-Some-find_user-clause-adds c =
    refuses _ (user-doubled _ _ (names (goal.at.returns-in-Some-find_user-clause-adds c).Else-not-is_name-3) (one-role (goal.at.returns-in-Some-find_user-clause-adds c).Else-same) (quota (goal.at.returns-in-Some-find_user-clause-adds c).In-Some)
    (user-known _ {n = val c.args.head.now c.args.line.now (text "user")} c.value_under-name.ensures c.find_user.ensures c.in-Some-find_user.is).1)

pub row_count-requires : goal.row_count-requires
row_count-requires c = (omega arith, omega (arith, c.requires.0))

pub returns-then-row_count-ge-USERS-clause-adds : goal.returns-then-row_count-ge-USERS-clause-adds
returns-then-row_count-ge-USERS-clause-adds c =
    refuses _ (user-full _ _ (names (goal.at.returns-then-row_count-ge-USERS-clause-adds c).Else-not-is_name-3) (one-role (goal.at.returns-then-row_count-ge-USERS-clause-adds c).Else-same) (quota (goal.at.returns-then-row_count-ge-USERS-clause-adds c).In-Some) (new (goal.at.returns-then-row_count-ge-USERS-clause-adds c).In_default-find_user) (users-counted _ c.row_count.ensures) (omega (arith, c.if-row_count-ge-USERS.true)))

pub overflow_cast-quota : goal.overflow_cast-quota
overflow_cast-quota c = record { fits = omega (arith, (number-some _ _ _ (quota (goal.at.overflow_cast-quota c).In-Some)).2) }

pub push_user-requires : goal.push_user-requires
push_user-requires c = (omega (arith, c.requires.0), (name-named _ (passed c.is_name.ensures c.if-not-is_name.false)).low)

pub returns : goal.returns
unfolding text
returns c =
    let push = c.push_user in
    record {
      adds = user-added _ _ (names (goal.at.returns c).Else-not-is_name-3) (one-role (goal.at.returns c).Else-same) (quota (goal.at.returns c).In-Some) (new (goal.at.returns c).In_default-find_user) (users-counted _ c.row_count.ensures) (omega (arith, c.if-row_count-ge-USERS.false))
          c.value_under-name.ensures c.value_under-role.ensures c.value_under-key.ensures push.ensures.users_after;
      keeps = push.ensures.keeps;
    }
