use mathlib.Core.Path.{◌≡◌, sym}
use mathlib.Core.Bool.{true}
use Rattle.std.specs.Prelude.{Some}
use native.Mathlib.Omega.{arith}
use borrow.Author.Rules.{rules}
use Rattle.model.specs.Base.{Bytes, text}
use Rattle.model.specs.Names.{is_name}
use Rattle.model.specs.Paths.{steps_of}
use Rattle.model.specs.Table.{split, under}
use Rattle.model.specs.Tables.{access_of}
use Rattle.model.proofs.Spelling.{name-named}
use Rattle.steps.specs.Steps.{steps_in}
use Rattle.tables.specs.Memory.{access_is}
use Rattle.tabletext.proofs.Added.{passed, failed, refuses, access-told, access-byte, rules-counted}
use Rattle.tabletext.proofs.Added.{rule-unnamed, rule-bad, rule-unread, rule-full, rule-added}
use Rattle.tabletext.proofs.row.add_rule.Goals.{Else-not-is_name, In-Some, In-Some-read_steps}
use Rattle.tabletext.proofs.row.add_rule.Goals as goal

-- The tests are made in the order of the definition: each exit is at the first that fails, and a line that passes them all finds room.

-- the line's values under its columns
abbrev val : Bytes → Bytes → Bytes → Bytes
val head line = under (split head) (split line)

-- ── The tests that were passed ──
role : (c : Else-not-is_name) → is_name (val c.args.head.now c.args.line.now (text "role")) ≡ true
unfolding text
role c = rw (← c.value_under-role.ensures) (passed c.is_name.ensures c.if-not-is_name.false)

access : (c : In-Some) → access_of (val c.args.head.now c.args.line.now (text "access")) ≡ Some (access_is c.in-Some.kind)
unfolding text
access c = access-told c.value_under.ensures c.access.ensures c.in-Some.is

path : (c : In-Some-read_steps) → steps_of (val c.args.head.now c.args.line.now (text "path")) ≡ Some (steps_in c.in-Some-read_steps.path)
unfolding text
path c = rw (← c.value_under-2.ensures) (sym c.in-Some-read_steps.ensures.0)

pub returns-then-not-is_name-clause-adds : goal.returns-then-not-is_name-clause-adds
unfolding text
returns-then-not-is_name-clause-adds c =
    let bad = failed c.is_name.ensures c.if-not-is_name.true in
    refuses _ (rule-unnamed _ _ (rw (← c.value_under-role.ensures, bad)))

pub returns-in_default-clause-adds : goal.returns-in_default-clause-adds
unfolding text
returns-in_default-clause-adds c =
    let bad = access-told c.value_under.ensures c.access.ensures c.in_default.is in
    refuses _ (rule-bad _ _ (role (goal.at.returns-in_default-clause-adds c).Else-not-is_name) bad)

pub returns-in_default-read_steps-clause-adds : goal.returns-in_default-read_steps-clause-adds
unfolding text
returns-in_default-read_steps-clause-adds c =
    let bad = sym c.in_default-read_steps.ensures.0 in
    refuses _ (rule-unread _ _ (role (goal.at.returns-in_default-read_steps-clause-adds c).Else-not-is_name) (access (goal.at.returns-in_default-read_steps-clause-adds c).In-Some) (rw (← c.value_under-2.ensures) bad))

pub returns-then-row_count-ge-RULES-clause-adds : goal.returns-then-row_count-ge-RULES-clause-adds
returns-then-row_count-ge-RULES-clause-adds c =
    refuses _ (rule-full _ _ (role (goal.at.returns-then-row_count-ge-RULES-clause-adds c).Else-not-is_name) (access (goal.at.returns-then-row_count-ge-RULES-clause-adds c).In-Some) (path (goal.at.returns-then-row_count-ge-RULES-clause-adds c).In-Some-read_steps) (rules-counted _ c.row_count.ensures) (omega (arith, c.if-row_count-ge-RULES.true)))

pub slice_bounds-push_rule-end : goal.slice_bounds-push_rule-end
slice_bounds-push_rule-end c = search rules

pub push_rule-requires : goal.push_rule-requires
push_rule-requires c = (search rules, (name-named _ (passed c.is_name.ensures c.if-not-is_name.false)).low, omega (arith, slice_bounds-push_rule-end c))

pub returns : goal.returns
unfolding text
returns c =
    let push = c.push_rule in
    let kind = access-byte c.in-Some.kind in
    let lines = rw (c.from.ensures, kind) at push.ensures.policy_after in
    record {
      adds = rule-added _ _ (role (goal.at.returns c).Else-not-is_name) (access (goal.at.returns c).In-Some) (path (goal.at.returns c).In-Some-read_steps) (rules-counted _ c.row_count.ensures) (omega (arith, c.if-row_count-ge-RULES.false)) c.value_under-role.ensures lines;
      keeps = push.ensures.keeps c.in-Some-read_steps.ensures.1 (rw (c.from.ensures, kind));
    }
