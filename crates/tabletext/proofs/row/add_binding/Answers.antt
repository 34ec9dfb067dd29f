use Prim.Native.Nat.{◌+◌, ◌*◌, ◌≤◌}
use mathlib.Core.Path.{◌≡◌, sym, ◌∙◌}
use mathlib.Core.Bool.{true}
use native.Mathlib.Omega.{arith}
use Rattle.model.specs.Base.{Bytes, text, any}
use Rattle.model.specs.Names.{is_name, is_plain}
use Rattle.model.specs.Table.{split, under}
use Rattle.model.specs.Tables.{same_binding}
use Rattle.tabletext.proofs.Standing.{user-unknown, user-known, Stands, stands, lines_are, lines_long, lines-counted, lines-joined, lines-kept}
use Rattle.tabletext.proofs.Added.{passed, failed, refuses, plain-named, binding_names, new_binding}
use Rattle.tabletext.proofs.Added.{binding-unnamed, binding-lost, binding-doubled, binding-full, binding-added}
use Rattle.tables.specs.Memory.{user_row, users_bytes}
use Rattle.tabletext.proofs.row.add_binding.Goals.{After-has_binding, After-value_under-arg-6-1, After-value_under-value, Else-has_binding, Else-not-is_key, Else-not-is_name, Else-not-is_plain, In-Some}
use Rattle.tabletext.proofs.row.add_binding.Goals as goal

-- The tests are made in the order of the definition: each exit is at the first that fails, and a line that passes them all joins the lines of its user's row.

-- the line's values under its columns
abbrev val : Bytes → Bytes → Bytes → Bytes
val head line = under (split head) (split line)

-- ── The tests that were passed ──
user : (c : Else-not-is_name) → is_name (val c.args.head.now c.args.line.now (text "user")) ≡ true
unfolding text
user c = rw (← c.value_under-user.ensures) (passed c.is_name.ensures c.if-not-is_name.false)

name : (c : Else-not-is_plain) → is_plain (val c.args.head.now c.args.line.now (text "name")) ≡ true
unfolding text
name c = rw (← c.value_under-name.ensures) (passed c.is_plain.ensures c.if-not-is_plain.false)

names : (c : Else-not-is_key) → binding_names (val c.args.head.now c.args.line.now) ≡ true
unfolding text
names c =
    let user_named : is_name (val c.args.head.now c.args.line.now (text "user")) ≡ true = rw (← c.value_under-user.ensures) (passed c.is_name.ensures c.if-not-is_name.false) in
    let name_plain : is_plain (val c.args.head.now c.args.line.now (text "name")) ≡ true = rw (← c.value_under-name.ensures) (passed c.is_plain.ensures c.if-not-is_plain.false) in
    let value = passed c.is_key.ensures c.if-not-is_key.false in
    rw (user_named, name_plain, ← c.value_under-value.ensures, value)

-- the line's user stands at i
found : (c : In-Some) → Stands c.args.users.now (val c.args.head.now c.args.line.now (text "user")) c.in-Some.i
unfolding text
found c = stands _ (user-known _ c.value_under-user.ensures c.find_user.ensures c.in-Some.is).1

inside : (c : In-Some) → c.in-Some.i * user_row + user_row ≤ users_bytes
inside c = (found c).inside

-- what the search for the line said
has : (c : After-has_binding) (f : Stands c.args.users.now (val c.args.head.now c.args.line.now (text "user")) c.in-Some.i)
    → c.has_binding.result ≡ any (same_binding (new_binding (val c.args.head.now c.args.line.now))) f.user.environment
unfolding text
has c f = rw (lines_are f c.requires.0, ← c.value_under-name.ensures, ← c.value_under-value.ensures) c.has_binding.ensures

pub returns-then-not-is_name-clause-adds : goal.returns-then-not-is_name-clause-adds
unfolding text
returns-then-not-is_name-clause-adds c =
    let bad = failed c.is_name.ensures c.if-not-is_name.true in
    refuses _ (binding-unnamed _ _ (rw (← c.value_under-user.ensures, bad)))

pub returns-then-not-is_plain-clause-adds : goal.returns-then-not-is_plain-clause-adds
unfolding text
returns-then-not-is_plain-clause-adds c =
    let bad = failed c.is_plain.ensures c.if-not-is_plain.true in
    refuses _ (binding-unnamed _ _ (rw (user (goal.at.returns-then-not-is_plain-clause-adds c).Else-not-is_name, ← c.value_under-name.ensures, bad)))

pub returns-then-not-is_key-clause-adds : goal.returns-then-not-is_key-clause-adds
unfolding text
returns-then-not-is_key-clause-adds c =
    let bad = failed c.is_key.ensures c.if-not-is_key.true in
    refuses _ (binding-unnamed _ _ (rw (user (goal.at.returns-then-not-is_key-clause-adds c).Else-not-is_name, name (goal.at.returns-then-not-is_key-clause-adds c).Else-not-is_plain, ← c.value_under-value.ensures, bad)))

pub returns-in_default-clause-adds : goal.returns-in_default-clause-adds
unfolding text
returns-in_default-clause-adds c =
    let lost = user-unknown _ c.value_under-user.ensures c.find_user.ensures c.in_default.is in
    refuses _ (binding-lost _ _ (names (goal.at.returns-in_default-clause-adds c).Else-not-is_key) lost)

pub overflow_mul-start : goal.overflow_mul-start
overflow_mul-start c = omega (arith, inside c)

pub overflow_add-start : goal.overflow_add-start
overflow_add-start c = omega (arith, inside c)

pub overflow_add-end : goal.overflow_add-end
overflow_add-end c = omega (arith, inside c)

pub slice_bounds-has_binding-end : goal.slice_bounds-has_binding-end
slice_bounds-has_binding-end c = omega (arith, inside c, c.requires.0)

pub returns-then-has_binding-clause-adds : goal.returns-then-has_binding-clause-adds
returns-then-has_binding-clause-adds c = refuses _ (binding-doubled _ _ (names (goal.at.returns-then-has_binding-clause-adds c).Else-not-is_key) (found (goal.at.returns-then-has_binding-clause-adds c).In-Some).named (sym (has (goal.at.returns-then-has_binding-clause-adds c).After-has_binding (found (goal.at.returns-then-has_binding-clause-adds c).In-Some)) ∙ c.if-has_binding.true))

pub slice_bounds-row_count-end : goal.slice_bounds-row_count-end
slice_bounds-row_count-end c = omega (arith, inside (goal.at.slice_bounds-row_count-end c).In-Some, c.requires.0)

pub returns-then-row_count-ge-BINDINGS-clause-adds : goal.returns-then-row_count-ge-BINDINGS-clause-adds
returns-then-row_count-ge-BINDINGS-clause-adds c =
    let count = lines-counted (found (goal.at.returns-then-row_count-ge-BINDINGS-clause-adds c).In-Some) c.requires.0 c.row_count.ensures in
    refuses _ (binding-full _ _ (names (goal.at.returns-then-row_count-ge-BINDINGS-clause-adds c).Else-not-is_key) (found (goal.at.returns-then-row_count-ge-BINDINGS-clause-adds c).In-Some).named (sym (has (goal.at.returns-then-row_count-ge-BINDINGS-clause-adds c).After-has_binding (found (goal.at.returns-then-row_count-ge-BINDINGS-clause-adds c).In-Some)) ∙ c.if-has_binding.false) count (omega (arith, c.if-row_count-ge-BINDINGS.true)))

pub slice_bounds-push_binding-end : goal.slice_bounds-push_binding-end
slice_bounds-push_binding-end c = omega (arith, inside (goal.at.slice_bounds-push_binding-end c).In-Some, c.requires.0)

pub push_binding-requires : goal.push_binding-requires
push_binding-requires c =
    (lines_long (found (goal.at.push_binding-requires c).In-Some) c.requires.0, (plain-named _ (passed c.is_plain.ensures c.if-not-is_plain.false)).low)

pub returns : goal.returns
unfolding text
returns c =
    let size = c.requires.0 in
    let put = c.push_binding in
    let count = lines-counted (found (goal.at.returns c).In-Some) size c.row_count.ensures in
    let long = put.auto.lines ∙ lines_long (found (goal.at.returns c).In-Some) size in
    let joined = lines-joined (found (goal.at.returns c).In-Some) size _ long _ count (omega (arith, c.if-row_count-ge-BINDINGS.false)) put.ensures.lines_after in record { adds = binding-added _ _ (names (goal.at.returns c).Else-not-is_key) (found (goal.at.returns c).In-Some).named (sym (has (goal.at.returns c).After-has_binding (found (goal.at.returns c).In-Some)) ∙ c.if-has_binding.false) count (omega (arith, c.if-row_count-ge-BINDINGS.false)) c.value_under-name.ensures c.value_under-value.ensures joined; keeps = lines-kept (found (goal.at.returns c).In-Some) size _ long put.ensures.keeps }
