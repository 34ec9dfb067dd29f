-- Tables written as their meaning is: no byte of them says anything else.
use Prim.Native.Nat.{ℕ, ◌+◌, ◌*◌, ◌<◌}
use mathlib.Core.Path.{◌≡◌, sym, ap, ap₂, ◌∙◌, subst⁻¹}
use mathlib.Core.List.{◌++◌}
use native.Mathlib.Omega.{arith}
use lib.ListN.{length, take, drop, length-replicate, take-append-drop, replicate-append-replicate}
use lib.Seq.{take-add, take_at, drop_at}
use Rattle.model.specs.Base.{Bytes}
use Rattle.model.specs.Limits.{max_bindings, max_users, max_rules}
use Rattle.model.proofs.Lists.{all-imp}
use Rattle.layout.specs.Layout.{in_use, name_row, encode_table, Canonical, CanonicalTable}
use Rattle.layout.proofs.Tight.{zeros}
use Rattle.layout.proofs.Canonical.{table-encoded, canonical-none}
use Rattle.steps.specs.Environments.{binding_row, binding_in, bindings_in, encode_binding, encode_bindings}
use Rattle.tables.specs.Memory.{user_row, rule_row, lines_at, users_bytes, tables_bytes, user_in, users_in, rule_in, policy_in, tables_in}
use Rattle.tables.specs.Memory.{encode_user, encode_rule, encode_tables, CanonicalUser, CanonicalTables}
use Rattle.tables.proofs.Users.{users-first}

-- four parts, one behind the other, and the rest are all there is
parts : (a b c d : ℕ) (s : Bytes) → take a s ++ take b (drop a s) ++ take c (drop (a + b) s) ++ take d (drop (a + b + c) s) ++ drop (a + b + c + d) s ≡ s
parts a b c d s = rw (← take-add a b s, ← take-add (a + b) c s, ← take-add (a + b + c) d s) (take-append-drop (a + b + c + d) s)

-- so a user's row whose parts are written as their meaning is, is so whole
pub user-encoded : (row : Bytes) → CanonicalUser row → Canonical encode_user user_in row
unfolding encode_user user_in encode_bindings bindings_in
user-encoded row h =
    let lines = table-encoded encode_binding binding_in binding_row max_bindings (drop lines_at row) h.environment in
    rw (← h.name, ← h.role, ← h.key, ← h.quota, ← lines) (sym (parts name_row name_row name_row 2 row))

-- and so are the tables
pub tables-encoded : (s : Bytes) → CanonicalTables s → Canonical encode_tables tables_in s
unfolding encode_tables tables_in users_in policy_in
tables-encoded s h =
    let users = all-imp CanonicalUser (Canonical encode_user user_in) user-encoded (in_use user_row max_users (take users_bytes s)) h.0.1 in
    let first = table-encoded encode_user user_in user_row max_users (take users_bytes s) (h.0.0, users) in
    sym (take-append-drop users_bytes s)
    ∙ ap₂ ◌++◌ (first ∙ ap (encode_table encode_user user_row max_users) (users-first s)) (table-encoded encode_rule rule_in rule_row max_rules (drop users_bytes s) h.1)

-- ── Zeros hold no row ──
-- one table of m rows of k bytes, and a second behind it of n rows of l bytes
none-in-both : (P Q : Bytes → Type 0) (k l m n : ℕ) → 0 < k → 0 < l
    → let s = zeros (m * k + n * l) in CanonicalTable P k m (take (m * k) s) × CanonicalTable Q l n (drop (m * k) s)
none-in-both P Q k l m n p q =
    let both : zeros (m * k) ++ zeros (n * l) ≡ zeros (m * k + n * l) = replicate-append-replicate (m * k) (n * l) 0 in
    let long : length (zeros (m * k)) ≡ m * k = length-replicate (m * k) 0 in
    rw (← both, take_at (zeros (m * k)) (zeros (n * l)) (m * k) long, drop_at (zeros (m * k)) (zeros (n * l)) (m * k) long)
    (canonical-none P k m p, canonical-none Q l n q)

pub tables-none : {s : Bytes} → s ≡ zeros tables_bytes → CanonicalTables s
tables-none e = subst⁻¹ CanonicalTables e (none-in-both CanonicalUser (Canonical encode_rule rule_in) user_row rule_row max_users max_rules (omega arith) (omega arith))
