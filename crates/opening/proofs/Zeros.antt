-- "Before any accepted opening there are no users and no fields": arrays of zeros mean that.
use mathlib.Core.Path.{◌≡◌, refl, ◌∙◌}
use mathlib.Core.List.{[]}
use native.Mathlib.Omega.{arith}
use lib.ListN.{get_or, drop}
use lib.Seq.{get_or-drop}
use Rattle.rows.specs.Rows.{rows}
use Rattle.layout.proofs.Used.{table_none}
use Rattle.layout.proofs.Tight.{zeros, zero-at}
use Rattle.model.specs.Limits.{max_fields, max_users, max_rules}
use Rattle.model.specs.Opening.{empty_login, empty_logins, initial}
use Rattle.tables.specs.Memory.{user_row, users_bytes, rule_row, tables_bytes, user_in, users_in, rule_in, policy_in, tables_in}
use Rattle.sessions.specs.Logins.{login_numbers, login_in, logins_in}
use Rattle.record.specs.Slots.{slot_bytes, record_bytes, field_in, mask_in, fields_in, masks_in}
use Rattle.opening.specs.Memory.{arrays, state_in, Agree}
use Rattle.opening.proofs.TablesOpened.{no_tables}

pub no-tables : tables_in (zeros tables_bytes) ≡ no_tables
unfolding tables_in users_in policy_in
no-tables =
    let s = zeros tables_bytes in
    let policy : get_or (drop users_bytes s) 0 0 ≡ 0 = get_or-drop users_bytes s 0 0 ∙ zero-at tables_bytes users_bytes in
    rw (table_none user_in user_row max_users s (omega arith) (zero-at tables_bytes 0), table_none rule_in rule_row max_rules (drop users_bytes s) (omega arith) policy)

pub no-logins : logins_in (zeros login_numbers) ≡ empty_logins
unfolding logins_in login_in rows empty_login empty_logins
no-logins = refl

no_fields : fields_in (zeros record_bytes) ≡ []
unfolding fields_in
no_fields = table_none field_in slot_bytes max_fields (zeros record_bytes) (omega arith) (zero-at record_bytes 0)

pub zeros-initial : state_in (zeros tables_bytes) (zeros login_numbers) (zeros record_bytes) ≡ initial
unfolding state_in initial
zeros-initial = rw (no-tables, no-logins, no_fields)

-- and their masks agree with the policy: there are none
pub zeros-agree : Agree (arrays (zeros tables_bytes) (zeros login_numbers) (zeros record_bytes))
unfolding masks_in
zeros-agree =
    rw (no_fields, table_none mask_in slot_bytes max_fields (zeros record_bytes) (omega arith) (zero-at record_bytes 0))
