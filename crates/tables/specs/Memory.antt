-- What the bytes of the tables mean, whatever they are; and the bytes of tables.
use Rattle.std.specs.Prelude.{ℕ, ◌+◌, ◌*◌, ◌/◌, ◌%◌, ◌≡◌, List, [], ◌∷◌, ◌++◌, eqb, length, get_or, take, drop, if◌then◌else◌}
use Rattle.layout.specs.Layout.{in_use, table, name_row, name_in, encode_name, encode_table, Canonical, CanonicalName, CanonicalTable}
use Rattle.model.specs.Base.{Bytes}
use Rattle.model.specs.Limits.{max_users, max_rules}
use Rattle.model.specs.Tables.{User, Access, READ, WRITE, Rule, Tables}
use Rattle.tables.specs.declared.memory.Access as code
use Rattle.tables.specs.declared.memory.Access.TheVariants as kind
use Rattle.steps.specs.Steps.{steps_slot, steps_in, encode_steps}
use Rattle.steps.specs.Environments.{bindings_bytes, bindings_in, encode_bindings, CanonicalBindings}

-- ── Sizes and places, in bytes ──
-- a user: rows of the name, the role and the key, two bytes of the quota, and the environment lines
abbrev pub role_at : ℕ
role_at = name_row

abbrev pub key_at : ℕ
key_at = role_at + name_row

abbrev pub quota_at : ℕ
quota_at = key_at + name_row

abbrev pub lines_at : ℕ
lines_at = quota_at + 2

abbrev pub user_row : ℕ
user_row = lines_at + bindings_bytes

-- a policy line: a row of the role, a byte of the access, and the steps
abbrev pub access_at : ℕ
access_at = name_row

abbrev pub path_at : ℕ
path_at = access_at + 1

abbrev pub rule_row : ℕ
rule_row = path_at + steps_slot

-- the users' rows, and behind them the policy's
abbrev pub users_bytes : ℕ
users_bytes = max_users * user_row

abbrev pub policy_bytes : ℕ
policy_bytes = max_rules * rule_row

abbrev pub tables_bytes : ℕ
tables_bytes = users_bytes + policy_bytes

-- ── Meanings ──
-- a user
unfoldable pub user_in : Bytes → User
user_in row = record {
  name = name_in (take name_row row);
  role = name_in (take name_row (drop role_at row));
  key = name_in (take name_row (drop key_at row));
  quota = get_or row quota_at 0 + 256 * get_or row (quota_at + 1) 0;
  environment = bindings_in (drop lines_at row);
}

-- rows up to the first whose name is empty
unfoldable pub users_in : Bytes → List User
users_in s = table user_in user_row max_users s

-- how many users there are
abbrev pub user_count : Bytes → ℕ
user_count s = length (in_use user_row max_users s)

abbrev pub access_in : ℕ → Access
access_in b = if eqb b 1 then WRITE else READ

abbrev pub access_byte : Access → ℕ
access_byte READ = 0
access_byte WRITE = 1

-- what the code calls a kind
abbrev pub access_is : code.Access → Access
access_is kind.Read = READ
access_is kind.Write = WRITE

-- a policy line
unfoldable pub rule_in : Bytes → Rule
rule_in row = record { role = name_in (take name_row row); access = access_in (get_or row access_at 0); path = steps_in (drop path_at row) }

-- rows up to the first whose role is empty
unfoldable pub policy_in : Bytes → List Rule
policy_in s = table rule_in rule_row max_rules s

-- how many lines there are, and the one in the i-th row
abbrev pub rule_count : Bytes → ℕ
rule_count s = length (in_use rule_row max_rules s)

abbrev pub rule_at : ℕ → Bytes → Rule
rule_at i s = rule_in (take rule_row (drop (i * rule_row) s))

-- the users' rows, and behind them the policy's
unfoldable pub tables_in : Bytes → Tables
tables_in s = record { users = users_in s; policy = policy_in (drop users_bytes s) }

-- ── Every byte ──
-- a quota: how many beside whole 256, and how many 256
unfoldable pub encode_quota : ℕ → Bytes
encode_quota q = q % 256 ∷ q / 256 ∷ []

unfoldable pub encode_user : User → Bytes
encode_user u =
    encode_name name_row u.name ++ encode_name name_row u.role ++ encode_name name_row u.key ++ encode_quota u.quota ++ encode_bindings u.environment

unfoldable pub encode_rule : Rule → Bytes
encode_rule r = encode_name name_row r.role ++ access_byte r.access ∷ encode_steps r.path

unfoldable pub encode_tables : Tables → Bytes
encode_tables t = encode_table encode_user user_row max_users t.users ++ encode_table encode_rule rule_row max_rules t.policy

-- each part of a user's row is written as its meaning is
pub record CanonicalUser (row : Bytes) : Type 0 where
  pub name : CanonicalName name_row (take name_row row)
  pub role : CanonicalName name_row (take name_row (drop role_at row))
  pub key : CanonicalName name_row (take name_row (drop key_at row))
  pub quota : take 2 (drop quota_at row) ≡ encode_quota (user_in row).quota
  pub environment : CanonicalBindings (drop lines_at row)

abbrev pub CanonicalUsers : Bytes → Type 0
CanonicalUsers s = CanonicalTable CanonicalUser user_row max_users s

abbrev pub CanonicalPolicy : Bytes → Type 0
CanonicalPolicy s = CanonicalTable (Canonical encode_rule rule_in) rule_row max_rules s

abbrev pub CanonicalTables : Bytes → Type 0
CanonicalTables s = CanonicalUsers (take users_bytes s) × CanonicalPolicy (drop users_bytes s)
