-- Document 01, "Tables": users, environments and policy.
use Rattle.std.specs.Prelude.{ℕ, List, [], ◌∷◌, ◌++◌, Bool, not, ◌&&◌, leb, length, set, if◌then◌else◌}
use Rattle.std.specs.Prelude.{Option, None, Some}
use Rattle.std.specs.Prelude.{slice_get}
use Rattle.model.specs.Base.{Bytes, text, any, first_from, ◌≐◌, number}
use Rattle.model.specs.Limits.{max_users, max_quota, max_bindings, max_rules}
use Rattle.model.specs.Names.{is_name, is_key, is_plain}
use Rattle.model.specs.Paths.{Steps, steps_of}
use Rattle.model.specs.Refusals.{done, ◌>>=◌, ◌>>◌, refuse◌if◌, ◌or◌}
use Rattle.model.specs.Table.{Table}
use Rattle.model.specs.Paths
use Rattle.model.specs.Table as T

-- an environment line; document 01: "Lines with one user and name form a list"
pub record Binding : Type 0 where
  pub name : Bytes
  pub value : Bytes

-- a user, with the quota (document 01: allowance) and the user's environment lines in their order
pub record User : Type 0 where
  pub name : Bytes
  pub role : Bytes
  pub key : Bytes
  pub quota : ℕ
  pub environment : List Binding

pub data Access : Type 0 where
  READ : Access
  WRITE : Access

-- a policy line
pub record Rule : Type 0 where
  pub role : Bytes
  pub access : Access
  pub path : Steps

pub record Tables : Type 0 where
  pub users : List User
  pub policy : List Rule

-- "the place of a user counts value lines from 0": the user index
unfoldable pub user_at : List User → ℕ → Option User
user_at us i = slice_get us i

unfoldable pub user_named : Bytes → List User → Option (ℕ × User)
user_named n us = first_from 0 (λ u. u.name ≐ n) us

-- "The role `*` is every role"
unfoldable pub every_role : Bytes
every_role = text "*"

-- ── "Users: `user`, `role`, `key`, `allowance`. At most 32" ──
-- "The first three are names, the role not `*`. The allowance is 0 to 256, decimal"
unfoldable pub users_table : Table (List User)
users_table = record {
  columns = text "user" ∷ text "role" ∷ text "key" ∷ text "allowance" ∷ [];
  row = λ val us. do
    refuse 2 if not (is_name (val (text "user")) && is_name (val (text "role")) && is_name (val (text "key")))
    refuse 2 if val (text "role") ≐ every_role
    quota ← number max_quota (val (text "allowance")) or 2
    refuse 6 if any (λ u. u.name ≐ val (text "user")) us
    refuse 4 if leb max_users (length us)
    let u : User = record { name = val (text "user"); role = val (text "role"); key = val (text "key"); quota = quota; environment = [] }
    done (us ++ u ∷ []);
}

-- ── "Environments: `user`, `name`, `value`. Name plain, value a name. .. At most 16 lines a user" ──
unfoldable pub same_binding : Binding → Binding → Bool
same_binding a b = a.name ≐ b.name && a.value ≐ b.value

unfoldable pub bound : User → Binding → User
bound u b = record { name = u.name; role = u.role; key = u.key; quota = u.quota; environment = u.environment ++ b ∷ [] }

-- each line joins those of its user
unfoldable pub environments_table : Table (List User)
environments_table = record {
  columns = text "user" ∷ text "name" ∷ text "value" ∷ [];
  row = λ val us. do
    refuse 2 if not (is_name (val (text "user")) && is_plain (val (text "name")) && is_key (val (text "value")))
    (i, u) ← user_named (val (text "user")) us or 7
    let b : Binding = record { name = val (text "name"); value = val (text "value") }
    refuse 6 if any (same_binding b) u.environment
    refuse 4 if leb max_bindings (length u.environment)
    done (set us i (bound u b));
}

-- ── "Policy: `role`, `access`, `path`. At most 64" ──
-- "access is `READ` or `WRITE`"
unfoldable pub access_of : Bytes → Option Access
access_of s = if s ≐ text "READ" then Some READ else if s ≐ text "WRITE" then Some WRITE else None

unfoldable pub policy_table : Table (List Rule)
policy_table = record {
  columns = text "role" ∷ text "access" ∷ text "path" ∷ [];
  row = λ val rs. do
    refuse 2 if not (is_name (val (text "role")))
    access ← access_of (val (text "access")) or 2
    path ← steps_of (val (text "path")) or 3
    refuse 4 if leb max_rules (length rs)
    let r : Rule = record { role = val (text "role"); access = access; path = path }
    done (rs ++ r ∷ []);
}

unfoldable pub Opened : Unit {0}
unfolding Paths.Opened T.Opened user_at user_named every_role users_table same_binding bound environments_table access_of policy_table
Opened = tt
