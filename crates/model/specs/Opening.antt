-- Document 01, "Opening the four texts": the state, and how an opening makes it, all or nothing.
use Rattle.std.specs.Prelude.{ℕ, suc, ◌+◌, List, [], ◌∷◌, ◌++◌, map, Bool, false, ◌&&◌, ltb, length, replicate, if◌then◌else◌}
use Rattle.std.specs.Prelude.{Option, None, Some}
use Rattle.model.specs.Base.{Bytes, any, sum}
use Rattle.model.specs.Limits.{max_fields, max_users, max_text}
use Rattle.model.specs.Fields.{Fields}
use Rattle.model.specs.RecordText.{tree_of, twice, count, store_members}
use Rattle.model.specs.Paths.{as_steps}
use Rattle.model.specs.Refusals.{Result, refused, done, ◌>>=◌, ◌>>◌, refuse◌if◌, ◌or◌}
use Rattle.model.specs.Table.{read_table}
use Rattle.model.specs.Tables.{User, Rule, Tables, users_table, environments_table, policy_table}
use Rattle.model.specs.Rights.{is_write, conflicts_with}
use Rattle.model.specs.RecordText
use Rattle.model.specs.Rights

-- "a seat holds a user's logins, whether a session is open, and the fields created"
pub record LoginState : Type 0 where
  pub logins : ℕ
  pub is_open : Bool
  pub created : ℕ

-- the tables, a login state for each of the 32 user indices, and the fields held
pub record State : Type 0 where
  pub tables : Tables
  pub login_states : List LoginState
  pub fields : Fields

unfoldable pub empty_login : LoginState
empty_login = record { logins = 0; is_open = false; created = 0 }

-- "every seat starts empty"
unfoldable pub empty_logins : List LoginState
empty_logins = replicate max_users empty_login

-- "Before any accepted opening there are no users and no fields"
unfoldable pub initial : State
initial = record { tables = record { users = []; policy = [] }; login_states = empty_logins; fields = [] }

-- "Users, environments, policy and record"
pub record Texts : Type 0 where
  pub users_text : Bytes
  pub environments_text : Bytes
  pub policy_text : Bytes
  pub record_text : Bytes

-- "The refusal is a number, the text (1 to 4) and a line"
pub record Fault : Type 0 where
  pub number : ℕ
  pub in_text : ℕ
  pub line : ℕ

unfoldable pub fault : ℕ → ℕ → ℕ → Fault
fault n t l = record { number = n; in_text = t; line = l }

-- "10 longer than 65,536 bytes"
unfoldable pub check_length : ℕ → Bytes → Result Fault (Unit {0})
check_length t s = refuse fault 10 t 0 if ltb max_text (length s)

-- a table's refusal, as one of the text t
unfoldable pub from : {A : Type 0} → ℕ → Result (ℕ × ℕ) A → Result Fault A
from t (refused e) = refused (fault e.0 t e.1)
from t (done a) = done a

-- the number, counted from n, of the first WRITE line in conflict with an earlier one
unfoldable pub conflict_from : ℕ → List Rule → List Rule → Option ℕ
conflict_from n above [] = None
conflict_from n above (r ∷ rs) =
    let next = conflict_from (suc n) (above ++ r ∷ []) rs in
    if is_write r && any (conflicts_with r.path) above then Some n else next

unfoldable pub refuse_at : Option ℕ → Result Fault (Unit {0})
refuse_at None = done tt
refuse_at (Some n) = refused (fault 5 3 n)

-- "After the policy's lines: 5 the first WRITE line that tangles with an earlier one"
unfoldable pub check_policy : List Rule → Result Fault (Unit {0})
check_policy rs = refuse_at (conflict_from 2 [] rs)

unfoldable pub open_tables : Texts → Result Fault Tables
open_tables t = do
  named ← from 1 (read_table users_table [] t.users_text)
  users ← from 2 (read_table environments_table named t.environments_text)
  policy ← from 3 (read_table policy_table [] t.policy_text)
  check_policy policy
  done (record { users = users; policy = policy })

-- "all allowances" together
unfoldable pub quotas : List User → ℕ
quotas us = sum (map (λ u. u.quota) us)

-- "For the record: 8 not in the grammar; 6 a key twice in one object; 9 fields plus all allowances above 256; 5 a field tangles with a WRITE line"
unfoldable pub open_record : Tables → Bytes → Result Fault Fields
open_record t s = do
  m ← tree_of s or fault 8 4 0
  refuse fault 6 4 0 if twice m
  refuse fault 9 4 0 if ltb max_fields (count m + quotas t.users)
  let fs = store_members [] m []
  refuse fault 5 4 0 if any (λ f. any (conflicts_with (as_steps f.path)) t.policy) fs
  done fs

-- "First, in text order: 10 longer than 65,536 bytes. Then text by text"
unfoldable pub opened : Texts → Result Fault State
opened t = do
  check_length 1 t.users_text
  check_length 2 t.environments_text
  check_length 3 t.policy_text
  check_length 4 t.record_text
  tables ← open_tables t
  fields ← open_record tables t.record_text
  done (record { tables = tables; login_states = empty_logins; fields = fields })

unfoldable pub kept : State → Result Fault State → State
kept s (refused f) = s
kept s (done s₁) = s₁

-- "A refused opening keeps the former state"
unfoldable pub after_opening : State → Texts → State
after_opening s t = kept s (opened t)

unfoldable pub Opened : Unit {0}
unfolding RecordText.Opened Rights.Opened empty_login empty_logins initial fault check_length from conflict_from refuse_at check_policy open_tables quotas open_record opened kept after_opening
Opened = tt
