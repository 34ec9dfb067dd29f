-- The three tables as tables of one memory, and what the answers say.
use Rattle.std.specs.Prelude.{ℕ, ◌≡◌, List, [], ◌∷◌, if◌then◌else◌}
use Rattle.std.specs.Prelude as std
use Rattle.model.specs.Base.{Bytes}
use Rattle.model.specs.Refusals.{Result, refused, done, ◌>>=◌}
use Rattle.model.specs.Table.{Table, Line, ended, broken, lines, split, under, is_head, read_row, read_table}
use Rattle.model.specs.Tables.{User, Rule, Tables, users_table, environments_table, policy_table}
use Rattle.refusals.specs.declared.Refusal.{Refusal}
use Rattle.refusals.specs.Numbers.{number_of, answer_by, numbered, bare}
use Rattle.tabletext.specs.declared.read.Table as code
use Rattle.tabletext.specs.declared.read.Table.TheVariants.{Users, Environments, Policy}
use Rattle.tabletext.specs.declared.read.TableFault.{TableFault}

-- what was read, or what there was before a refusal
unfoldable pub kept_or : {E A : Type 0} → A → Result E A → A
kept_or a (refused e) = a
kept_or a (done b) = b

-- the values of a line by their columns' names
abbrev pub values_in : Bytes → Bytes → Bytes → Bytes
values_in head line = under (split head) (split line)

-- what a line adds to what there was before: the answer, and what there is then
abbrev pub Adds : {A : Type 0} → (A → Result ℕ A) → A → std.Result (Unit {0}) Refusal → A → Type 0
Adds row before r after = (numbered r ≡ bare (row before)) × (after ≡ kept_or before (row before))

-- a table of users, or of policy lines, in the tables that hold both
unfoldable pub in_users : Table (List User) → Table Tables
in_users t = record {
  columns = t.columns;
  row = λ val m. t.row val m.users >>= λ us. done (record { users = us; policy = m.policy });
}

unfoldable pub in_policy : Table (List Rule) → Table Tables
in_policy t = record {
  columns = t.columns;
  row = λ val m. t.row val m.policy >>= λ rs. done (record { users = m.users; policy = rs });
}

abbrev pub table_of : code.Table → Table Tables
table_of Users = in_users users_table
table_of Environments = in_users environments_table
table_of Policy = in_policy policy_table

-- a refusal's number with its line
abbrev pub in_line_of : TableFault → ℕ × ℕ
in_line_of f = (number_of f.refusal, f.line)

-- ── What the lines before the first refusal added ──
unfoldable pub if_done : {A : Type 0} → A → (A → A) → Result ℕ A → A
if_done a f (refused e) = a
if_done a f (done b) = f b

module _ {A : Type 0} (t : Table A) where
  unfoldable pub rows_as_far : List Bytes → A → List Line → A
  rows_as_far hs a [] = a
  rows_as_far hs a (l ∷ ls) = if_done a (λ b. rows_as_far hs b ls) (read_row t hs a l)

  unfoldable pub lines_as_far : A → List Line → A
  lines_as_far a [] = a
  lines_as_far a (broken h ∷ ls) = a
  lines_as_far a (ended h ∷ ls) = if is_head t (split h) then rows_as_far (split h) a ls else a

  unfoldable pub tables_as_far : A → Bytes → A
  tables_as_far a s = lines_as_far a (lines s)

-- a table's text: the answer r, and what the lines before a refusal made of what there was
abbrev pub ReadsTable : {A : Type 0} → Table A → A → Bytes → std.Result (Unit {0}) TableFault → A → Type 0
ReadsTable t a₀ s r a = (answer_by in_line_of r ≡ bare (read_table t a₀ s)) × (a ≡ tables_as_far t a₀ s)
