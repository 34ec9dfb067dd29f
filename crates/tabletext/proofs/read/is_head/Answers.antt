use Rattle.model.specs.Base.{text}
use Rattle.model.specs.Table.{on_first, split, is_head}
use Rattle.model.specs.Tables.{users_table, environments_table, policy_table}
use Rattle.tabletext.specs.Reading.{in_users, in_policy}
use Rattle.tabletext.proofs.read.is_head.Goals as goal

-- The line that names a table's columns, taken apart, is the list of them.

pub returns-in-Users : goal.returns-in-Users
unfolding is_head in_users users_table text split on_first
returns-in-Users c = rw c.in-Users.is c.has_columns.ensures

pub returns-in-Environments : goal.returns-in-Environments
unfolding is_head in_users environments_table text split on_first
returns-in-Environments c = rw c.in-Environments.is c.has_columns-in-Environments.ensures

pub returns-in-Policy : goal.returns-in-Policy
unfolding is_head in_policy policy_table text split on_first
returns-in-Policy c = rw c.in-Policy.is c.has_columns-in-Policy.ensures
