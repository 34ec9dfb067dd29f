use mathlib.Core.Path.{sym, ◌∙◌}
use native.Mathlib.Omega.{arith}
use lib.ListN.{length-take}
use Rattle.model.specs.Tables.{users_table, environments_table, policy_table}
use Rattle.tables.specs.Memory.{users_bytes, CanonicalUsers, CanonicalPolicy}
use Rattle.tabletext.proofs.Kept.{row-users, row-policy, first-kept, rest-kept}
use borrow.Author.Rules.{rules}
use Rattle.tabletext.proofs.read.add_row.Goals.{After-add_binding-arg-1, After-add_user-arg-1}
use Rattle.tabletext.proofs.read.add_row.Goals as goal

-- Users and environment lines go into the users' bytes, which come first, and policy lines into the rest; the other table stays.

pub slice_bounds-add_user-end-in-Users : goal.slice_bounds-add_user-end-in-Users
slice_bounds-add_user-end-in-Users c = simp length-take (omega arith)

pub add_user-requires : goal.add_user-requires
add_user-requires c = (sym (slice_bounds-add_user-end-in-Users c), search rules)

pub slice_bounds-add_binding-end-in-Environments : goal.slice_bounds-add_binding-end-in-Environments
slice_bounds-add_binding-end-in-Environments c = simp length-take (omega arith)

pub add_binding-requires : goal.add_binding-requires
add_binding-requires c = (sym (slice_bounds-add_binding-end-in-Environments c), search rules)

pub returns-in-Users : goal.returns-in-Users
returns-in-Users c =
    let long = c.add_user.auto.users ∙ sym (slice_bounds-add_user-end-in-Users (goal.at.returns-in-Users c).After-add_user-arg-1) in record { adds = rw c.in-Users.is (row-users _ _ _ users_table long c.add_user.ensures.adds.0 c.add_user.ensures.adds.1); keeps = first-kept CanonicalUsers CanonicalPolicy users_bytes c.args.tables.now _ long c.add_user.ensures.keeps }

pub returns-in-Environments : goal.returns-in-Environments
returns-in-Environments c =
    let long = c.add_binding.auto.users ∙ sym (slice_bounds-add_binding-end-in-Environments (goal.at.returns-in-Environments c).After-add_binding-arg-1) in record { adds = rw c.in-Environments.is (row-users _ _ _ environments_table long c.add_binding.ensures.adds.0 c.add_binding.ensures.adds.1); keeps = first-kept CanonicalUsers CanonicalPolicy users_bytes c.args.tables.now _ long c.add_binding.ensures.keeps }

pub returns-in-Policy : goal.returns-in-Policy
returns-in-Policy c =
    record { adds = rw c.in-Policy.is (row-policy _ _ _ policy_table (search rules) c.add_rule.ensures.adds.0 c.add_rule.ensures.adds.1); keeps = rest-kept CanonicalUsers CanonicalPolicy users_bytes c.args.tables.now _ (search rules) c.add_rule.ensures.keeps }
