use mathlib.Core.Path.{◌∙◌}
use Rattle.model.specs.Limits.{max_users}
use Rattle.layout.proofs.Changed.{table-pushed}
use Rattle.layout.proofs.Canonical.{canonical-pushed}
use Rattle.tables.specs.Memory.{user_row, user_in, users_in, CanonicalUser}
use Rattle.tables.proofs.Pushed.{user-read, user-canonical, user-full}
use borrow.Author.Rules.{rules}
use Rattle.tables.proofs.push.push_user.Goals as goal

-- The user's row is written, and put behind those in use.

pub push_row-requires : goal.push_row-requires
push_row-requires c =
    let a = c.args in
    (search rules, search rules, rw c.put_user.ensures (user-full a.name.now a.role.now a.key.now a.quota c.requires.1))

pub returns : goal.returns
unfolding users_in
returns c =
    let push = c.push_row in
    let s = c.args in
    let row = c.put_user in
    let is : CanonicalUser row.new.row = rw row.ensures (user-canonical s.name.now s.role.now s.key.now s.quota) in record { users_after = table-pushed user_in user_row max_users s.users.now _ _ push.ensures.t_after ∙ rw (row.ensures, user-read s.name.now s.role.now s.key.now s.quota); keeps = canonical-pushed CanonicalUser user_row max_users is push.ensures.t_after push.ensures.keeps }
