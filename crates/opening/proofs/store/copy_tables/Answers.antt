use native.Mathlib.Omega.{arith}
use Prim.Native.Nat.{◌+◌, ◌≤◌}
use mathlib.Core.Path.{◌≡◌}
use lib.ListN.{length, drop, length-take, length-drop}
use lib.Seq.{take_all}
use Rattle.tables.specs.Memory.{users_bytes, policy_bytes}
use borrow.Author.Rules.{rules}
use Rattle.opening.proofs.Stored.{both_stored}
use Rattle.opening.proofs.store.copy_tables.Goals as goal

-- The users' rows into their part, and the policy's into the part behind it.

pub copy_rows-requires-2 : goal.copy_rows-requires-2
copy_rows-requires-2 c =
    let long : length c.args.from.now ≡ users_bytes + policy_bytes = search rules in
    let rest : length (drop users_bytes c.args.from.now) ≤ policy_bytes = rw length-drop (omega arith) in
    ((omega arith, simp (length-take, length-drop) (omega arith)), search rules, rw (take_all policy_bytes (drop users_bytes c.args.from.now) rest) c.requires.1.0)

pub returns : goal.returns
returns c =
    both_stored users_bytes policy_bytes c.args.from.now _ _ _ (search rules) (simp length-drop (search rules)) c.copy_rows.ensures c.copy_rows-2.ensures
