use Prim.Native.Nat.{◌-◌, ◌^◌, ◌≤◌, ◌<◌}
use mathlib.Core.Path.{◌≡◌}
use mathlib.Core.Bool.{true}
use Rattle.model.specs.Limits.{max_users}
use Rattle.paths.specs.Layout.{path_in}
use Rattle.matching.specs.Parts.{may_match}
use Rattle.tables.specs.Memory.{users_in, rule_at}
use Rattle.tables.specs.Grants.{Found}
use Rattle.tables.proofs.Given.{ReadersLeft}
use Rattle.tables.proofs.rights.readers_by.Given as goal

abbrev pub invariant-loop-i : goal.invariant-loop-i
invariant-loop-i l =
    (l.i ≤ l.n) × (l.mask < 2 ^ max_users) × Found (users_in l.tables) (path_in l.path) l.found × ReadersLeft l.tables l.policy (path_in l.path) l.i l.mask
    × (l.i < l.n → may_match (rule_at l.i l.policy).path (path_in l.path) ≡ true)

abbrev pub decreases-loop-i : goal.decreases-loop-i
decreases-loop-i l = l.n - l.i
