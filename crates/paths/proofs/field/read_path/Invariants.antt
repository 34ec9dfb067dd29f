use Prim.Native.Nat.{◌-◌, ◌≤◌}
use mathlib.Core.Path.{◌≡◌}
use lib.ListN.{length, drop}
use Rattle.model.specs.Paths.{read_key_step, keys_of}
use Rattle.paths.specs.Layout.{path_slot, path_in}
use Rattle.layout.specs.Layout.{CanonicalKeys}
use Rattle.model.specs.Limits.{max_depth}
use Rattle.paths.proofs.WholePaths.{left}
use Rattle.paths.proofs.field.read_path.Given as goal

abbrev pub invariant-loop-at : goal.invariant-loop-at
invariant-loop-at l =
    (l.at ≤ length l.s) × (length l.slot ≡ path_slot) × (keys_of l.s ≡ left read_key_step (path_in l.slot) (drop l.at l.s)) × CanonicalKeys max_depth l.slot

abbrev pub decreases-loop-at : goal.decreases-loop-at
decreases-loop-at l = length l.s - l.at
