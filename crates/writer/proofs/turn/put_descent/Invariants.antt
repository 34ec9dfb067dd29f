use Prim.Native.Nat.{◌+◌, ◌*◌, ◌-◌, ◌≤◌}
use mathlib.Core.Path.{◌≡◌}
use lib.ListN.{length, drop}
use Rattle.model.specs.SavedText.{descend}
use Rattle.paths.specs.Layout.{path_in}
use Rattle.writer.proofs.Remains.{Remains}
use Rattle.model.specs.Limits.{max_key}
use Rattle.writer.proofs.turn.put_descent.Given as goal

abbrev pub invariant-loop-i : goal.invariant-loop-i
invariant-loop-i l =
    (l.to + (max_key + 4) * (l.n - l.i) ≤ l.at + (max_key + 4) * (l.n - l.from)) × (length l.out ≡ length l.initial.out)
    × Remains l.at (descend (drop l.from (path_in l.path))) l.initial.out l.to (descend (drop l.i (path_in l.path))) l.out
