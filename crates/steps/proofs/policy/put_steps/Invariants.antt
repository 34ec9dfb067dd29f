use Prim.Native.Nat.{◌+◌, ◌*◌, ◌≤◌}
use mathlib.Core.Path.{◌≡◌}
use lib.ListN.{length}
use Rattle.model.specs.Limits.{max_depth}
use Rattle.rows.specs.Rows.{Wrote}
use Rattle.model.specs.Paths.{step_text}
use Rattle.steps.specs.Steps.{step_row, spelled_step, step_in}
use Rattle.paths.proofs.Spelled.{spelled}
use Rattle.steps.proofs.policy.put_steps.Given as goal

abbrev pub invariant-loop-i : goal.invariant-loop-i
invariant-loop-i l =
    (l.to ≤ l.initial.to + spelled_step * l.i) × (length l.out ≡ length l.initial.out) × Wrote l.initial.to (spelled step_in step_row max_depth step_text l.slot l.i) l.initial.out l.to l.out
