use Prim.Native.Nat.{◌+◌, ◌*◌, ◌≤◌}
use mathlib.Core.Path.{◌≡◌}
use lib.ListN.{length, take}
use Rattle.rows.specs.Rows.{Wrote}
use Rattle.steps.specs.Steps.{names_in}
use Rattle.steps.proofs.StepTexts.{spelled_names}
use Rattle.model.specs.Limits.{max_key}
use Rattle.steps.proofs.policy.put_list.Given as goal

abbrev pub invariant-loop-i : goal.invariant-loop-i
invariant-loop-i l =
    (l.to ≤ l.initial.to + (max_key + 3) * l.i) × (length l.out ≡ length l.initial.out) × Wrote l.initial.to (spelled_names (take l.i (names_in l.names))) l.initial.out l.to l.out
