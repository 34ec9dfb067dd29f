use Prim.Native.Nat.{◌-◌, ◌≤◌}
use mathlib.Core.Path.{◌≡◌}
use mathlib.Core.List.{[]}
use lib.ListN.{length, drop}
use Rattle.model.specs.Limits.{max_listed}
use Rattle.model.specs.Paths.{read_names}
use Rattle.layout.specs.Layout.{CanonicalKeys}
use Rattle.steps.specs.Steps.{names_slot, names_in}
use Rattle.steps.proofs.step.list_at.Given as goal

abbrev pub invariant-loop : goal.invariant-loop
invariant-loop l =
    (l.at ≤ l.from) × (l.from ≤ length l.s) × (length l.names ≡ names_slot) × (l.counter ≡ length (names_in l.names))
    × (read_names max_listed [] (drop l.at l.s) ≡ read_names (max_listed - l.counter) (names_in l.names) (drop l.from l.s))
    × CanonicalKeys max_listed l.names
