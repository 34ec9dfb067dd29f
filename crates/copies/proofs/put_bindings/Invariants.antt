use Prim.Native.Nat.{◌+◌, ◌*◌, ◌≤◌}
use mathlib.Core.Path.{◌≡◌}
use lib.ListN.{length}
use Rattle.writer.proofs.Remains.{Remains}
use Rattle.copies.proofs.Lines.{bindings_from}
use Rattle.model.specs.Limits.{max_bindings}
use Rattle.steps.specs.Environments.{binding_row}
use Rattle.copies.proofs.put_bindings.Given as goal

abbrev pub invariant-loop-i : goal.invariant-loop-i
invariant-loop-i l =
    (l.n ≤ max_bindings) × (l.to ≤ l.at + binding_row * l.i) × (length l.out ≡ length l.initial.out) × Remains l.at (bindings_from l.lines 0) l.initial.out l.to (bindings_from l.lines l.i) l.out
