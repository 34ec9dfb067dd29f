use Prim.Native.Nat.{◌+◌, ◌*◌, ◌≤◌}
use mathlib.Core.Path.{◌≡◌}
use lib.ListN.{length}
use Rattle.rows.specs.Rows.{Wrote}
use Rattle.model.proofs.Spelling.{key_text}
use Rattle.layout.specs.Layout.{key_row, name_in}
use Rattle.paths.proofs.Spelled.{spelled}
use Rattle.model.specs.Limits.{max_key, max_depth}
use Rattle.paths.proofs.field.put_path.Given as goal

abbrev pub invariant-loop-i : goal.invariant-loop-i
invariant-loop-i l =
    (l.to ≤ l.initial.to + (max_key + 4) * l.i) × (length l.out ≡ length l.initial.out) × Wrote l.initial.to (spelled name_in key_row max_depth key_text l.slot l.i) l.initial.out l.to l.out
