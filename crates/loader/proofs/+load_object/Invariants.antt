use Prim.Native.Nat.{◌-◌}
use mathlib.Core.Path.{◌≡◌}
use lib.ListN.{length}
use Rattle.model.specs.Limits.{max_depth}
use Rattle.model.specs.RecordText.{Members}
use Rattle.paths.specs.Layout.{path_in}
use Rattle.layout.specs.Layout.{Keeps, CanonicalKeys}
use Rattle.record.specs.Slots.{fields_in, CanonicalFields}
use Rattle.loader.specs.Loaded.{loaded}
use Rattle.reader.proofs.Objects.{Left}
use Rattle.loader.proofs.+load_object.Given as goal

abbrev pub invariant-loop-key : goal.invariant-loop-key
invariant-loop-key l =
    (before : Members) × Left l.s l.at l.depth before l.i × (fields_in l.table ≡ loaded (path_in l.path) (fields_in l.initial.table) before) × (CanonicalKeys max_depth l.path → Keeps CanonicalFields l.initial.table l.table)

abbrev pub decreases-loop-key : goal.decreases-loop-key
decreases-loop-key l = length l.s - l.i

abbrev pub decreases-load_object : goal.decreases-load_object
decreases-load_object l = l.depth
