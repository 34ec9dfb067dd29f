use mathlib.Core.Path.{◌≡◌}
use lib.ListN.{drop}
use Rattle.model.specs.Base.{any}
use Rattle.record.specs.Slots.{fields_in}
use Rattle.tables.specs.Memory.{policy_in}
use Rattle.opening.proofs.Conflicting.{conflicts}
use Rattle.opening.proofs.fields.has_conflicting_field.Given as goal

abbrev pub invariant-loop-i : goal.invariant-loop-i
invariant-loop-i l = any (conflicts (policy_in l.policy)) (fields_in l.table) ≡ any (conflicts (policy_in l.policy)) (drop l.i (fields_in l.table))
