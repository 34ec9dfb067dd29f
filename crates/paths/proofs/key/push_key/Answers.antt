use mathlib.Core.Path.{refl, ◌∙◌}
use lib.ListN.{replicate}
use Rattle.model.specs.Limits.{max_key}
use Rattle.layout.specs.Layout.{name_in, key_row, CanonicalName}
use Rattle.layout.proofs.Counts.{counted-pushed}
use Rattle.layout.proofs.Named.{named}
use Rattle.layout.proofs.Canonical.{name-canonical, canonical-counted}
use Rattle.paths.proofs.key.push_key.Goals as goal

-- The key is written into a row, as much of it as there is room for, and the row put behind the others.

pub returns : goal.returns
returns c =
    let key = named max_key c.args.key.now (replicate key_row 0) refl c.put_name.ensures in
    let is = name-canonical max_key c.args.key.now (replicate key_row 0) refl c.put_name.ensures in record { slot_after = counted-pushed name_in key_row _ c.args.slot.now _ _ c.push_row.ensures.slot_after ∙ rw key.is; keeps = canonical-counted (CanonicalName key_row) key_row c.args.most is c.push_row.ensures.slot_after c.push_row.ensures.keeps }
