use mathlib.Core.Path.{ap, ◌∙◌}
use Rattle.model.specs.Limits.{max_listed}
use Rattle.layout.specs.Layout.{counted, key_row, CanonicalName, encode_keys}
use Rattle.layout.proofs.Canonical.{canonical-uncounted}
use Rattle.steps.proofs.StepBytes.{names-encoded}
use Rattle.steps.specs.Steps.{names_in}
use Rattle.steps.proofs.step.one_name.Goals as goal

-- An empty slot has no names, and one is pushed.

pub returns : goal.returns
unfolding names_in counted
returns c =
    let push = c.push_key.ensures in
    let is = c.push_key.ensures.keeps (canonical-uncounted (CanonicalName key_row) key_row max_listed) in
    (c.push_key.ensures.slot_after, names-encoded _ is ∙ ap (encode_keys max_listed) c.push_key.ensures.slot_after)
