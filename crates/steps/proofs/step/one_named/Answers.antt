use mathlib.Core.Path.{ap}
use mathlib.Core.List.{◌∷◌}
use Rattle.model.specs.Base.{Bytes}
use Rattle.steps.specs.Steps.{by_kind, byte_of, step_of}
use Rattle.steps.proofs.step.one_named.Goals as goal

-- The names are a slot of the one name.

pub returns : goal.returns
unfolding step_of
returns c =
    let one = c.one_name.ensures in
    (ap (by_kind c.args.kind) one.0, ap (λ (s : Bytes). byte_of c.args.kind ∷ s) one.1)
