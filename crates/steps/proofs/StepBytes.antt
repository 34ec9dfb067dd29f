-- The rows of steps, byte for byte: no byte beside what a step says.
use mathlib.Core.Path.{◌≡◌, refl, sym, ap, ◌∙◌}
use mathlib.Core.List.{[], ◌∷◌}
use lib.ListN.{replicate}
use Rattle.model.specs.Base.{Bytes, joined}
use Rattle.model.specs.Limits.{max_listed}
use Rattle.layout.specs.Layout.{key_row, name_in, encode_name, encode_counted, encode_keys, CanonicalKeys}
use Rattle.layout.proofs.Canonical.{counted-encoded}
use Rattle.steps.specs.declared.step.Operator.TheVariants.{Equals, In}
use Rattle.steps.specs.declared.step.Kind.{Kind}
use Rattle.steps.specs.declared.step.Kind.TheVariants.{Names, Wildcard, Environment}
use Rattle.steps.specs.declared.step.Step as code
use Rattle.steps.specs.Steps.{names_slot, names_in, by_kind, byte_of, step_in, step_of, row_of, encode_step, CanonicalStep}
use Rattle.steps.proofs.StepRows.{step-written}

pub names-encoded : (s : Bytes) → CanonicalKeys max_listed s → s ≡ encode_keys max_listed (names_in s)
unfolding names_in
names-encoded s h = counted-encoded (encode_name key_row) name_in key_row max_listed s h

-- a list of the names in a slot
pub list-canonical : (s : Bytes) → CanonicalKeys max_listed s → CanonicalStep (byte_of Names ∷ s)
unfolding step_in encode_step
list-canonical s h = ap (λ (r : Bytes). byte_of Names ∷ r) (names-encoded s h)

-- a wildcard, beside no names
pub wildcard-canonical : CanonicalStep (byte_of Wildcard ∷ replicate names_slot 0)
unfolding step_in encode_step encode_counted joined
wildcard-canonical = refl

-- a step with one name beside it
abbrev Named : Kind → Type 0
Named Names = Unit {0}
Named Wildcard = ⊥
Named (Environment o) = Unit {0}

one-encoded : (k : Kind) → Named k → (n : Bytes) → byte_of k ∷ encode_keys max_listed (n ∷ []) ≡ encode_step (by_kind k (n ∷ []))
unfolding encode_step
one-encoded Names h n = refl
one-encoded Wildcard h n = absurd h
one-encoded (Environment Equals) h n = refl
one-encoded (Environment In) h n = refl

pub one-canonical : (t : code.Step) (k : Kind) → Named k → (n : Bytes) → step_of t ≡ by_kind k (n ∷ [])
    → row_of t ≡ byte_of k ∷ encode_keys max_listed (n ∷ []) → CanonicalStep (row_of t)
one-canonical t k named n h is = is ∙ one-encoded k named n ∙ ap encode_step (sym h ∙ sym (step-written t))
