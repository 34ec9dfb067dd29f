-- What a step of the code means, the bytes of steps, and the answers of their readers.
use Rattle.std.specs.Prelude.{ℕ, ◌+◌, ◌*◌, ◌≡◌, List, [], ◌∷◌, eqb, get_or, drop, if◌then◌else◌}
use Rattle.std.specs.Prelude.{Option, option_map, IfSome}
use Rattle.model.specs.Base.{Bytes}
use Rattle.model.specs.Limits.{max_key, max_listed, max_depth}
use Rattle.model.specs.Paths.{Step, names, wildcard, environment}
use Rattle.model.specs.Paths as paths
use Rattle.layout.specs.Layout.{key_row, name_in, counted, encode_keys, encode_counted, Canonical, CanonicalCounted}
use Rattle.steps.specs.declared.step.Operator.{Operator}
use Rattle.steps.specs.declared.step.Operator.TheVariants.{Equals, In}
use Rattle.steps.specs.declared.step.Kind.{Kind}
use Rattle.steps.specs.declared.step.Kind.TheVariants.{Names, Wildcard, Environment}
use Rattle.steps.specs.declared.step.Step as code

-- ── Sizes, in bytes ──
-- the names of a step: how many, and a row for each
abbrev pub names_slot : ℕ
names_slot = 1 + max_listed * key_row

-- a step: the byte of its kind, and the names
abbrev pub step_row : ℕ
step_row = 1 + names_slot

-- a policy path: how many steps, and a row for each
abbrev pub steps_slot : ℕ
steps_slot = 1 + max_depth * step_row

-- a step in the standard spelling has at most these: names in quotes, commas and brackets
abbrev pub spelled_step : ℕ
spelled_step = max_listed * (max_key + 3) + 2

-- and a whole slot of steps, whatever it holds
abbrev pub spelled_steps : ℕ
spelled_steps = 1 + max_depth * spelled_step

-- ── Meanings ──
abbrev pub operator_of : Operator → paths.Operator
operator_of Equals = paths.equals
operator_of In = paths.is_in

-- at most four names
unfoldable pub names_in : Bytes → List Bytes
names_in s = counted name_in key_row max_listed s

-- a step, from its kind and the names beside it
abbrev pub by_kind : Kind → List Bytes → Step
by_kind Names ns = names ns
by_kind Wildcard ns = wildcard
by_kind (Environment o) ns = environment (operator_of o) (get_or ns 0 [])

-- the byte that says a kind, and the kind that a byte says
abbrev pub byte_of : Kind → ℕ
byte_of Names = 0
byte_of Wildcard = 1
byte_of (Environment Equals) = 2
byte_of (Environment In) = 3

abbrev pub kind_of : ℕ → Kind
kind_of b = if eqb b 1 then Wildcard else if eqb b 2 then Environment Equals else if eqb b 3 then Environment In else Names

-- a step in its row: the byte of its kind, and the names
unfoldable pub step_in : Bytes → Step
step_in row = by_kind (kind_of (get_or row 0 0)) (names_in (drop 1 row))

-- a policy path
unfoldable pub steps_in : Bytes → paths.Steps
steps_in s = counted step_in step_row max_depth s

-- a step of the code, and the row that it is stored as
unfoldable pub step_of : code.Step → Step
step_of t = by_kind t.kind (names_in t.names)

abbrev pub row_of : code.Step → Bytes
row_of t = byte_of t.kind ∷ t.names

-- ── Every byte ──
-- the code's operator for the model's
abbrev pub operator_for : paths.Operator → Operator
operator_for paths.equals = Equals
operator_for paths.is_in = In

-- a step: the byte of its kind, and the names beside it
unfoldable pub encode_step : Step → Bytes
encode_step (names ns) = byte_of Names ∷ encode_keys max_listed ns
encode_step wildcard = byte_of Wildcard ∷ encode_keys max_listed []
encode_step (environment o n) = byte_of (Environment (operator_for o)) ∷ encode_keys max_listed (n ∷ [])

unfoldable pub encode_steps : paths.Steps → Bytes
encode_steps ts = encode_counted encode_step step_row max_depth ts

abbrev pub CanonicalStep : Bytes → Type 0
CanonicalStep row = Canonical encode_step step_in row

abbrev pub CanonicalSteps : Bytes → Type 0
CanonicalSteps s = CanonicalCounted CanonicalStep step_row max_depth s

-- ── What the readers answer: what is read, in canonical bytes ──
-- a slot of some names
abbrev pub HoldsNames : Bytes → List Bytes → Type 0
HoldsNames s ns = (names_in s ≡ ns) × (s ≡ encode_keys max_listed ns)

-- a step that was read, and the position behind it
abbrev pub step_answer : Option (code.Step × ℕ) → Option (Step × ℕ)
step_answer r = option_map (λ p. (step_of p.0, p.1)) r

abbrev pub StepIs : Option (code.Step × ℕ) → Option (Step × ℕ) → Type 0
StepIs r x = (step_answer r ≡ x) × IfSome r (λ p. CanonicalStep (row_of p.0))

-- a slot of steps that was read
abbrev pub StepsAre : Option Bytes → Option paths.Steps → Type 0
StepsAre r x = (option_map steps_in r ≡ x) × IfSome r CanonicalSteps
