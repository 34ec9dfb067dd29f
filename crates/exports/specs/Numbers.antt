-- What is answered, as numbers.
use Rattle.std.specs.Prelude.{ℕ, ◌≡◌, List, []}
use Rattle.model.specs.Base.{Bytes}
use Rattle.model.specs.Refusals.{Result, refused, done}
use Rattle.model.specs.Opening.{State, Texts, Fault, opened, after_opening}
use Rattle.model.specs.Serving.{Answer, refusal, session, length_is, accepted, Act, save, Outcome, outcome}
use Rattle.opening.specs.Memory.{Arrays, state_in, state_of, masks_of, Agree}
use Rattle.opening.specs.Answers.{arrays_after}
use Rattle.server.specs.Masked.{Effect, effect_by_masks, effect_by_policy}
use Rattle.server.specs.Replies.{InMemory}

-- an opening's refusal: its number, its text and its line; 0 where it is accepted
unfoldable pub fault_number : Result Fault State → ℕ
fault_number (refused f) = f.number
fault_number (done s) = 0

unfoldable pub fault_text : Result Fault State → ℕ
fault_text (refused f) = f.in_text
fault_text (done s) = 0

unfoldable pub fault_line : Result Fault State → ℕ
fault_line (refused f) = f.line
fault_line (done s) = 0

-- the kind of an answer: 0 a refusal, 1 a session, 2 a length, 3 bare acceptance
abbrev pub kind_of : Answer → ℕ
kind_of (refusal e) = 0
kind_of (session n) = 1
kind_of (length_is n) = 2
kind_of accepted = 3

-- the number that goes with it: the refusal's, the session's, the length, or how many numbers the list received
abbrev pub number_of : Answer → ℕ → ℕ
number_of (refusal e) told = e
number_of (session n) told = n
number_of (length_is n) told = n
number_of accepted told = told

-- ── What each function promises ──
-- four texts opened: 0 or the number of the refusal, its text and its line, and what the arrays are afterwards; 0 only where they are accepted, and then the masks agree with the policy
pub record OpensAs (before : Arrays) (texts : Texts) (r in_text in_line : ℕ) (after : Arrays) : Type 0 where
  pub number : r ≡ fault_number (opened texts)
  pub source : in_text ≡ fault_text (opened texts)
  pub line : in_line ≡ fault_line (opened texts)
  pub state : state_of after ≡ after_opening (state_of before) texts
  pub bytes : after ≡ arrays_after before (opened texts)
  pub zero_done : r ≡ 0 → (s : State) × (opened texts ≡ done s)
  pub agrees : r ≡ 0 → Agree after

-- a kind and a number are those of an outcome, and so is what was left
pub record Tells (o : Outcome) (kind r : ℕ) (after : State) (buffer : Bytes) (list : List ℕ) : Type 0 where
  pub kind_is : kind ≡ kind_of o.answer
  pub number_is : r ≡ number_of o.answer o.told
  pub state_is : after ≡ o.state
  pub buffer_is : buffer ≡ o.buffer
  pub list_is : list ≡ o.list

-- an act has its effect: the kind and the number of its outcome, and what the arrays, the buffer and the list are afterwards
pub record ServesAs (w : Effect) (before : Arrays) (kind r : ℕ) (after : Arrays) (buffer : Bytes) (list : List ℕ) : Type 0 where
  pub tells : Tells w.outcome kind r (state_of after) buffer list
  pub memory : InMemory w before after

-- by the masks, whatever the arrays hold
abbrev pub ServesByMasks : Arrays → Act → ℕ → ℕ → Arrays → Bytes → List ℕ → Type 0
ServesByMasks before act kind r after buffer list = ServesAs (effect_by_masks (state_of before) (masks_of before) act) before kind r after buffer list

-- where the masks agree with the policy as documents 01 and 02 say, and they agree again
abbrev pub ServesByPolicy : Arrays → Act → ℕ → ℕ → Arrays → Bytes → List ℕ → Type 0
ServesByPolicy before act kind r after buffer list = Agree before → ServesAs (effect_by_policy (state_of before) act) before kind r after buffer list × Agree after

-- fields saved, whatever the tables and the login states are
abbrev pub SavesAs : Bytes → Bytes → ℕ → ℕ → Bytes → Type 0
SavesAs fields before kind r after = (tables : Bytes) (logins : List ℕ)
    → Tells (outcome (state_in tables logins fields) (save before)) kind r (state_in tables logins fields) after []
