-- Document 01's number and values for each reply, and what a request and a save leave.
use Rattle.std.specs.Prelude.{ℕ, ◌≤◌, ◌≡◌, false, List, [], length}
use Rattle.std.specs.Prelude as std
use Rattle.std.specs.Prelude.{Ok, Err}
use Rattle.model.specs.Base.{Bytes}
use Rattle.model.specs.Limits.{max_line}
use Rattle.model.specs.Values.{Value}
use Rattle.model.specs.Fields.{Keys}
use Rattle.model.specs.Refusals.{Result, refused, done}
use Rattle.model.specs.Opening.{State}
use Rattle.model.specs.Requests as model
use Rattle.model.specs.Serving.{Change, sets_login, shows, stores, room_for, Answer, refusal, session, length_is, accepted, Act, line, save, Outcome, outcome}
use Rattle.model.specs.Runs.{request_of_act, Event}
use Rattle.values.specs.declared.value.Scalar.{Scalar}
use Rattle.values.specs.Scalars.{value_in, InText}
use Rattle.layout.specs.Layout.{is_empty}
use Rattle.paths.specs.Layout.{path_in}
use Rattle.record.specs.Slots.{Proper}
use Rattle.record.specs.Search.{stored_field}
use Rattle.sessions.specs.Logins.{numbers_after}
use Rattle.opening.specs.Memory.{Arrays, arrays, state_in, state_of, masks_of, Agree}
use Rattle.requests.specs.declared.Request.TheVariants.{Login}
use Rattle.requests.specs.Lines.{request_in, PushStands}
use Rattle.server.specs.Masked.{decide_masked, Effect, effect_of, effect_by_masks, effect_by_policy}
use Rattle.refusals.specs.declared.Refusal.{Refusal}
use Rattle.refusals.specs.Numbers.{number_of}
use Rattle.server.specs.declared.answer.Reply.{Reply}
use Rattle.server.specs.declared.answer.Reply.TheVariants.{Session, Length, Accepted}

-- ── Replies ──
-- what a request and a save give: a reply, or why they are refused
abbrev pub Given : Type 0
Given = std.Result Reply Refusal

-- the answer: a refusal's number, a session's number, a length, or bare acceptance
abbrev pub answer_in : Given → Answer
answer_in (Err e) = refusal (number_of e)
answer_in (Ok (Session n)) = session n
answer_in (Ok (Length n)) = length_is n
answer_in (Ok (Accepted k at)) = accepted

-- "The caller is told how many it received"
abbrev pub told_in : Given → ℕ
told_in (Err e) = 0
told_in (Ok (Session n)) = 0
told_in (Ok (Length n)) = 0
told_in (Ok (Accepted k at)) = k

-- a reply with what it left
unfoldable pub outcome_in : Given → State → Bytes → List ℕ → Outcome
outcome_in r s b l = record { answer = answer_in r; state = s; buffer = b; list = l; told = told_in r }

-- the buffer and the list, lent beside the arrays, that a request may write
pub record Outputs : Type 0 where
  pub buffer : Bytes
  pub list : List ℕ

abbrev pub outputs : Bytes → List ℕ → Outputs
outputs buffer list = record { buffer = buffer; list = list }

-- ── What is left, once it is decided what a request changes ──
-- the bytes of the fields: a field is stored in its place, with the mask of its path; what stores none keeps every byte
abbrev pub fields_after : (Keys → ℕ) → Result ℕ Change → Bytes → Bytes
fields_after mask (refused e) before = before
fields_after mask (done (sets_login i a)) before = before
fields_after mask (done (shows c)) before = before
fields_after mask (done (stores i a f)) before = stored_field (mask f.path) f before

-- from the position on stands what is pushed; 0 where nothing is
abbrev pub StandsAt : Result ℕ Change → Bytes → ℕ → Type 0
StandsAt (refused e) text at = at ≡ 0
StandsAt (done (sets_login i a)) text at = at ≡ 0
StandsAt (done (shows c)) text at = at ≡ 0
StandsAt (done (stores i a f)) text at = PushStands text f.path at f.value

-- only an accepted request speaks of a part of the line
abbrev pub Position : Given → Result ℕ Change → Bytes → Type 0
Position (Err e) d text = Unit {0}
Position (Ok (Session n)) d text = Unit {0}
Position (Ok (Length n)) d text = Unit {0}
Position (Ok (Accepted k at)) d text = StandsAt d text at

-- what an effect leaves in memory: the login states, the fields, and the masks beside them
pub record InMemory (w : Effect) (before after : Arrays) : Type 0 where
  pub logins : after.logins ≡ numbers_after w.decided before.logins
  pub fields : after.fields ≡ fields_after w.mask w.decided before.fields
  pub masks : masks_of after ≡ w.masks

-- a line has its effect: the reply with all that it left, in meaning and in memory, and the reply's position
pub record Leaves (w : Effect) (text : Bytes) (before : Arrays) (r : Given) (after : Arrays) (left : Outputs) : Type 0 where
  pub is : outcome_in r (state_of after) left.buffer left.list ≡ w.outcome
  pub memory : InMemory w before after
  pub position : Position r w.decided text

-- a line with what is lent to it
abbrev pub act : Bytes → Outputs → Act
act text given = line text given.buffer given.list

-- an act with its outcome, as it happened in a state
abbrev pub event_of : State → Act → Outcome → Event
event_of s a o = record { before = s; act = a; request = request_of_act a; result = o }

-- a line is served by the masks, whatever the arrays hold
abbrev pub ServedByMasks : Arrays → Bytes → Outputs → Given → Arrays → Outputs → Type 0
ServedByMasks before text given r after left = Leaves (effect_by_masks (state_of before) (masks_of before) (act text given)) text before r after left

-- where the masks agree with the policy it is served as documents 01 and 02 say, and they agree again
abbrev pub ServedByPolicy : Arrays → Bytes → Outputs → Given → Arrays → Outputs → Type 0
ServedByPolicy before text given r after left = Agree before → Leaves (effect_by_policy (state_of before) (act text given)) text before r after left × Agree after

-- a line is served by the masks as d was decided for it
abbrev pub LeavesDecided : Result ℕ Change → Bytes → Arrays → Outputs → Given → Arrays → Outputs → Type 0
LeavesDecided d text before given r after left = Leaves (effect_of (state_of before) (masks_of before) given.buffer given.list d) text before r after left

-- a request that was taken from a line is served by the masks
abbrev pub Answered : Arrays → Bytes → model.Request → Outputs → Given → Arrays → Outputs → Type 0
Answered before text q given r after left =
    LeavesDecided (decide_masked (state_of before) (masks_of before) q (room_for q given.buffer given.list)) text before given r after left

-- LOGIN in a line, whatever the fields, the buffer and the list, which stay
abbrev pub LoginServed : Bytes → List ℕ → Bytes → ℕ → ℕ → Given → List ℕ → Type 0
LoginServed tables before text from cut r after = (fields b : Bytes) (l : List ℕ)
    → Answered (arrays tables before fields) text (request_in text [] (Login from cut)) (outputs b l) r (arrays tables after fields) (outputs b l)

-- GET of a session, whatever the line and the list, which stays
abbrev pub GetServed : Arrays → ℕ → Bytes → Given → Bytes → Type 0
GetServed a n before r after = (text : Bytes) (l : List ℕ) → Answered a text (model.in_session n model.get) (outputs before l) r a (outputs after l)

-- PUSH of a value at a path in a session, whatever the buffer, which stays
abbrev pub PushServed : Arrays → Bytes → ℕ → Keys → Value → List ℕ → Given → Arrays → List ℕ → Type 0
PushServed before text n p v given r after left = (b : Bytes) → Answered before text (model.in_session n (model.push p v)) (outputs b given) r after (outputs b left)

-- LOGOUT of a session, whatever the line, the fields, the buffer and the list, which stay
abbrev pub LogoutServed : Bytes → List ℕ → ℕ → Given → List ℕ → Type 0
LogoutServed tables before n r after = (text fields b : Bytes) (l : List ℕ)
    → Answered (arrays tables before fields) text (model.in_session n model.logout) (outputs b l) r (arrays tables after fields) (outputs b l)

-- a path in canonical bytes and a value within its limits, both standing in the line from a position on
pub record Storable (path text : Bytes) (at : ℕ) (value : Scalar) : Type 0 where
  pub short : length text ≤ max_line
  pub inside : InText value text
  pub stands : PushStands text (path_in path) at (value_in text value)
  pub keyed : is_empty path ≡ false
  pub proper : Proper path (value_in text value)

-- a save, whatever the tables and the login states, at which it does not look
abbrev pub Saved : Bytes → Bytes → Given → Bytes → Type 0
Saved fields before r after = (tables : Bytes) (logins : List ℕ)
    → outcome_in r (state_in tables logins fields) after [] ≡ outcome (state_in tables logins fields) (save before)
