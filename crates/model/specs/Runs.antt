-- Document 01, "Request lines", last part; document 02, request 1: a run, what a set of users sends in it, and what it gets. A set is given by a test of the user index.
use Rattle.std.specs.Prelude.{ℕ, List, [], ◌∷◌, ◌++◌, map, Bool, true, false, not, ◌&&◌, eqb, length, take, if◌then◌else◌}
use Rattle.std.specs.Prelude.{Option, None, Some}
use Rattle.model.specs.Base.{Bytes, text, any, keep, joined, range, is_some, between, ◌>>=◌, decimal}
use Rattle.model.specs.Values.{Value, value_text}
use Rattle.model.specs.Fields.{Keys, Field, Fields, holds}
use Rattle.model.specs.Paths.{keys_text}
use Rattle.model.specs.Tables.{Tables, user_at, user_named}
use Rattle.model.specs.Opening.{State}
use Rattle.model.specs.Requests.{Request, login, in_session, request_of, push_of, logout_of}
use Rattle.model.specs.Serving.{index_in, is_session, login_at, reads_at, room_for, Answer, refusal, session, length_is, accepted, Act, line, save, Outcome, outcome}
use Rattle.model.specs.Serving

-- ── "A run is one accepted opening, .. and then a list of request lines and saves" ──
-- what an act asks for: nothing, if it is a save or a line that cannot be taken apart
unfoldable pub request_of_act : Act → Option Request
request_of_act (line t b l) = request_of t
request_of_act (save b) = None

-- an act as it happened
pub record Event : Type 0 where
  pub before : State
  pub act : Act
  pub request : Option Request
  pub result : Outcome

-- an act as it happens in a state
abbrev pub event_in : State → Act → Event
event_in s a = record { before = s; act = a; request = request_of_act a; result = outcome s a }

-- "each act gets what the one before returned, refused or not"
unfoldable pub events : State → List Act → List Event
events s [] = []
events s (a ∷ acts) = let e = event_in s a in e ∷ events e.result.state acts

-- the state after the acts
unfoldable pub end : State → List Act → State
end s [] = s
end s (a ∷ acts) = end (outcome s a).state acts

-- ── Whose a request is ──
unfoldable pub index_of : {A : Type 0} → Option (ℕ × A) → Option ℕ
index_of None = None
index_of (Some t) = Some t.0

-- an index, if there is a user
unfoldable pub if_user : Tables → ℕ → Option ℕ
if_user t i = if is_some (user_at t.users i) then Some i else None

-- "LOGIN lines naming that user and GET or PUSH lines whose number divided by 65,536, rounded down, is that user's place"; LOGOUT lines
-- too: "by its number it is one of the user's own requests" (02, 1)
unfoldable pub owner : Tables → Request → Option ℕ
owner t (login u k) = index_of (user_named u t.users)
owner t (in_session n a) = if_user t (index_in n)

unfoldable pub owner_in : Event → Option ℕ
owner_in e = e.request >>= owner e.before.tables

-- the field that a request is to store
unfoldable pub push_in : Event → Option Field
push_in e = e.request >>= push_of

unfoldable pub in_set : (ℕ → Bool) → Option ℕ → Bool
in_set set None = false
in_set set (Some i) = set i

-- the set of one user
unfoldable pub only : ℕ → ℕ → Bool
only i j = eqb j i

-- a path that at least one of the set may read
unfoldable pub seen : (ℕ → Bool) → Tables → Keys → Bool
seen set t p = any (λ i. set i && reads_at t i p) (range 0 (length t.users))

-- the fields that the set sees
unfoldable pub seen_fields : (ℕ → Bool) → State → Fields
seen_fields set s = keep (λ f. seen set s.tables f.path) s.fields

unfoldable pub is_accepted : Answer → Bool
is_accepted (refusal e) = false
is_accepted (session n) = true
is_accepted (length_is n) = true
is_accepted accepted = true

-- ── The sequence: the set's own requests and the others' pushes ──
-- "two are the same if the line and the length lent, where there is one, are", "if path and value are"
pub data Item : Type 0 where
  own : Bytes → ℕ → Item
  others : Keys → Value → Item

-- "A user's requests are, among lines not refused 11, .. with the lengths lent"
unfoldable pub own_request : Act → Option Request → List Item
own_request (save b) q = []
own_request (line t b l) None = []
own_request (line t b l) (Some q) = own t (room_for q b l) ∷ []

-- "The others' pushes are the accepted PUSH lines that are not the user's requests and name a path the user may read"
unfoldable pub others_push : (ℕ → Bool) → State → Answer → Option Field → List Item
others_push set s a None = []
others_push set s a (Some f) = if is_accepted a && seen set s.tables f.path then others f.path f.value ∷ [] else []

unfoldable pub items : (ℕ → Bool) → Event → List Item
items set e = if in_set set (owner_in e) then own_request e.act e.request else others_push set e.before e.result.answer (push_in e)

-- "Both kinds together, in the order of a run's list, are one sequence"
unfoldable pub sequence : (ℕ → Bool) → List Event → List Item
sequence set es = joined (map (items set) es)

-- ── What the set gets: each thing with the index of its user ──
pub data Got : Type 0 where
  answer : ℕ → Answer → Got
  copy : ℕ → Bytes → Got
  delivery : ℕ → Bytes → Got

-- "a line `TO;session;path;value` .., with path and value as pushed"
unfoldable pub delivery_line : Keys → Value → ℕ → Bytes
delivery_line p v n = between (text ";") (text "TO" ∷ decimal n ∷ keys_text p ∷ value_text v ∷ [])

-- "with an accepted GET the copy, as many first bytes of the buffer as the answer says"
unfoldable pub copies : ℕ → Bytes → Answer → List Got
copies i b (refusal e) = []
copies i b (session n) = []
copies i b (length_is n) = copy i (take n b) ∷ []
copies i b accepted = []

-- "for each own request its answer"
unfoldable pub answers : (ℕ → Bool) → Outcome → Option ℕ → List Got
answers set o None = []
answers set o (Some i) = if set i then answer i o.answer ∷ copies i o.buffer o.answer else []

-- "for each accepted push the deliveries, .. for each number its list received that, divided as above, gives the user's place"
unfoldable pub deliveries : (ℕ → Bool) → Outcome → Option Field → List Got
deliveries set o None = []
deliveries set o (Some f) =
    map (λ m. delivery (index_in m) (delivery_line f.path f.value m)) (keep (λ m. set (index_in m)) (take o.told o.list))

unfoldable pub got_in : (ℕ → Bool) → Event → List Got
got_in set e = answers set e.result (owner_in e) ++ deliveries set e.result (push_in e)

-- "All this is one sequence"
unfoldable pub got : (ℕ → Bool) → List Event → List Got
got set es = joined (map (got_in set) es)

-- ── The sum ──
unfoldable pub creates_by : State → Answer → Option Field → Bool
creates_by s a None = false
creates_by s a (Some f) = is_accepted a && not (holds f.path s.fields)

-- "accepted pushes since the opening that named an absent field"
unfoldable pub creates : Event → Bool
creates e = creates_by e.before e.result.answer (push_in e)

-- of those, the ones that belong to the user at index i
unfoldable pub created_by : ℕ → Event → Bool
created_by i e = in_set (only i) (owner_in e) && creates e

-- ── Sessions ──
-- an open session has this number
unfoldable pub is_open_number : State → ℕ → Bool
is_open_number s n = is_session (index_in n) (login_at s (index_in n)) n

-- the session number that is answered
unfoldable pub session_in : Answer → Option ℕ
session_in (refusal e) = None
session_in (session n) = Some n
session_in (length_is n) = None
session_in accepted = None

-- a login that answers the number n
unfoldable pub gives : ℕ → Event → Bool
gives n e = in_set (only n) (session_in e.result.answer)

-- an accepted login of the user at index i
unfoldable pub login_by : ℕ → Event → Bool
login_by i e = in_set (only i) (owner_in e) && is_some (session_in e.result.answer)

-- an accepted LOGOUT of the number n
unfoldable pub closes : ℕ → Event → Bool
closes n e = in_set (only n) (e.request >>= logout_of) && is_accepted e.result.answer

-- a login answered the number n, and no LOGOUT closed it
unfoldable pub is_open_after : List Event → ℕ → Bool
is_open_after es n = any (gives n) es && not (any (closes n) es)

unfoldable pub Opened : Unit {0}
unfolding Serving.Opened request_of_act events end index_of if_user owner owner_in push_in in_set only seen seen_fields is_accepted own_request others_push items sequence delivery_line copies answers deliveries got_in got creates_by creates created_by is_open_number session_in gives login_by closes is_open_after
Opened = tt
