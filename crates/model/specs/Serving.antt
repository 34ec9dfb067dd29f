-- Document 01, "Request lines": LOGIN, GET, PUSH and save; document 02, request 1: LOGOUT. What is decided only reads the state; what is decided then changes it.
use Rattle.std.specs.Prelude.{ℕ, suc, ◌+◌, ◌*◌, ◌/◌, ◌%◌, List, [], ◌∷◌, ◌++◌, map, Bool, true, false, not, ◌&&◌, leb, ltb, eqb, length, drop, set, get_or, if◌then◌else◌}
use Rattle.std.specs.Prelude.{Option, None, Some}
use Rattle.model.specs.Base.{Bytes, text, keep, joined, range, between, ◌≐◌}
use Rattle.model.specs.Limits.{per_user, list_room, max_logins}
use Rattle.model.specs.Values.{Value}
use Rattle.model.specs.Fields.{Keys, Field, Fields, holds, store, field_of}
use Rattle.model.specs.SavedText.{saved}
use Rattle.model.specs.Paths.{steps_text}
use Rattle.model.specs.Refusals.{Result, refused, done, ◌>>=◌, ◌>>◌, refuse◌if◌, ◌or◌}
use Rattle.model.specs.Tables.{Binding, User, Access, READ, WRITE, Rule, Tables, user_at, user_named}
use Rattle.model.specs.Rights.{is_for, may_read, may_write}
use Rattle.model.specs.Opening.{LoginState, State, empty_login}
use Rattle.model.specs.Requests.{Request, login, in_session, get, push, logout, request_of}
use Rattle.model.specs.SavedText
use Rattle.model.specs.Opening
use Rattle.model.specs.Requests

-- ── Sessions ──
-- "65,536 times the user's place, plus that user's logins"
unfoldable pub session_number : ℕ → LoginState → ℕ
session_number i a = per_user * i + a.logins

-- "number divided by 65,536, rounded down, is that user's place"
unfoldable pub index_in : ℕ → ℕ
index_in n = n / per_user

-- "and the remainder is the login count" (02, 3)
unfoldable pub count_in : ℕ → ℕ
count_in n = n % per_user

-- an open session has this number
unfoldable pub is_session : ℕ → LoginState → ℕ → Bool
is_session i a n = a.is_open && eqb (session_number i a) n

unfoldable pub login_at : State → ℕ → LoginState
login_at s i = get_or s.login_states i empty_login

-- ── The copy ──
unfoldable pub access_text : Access → Bytes
access_text READ = text "READ"
access_text WRITE = text "WRITE"

-- values with `;` between; "Each line ends with 0A"
unfoldable pub table_line : List Bytes → Bytes
table_line vs = between (text ";") vs ++ text "\n"

-- "with the user's role put in and the standard spelling"
unfoldable pub rule_line : User → Rule → Bytes
rule_line u r = table_line (u.role ∷ access_text r.access ∷ steps_text r.path ∷ [])

unfoldable pub binding_line : Binding → Bytes
binding_line b = table_line (b.name ∷ b.value ∷ [])

-- "The copy is `role;access;path`, the policy lines of the user's role and of `*` in policy order ..; then `name;value` and
-- the user's environment lines in order; then the readable fields as saved text"
unfoldable pub copy_of : List Rule → User → Fields → Bytes
copy_of rs u fs = joined (
    table_line (text "role" ∷ text "access" ∷ text "path" ∷ []) ∷
    joined (map (rule_line u) (keep (is_for u) rs)) ∷
    table_line (text "name" ∷ text "value" ∷ []) ∷
    joined (map binding_line u.environment) ∷
    saved fs ∷ text "\n" ∷ [])

-- the fields that the user may read
unfoldable pub readable : List Rule → User → Fields → Fields
readable rs u fs = keep (λ f. may_read rs u f.path) fs

-- what GET shows a user
unfoldable pub copy_for : State → User → Bytes
copy_for s u = copy_of s.tables.policy u (readable s.tables.policy u s.fields)

-- ── Decisions: each word's grounds in the order of its sentence ──
pub data Change : Type 0 where
  sets_login : ℕ → LoginState → Change  -- the login state at an index becomes this one
  shows : Bytes → Change  -- a text goes into the buffer
  stores : ℕ → LoginState → Field → Change  -- a field holds its value, and the login state at an index becomes this one

-- the user whose open session has a number
pub record Asker : Type 0 where
  pub index : ℕ
  pub user : User
  pub login : LoginState

-- "14 no open session has this number"
unfoldable pub asker : State → ℕ → Result ℕ Asker
asker s n = do
  let i = index_in n
  u ← user_at s.tables.users i or 14
  refuse 14 if not (is_session i (login_at s i) n)
  done (record { index = i; user = u; login = login_at s i })

-- "15 the lent buffer is shorter" than the text
unfoldable pub decide_show : Bytes → ℕ → Result ℕ Change
decide_show c room = do
  refuse 15 if ltb room (length c)
  done (shows c)

-- a login: one more, and a session is open
abbrev pub entered : LoginState → LoginState
entered a = record { logins = suc a.logins; is_open = true; created = a.created }

-- "12 user unknown or key wrong; 13 the user has a session"; "18, last, when the user has had 65,535 logins" (02, 1)
unfoldable pub decide_login : State → Bytes → Bytes → Result ℕ Change
decide_login s n k = do
  (i, u) ← user_named n s.tables.users or 12
  refuse 12 if not (u.key ≐ k)
  refuse 13 if (login_at s i).is_open
  refuse 18 if leb max_logins (login_at s i).logins
  done (sets_login i (entered (login_at s i)))

-- "14 no open session has this number; 15 the lent buffer is shorter than the copy"
unfoldable pub decide_get : State → ℕ → ℕ → Result ℕ Change
decide_get s n room = do
  a ← asker s n
  decide_show (copy_for s a.user) room

-- a field more is created unless it was held
unfoldable pub creating : LoginState → Bool → LoginState
creating a held = record { logins = a.logins; is_open = a.is_open; created = if held then a.created else suc a.created }

-- "15 the lent delivery list has fewer than 32 numbers; 14; 16 the user may not write the path; 17 the field is absent and the user has
-- created as many as the allowance"
unfoldable pub decide_push : State → ℕ → Keys → Value → ℕ → Result ℕ Change
decide_push s n p v room = do
  refuse 15 if ltb room list_room
  a ← asker s n
  refuse 16 if not (may_write s.tables.policy a.user p)
  refuse 17 if not (holds p s.fields) && leb a.user.quota a.login.created
  done (stores a.index (creating a.login (holds p s.fields)) (field_of p v))

-- a logout: the session is closed; "The fields the user created stay counted"
abbrev pub closed : LoginState → LoginState
closed a = record { logins = a.logins; is_open = false; created = a.created }

-- "LOGOUT gives 11, then 14" (02, 1)
unfoldable pub decide_logout : State → ℕ → Result ℕ Change
decide_logout s n = do
  a ← asker s n
  done (sets_login a.index (closed a.login))

-- the length of what a request writes into, 0 where it writes into nothing
unfoldable pub room_for : Request → Bytes → List ℕ → ℕ
room_for (login u k) b l = 0
room_for (in_session n get) b l = length b
room_for (in_session n (push p v)) b l = length l
room_for (in_session n logout) b l = 0

-- what a request, with that length, is decided to be
unfoldable pub decide : State → Request → ℕ → Result ℕ Change
decide s (login u k) room = decide_login s u k
decide s (in_session n get) room = decide_get s n room
decide s (in_session n (push p v)) room = decide_push s n p v room
decide s (in_session n logout) room = decide_logout s n

-- "Save: 15 the buffer is too short; else it writes the saved text without 0A"
unfoldable pub decide_save : State → ℕ → Result ℕ Change
decide_save s room = decide_show (saved s.fields) room

-- ── What a decision changes, whom it reaches, and what is answered ──
unfoldable pub apply : Change → State → State
apply (sets_login i a) s = record { tables = s.tables; login_states = set s.login_states i a; fields = s.fields }
apply (shows c) s = s
apply (stores i a f) s = record { tables = s.tables; login_states = set s.login_states i a; fields = store f s.fields }

unfoldable pub reads_by : List Rule → Option User → Keys → Bool
reads_by rs None p = false
reads_by rs (Some u) p = may_read rs u p

-- the user at an index may read a path
unfoldable pub reads_at : Tables → ℕ → Keys → Bool
reads_at t i p = reads_by t.policy (user_at t.users i) p

-- "ascending, the numbers of all other open sessions whose user may read the path"
unfoldable pub receivers : State → ℕ → Keys → List ℕ
receivers s i p =
    map (λ j. session_number j (login_at s j))
    (keep (λ j. (login_at s j).is_open && not (eqb j i) && reads_at s.tables j p) (range 0 (length s.tables.users)))

-- the numbers that the list receives
unfoldable pub notified : State → Change → List ℕ
notified s (sets_login i a) = []
notified s (shows c) = []
notified s (stores i a f) = receivers s i f.path

-- the text that the buffer receives
unfoldable pub shown : Change → Bytes
shown (sets_login i a) = []
shown (shows c) = c
shown (stores i a f) = []

pub data Answer : Type 0 where
  refusal : ℕ → Answer
  session : ℕ → Answer
  length_is : ℕ → Answer
  accepted : Answer

-- "The answer is the session number", "the copy's length", "the sender's answer shows neither list nor its length"; bare acceptance where a session is closed
unfoldable pub answer_of : Change → Answer
answer_of (sets_login i a) = if a.is_open then session (session_number i a) else accepted
answer_of (shows c) = length_is (length c)
answer_of (stores i a f) = accepted

-- ── Acts ──
-- a line with its buffer and its list, or a save with its buffer
pub data Act : Type 0 where
  line : Bytes → Bytes → List ℕ → Act
  save : Bytes → Act

-- what is lent: the buffer, and the list, which a save has none of
unfoldable pub buffer_of : Act → Bytes
buffer_of (line t b l) = b
buffer_of (save b) = b

unfoldable pub list_of : Act → List ℕ
list_of (line t b l) = l
list_of (save b) = []

-- "A line is first taken apart; one that cannot be is refused 11"
unfoldable pub decide_line : State → Bytes → List ℕ → Option Request → Result ℕ Change
decide_line s b l None = refused 11
decide_line s b l (Some q) = decide s q (room_for q b l)

-- what an act is decided to be
unfoldable pub decision : State → Act → Result ℕ Change
decision s (line t b l) = decide_line s b l (request_of t)
decision s (save b) = decide_save s (length b)

-- what an act leaves: the answer, the state, the buffer, the list, and how many numbers the list received
pub record Outcome : Type 0 where
  pub answer : Answer
  pub state : State
  pub buffer : Bytes
  pub list : List ℕ
  pub told : ℕ

-- a buffer or a list with new content at its start: "bytes behind it keep their values", "the rest of it is unchanged"
unfoldable pub over : {A : Type 0} → List A → List A → List A
over new old = new ++ drop (length new) old

unfoldable pub unchanged : State → Bytes → List ℕ → ℕ → Outcome
unchanged s b l e = record { answer = refusal e; state = s; buffer = b; list = l; told = 0 }

unfoldable pub conclude : State → Bytes → List ℕ → Result ℕ Change → Outcome
conclude s b l (refused e) = unchanged s b l e
conclude s b l (done c) = record {
  answer = answer_of c;
  state = apply c s;
  buffer = over (shown c) b;
  list = over (notified s c) l;
  told = length (notified s c);
}

unfoldable pub outcome : State → Act → Outcome
outcome s a = conclude s (buffer_of a) (list_of a) (decision s a)

unfoldable pub Opened : Unit {0}
unfolding SavedText.Opened Opening.Opened Requests.Opened session_number index_in count_in is_session login_at access_text table_line rule_line binding_line copy_of readable copy_for asker decide_show decide_login decide_get creating decide_push decide_logout room_for decide decide_save apply reads_by reads_at receivers notified shown answer_of buffer_of list_of decide_line decision over unchanged conclude outcome
Opened = tt
