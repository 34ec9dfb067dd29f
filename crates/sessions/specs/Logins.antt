-- What the numbers of the login states mean, whatever they are.
use Rattle.std.specs.Prelude.{ℕ, ◌*◌, ◌≡◌, Bool, true, false, not, List, [], ◌∷◌, map, eqb, get_or, set, if◌then◌else◌}
use Rattle.std.specs.Prelude.{Option, None, Some}
use Rattle.std.specs.Prelude as std
use Rattle.rows.specs.Rows.{rows, written}
use Rattle.model.specs.Base.{Bytes}
use Rattle.model.specs.Limits.{max_users}
use Rattle.model.specs.Refusals.{Result, refused, done}
use Rattle.model.specs.Tables.{User, user_at}
use Rattle.model.specs.Opening.{LoginState, empty_login}
use Rattle.model.specs.Serving as serving
use Rattle.model.specs.Serving.{Change, sets_login, shows, stores, is_session, index_in, count_in, session_number, decide_login}
use Rattle.refusals.specs.declared.Refusal.{Refusal}
use Rattle.refusals.specs.Numbers.{numbered}
use Rattle.tables.specs.Memory.{users_in}
use Rattle.sessions.specs.declared.LoginState as code
use Rattle.sessions.specs.declared.NumberParts.{NumberParts}

-- ── Sizes, in numbers ──
-- a login state: the logins, whether a session is open, the fields created
abbrev pub login_row : ℕ
login_row = 3

abbrev pub login_numbers : ℕ
login_numbers = max_users * login_row

-- ── Meanings ──
-- a login state in three numbers
unfoldable pub login_in : List ℕ → LoginState
login_in row = record { logins = get_or row 0 0; is_open = not (eqb (get_or row 1 0) 0); created = get_or row 2 0 }

-- one for each user index
unfoldable pub logins_in : List ℕ → List LoginState
logins_in s = map login_in (rows login_row max_users s)

unfoldable pub state_of : code.LoginState → LoginState
state_of s = record { logins = s.logins; is_open = s.is_open; created = s.created }

-- ── A login state stored ──
-- its three numbers
unfoldable pub numbers_of : LoginState → List ℕ
numbers_of a = a.logins ∷ (if a.is_open then 1 else 0) ∷ a.created ∷ []

-- they are written at the index i, and no other number is
unfoldable pub with_login : ℕ → LoginState → List ℕ → List ℕ
with_login i a s = written (i * login_row) (numbers_of a) s

-- the login state at the index i becomes this one, in numbers and in meaning
pub record StateStored (before : List ℕ) (i : ℕ) (a : LoginState) (after : List ℕ) : Type 0 where
  pub numbers : after ≡ with_login i a before
  pub states : logins_in after ≡ set (logins_in before) i a

-- the numbers, once it is decided what a request changes
abbrev pub numbers_after : Result ℕ Change → List ℕ → List ℕ
numbers_after (refused e) s = s
numbers_after (done (sets_login i a)) s = with_login i a s
numbers_after (done (shows c)) s = s
numbers_after (done (stores i a f)) s = with_login i a s

-- ── A session opened or closed ──
-- with n logins, and a session or none; the fields created stay counted
unfoldable pub with_session : LoginState → ℕ → Bool → LoginState
with_session a n t = record { logins = n; is_open = t; created = a.created }

-- the login state after a login and after a logout, kept shut for the proofs
unfoldable pub entered : LoginState → LoginState
entered a = serving.entered a

unfoldable pub closed : LoginState → LoginState
closed a = serving.closed a

-- ── A login ──
-- a login looks at the users and the login states alone
unfoldable pub login_decided : List User → List LoginState → Bytes → Bytes → Result ℕ Change
login_decided us ls n k = decide_login (record { tables = record { users = us; policy = [] }; login_states = ls; fields = [] }) n k

-- the session's number, or the refusal
abbrev pub login_answer : Result ℕ Change → Result ℕ ℕ
login_answer (refused e) = refused e
login_answer (done (sets_login i a)) = done (session_number i a)
login_answer (done (shows c)) = refused 0
login_answer (done (stores i a f)) = refused 0

-- the login states once it is decided
abbrev pub logins_after : List LoginState → Result ℕ Change → List LoginState
logins_after ls (refused e) = ls
logins_after ls (done (sets_login i a)) = set ls i a
logins_after ls (done (shows c)) = ls
logins_after ls (done (stores i a f)) = ls

-- a login of a name with a key: what is decided for it is answered and done, in meaning and in numbers
pub record LoggedIn (tables : Bytes) (before : List ℕ) (name key : Bytes) (r : std.Result ℕ Refusal) (after : List ℕ) : Type 0 where
  pub answers : numbered r ≡ login_answer (login_decided (users_in tables) (logins_in before) name key)
  pub leaves : logins_in after ≡ logins_after (logins_in before) (login_decided (users_in tables) (logins_in before) name key)
  pub numbers : after ≡ numbers_after (login_decided (users_in tables) (logins_in before) name key) before

-- ── A session's number ──
-- "The place and the count found are those of document 01's division, for every number a line may carry" (02, 3)
abbrev pub parts_in : ℕ → NumberParts
parts_in n = record { index = index_in n; logins = count_in n }

unfoldable pub session_is : Option User → ℕ → LoginState → ℕ → Bool
session_is None i a n = false
session_is (Some u) i a n = is_session i a n

-- whether an open session of a user has the number n
unfoldable pub has_session : List User → List LoginState → ℕ → Bool
has_session us ls n = session_is (user_at us (index_in n)) (index_in n) (get_or ls (index_in n) empty_login) n

-- the index of the user whose open session has the number n, by the arrays
abbrev pub session_of : Bytes → List ℕ → ℕ → Option ℕ
session_of tables logins n = if has_session (users_in tables) (logins_in logins) n then Some (index_in n) else None
