-- Document 01, "Request lines": "A line is first taken apart; one that cannot be is refused 11"; with document 02, request 1.
use Rattle.std.specs.Prelude.{ℕ, List, [], ◌∷◌, ◌&&◌, leb, length}
use Rattle.std.specs.Prelude.{Option, None, Some}
use Rattle.model.specs.Base.{Bytes, text, ◌>>=◌, ◌>>◌, ◌<|>◌, check, after, cut, number}
use Rattle.model.specs.Limits.{max_line, max_session}
use Rattle.model.specs.Names.{is_name}
use Rattle.model.specs.Values.{Value, value_of}
use Rattle.model.specs.Fields.{Keys, Field, field_of}
use Rattle.model.specs.Paths.{keys_of}
use Rattle.model.specs.Paths

-- what a session asks for
pub data Ask : Type 0 where
  get : Ask
  push : Keys → Value → Ask
  logout : Ask

-- a login by user and key, or what the session of a number asks for
pub data Request : Type 0 where
  login : Bytes → Bytes → Request
  in_session : ℕ → Ask → Request

-- "A session number is decimal, no leading zero but in `0` itself, at most 4,294,967,295"
unfoldable pub session_of : Bytes → Option ℕ
session_of s = number max_session s

-- "`LOGIN;user;key`, both names"
unfoldable pub read_login : Bytes → Option Request
read_login s = do
  r ← after (text "LOGIN;") s
  (u, k) ← cut 0x3B r
  check (is_name u && is_name k)
  Some (login u k)

-- a word with a session number behind it and nothing more
unfoldable pub read_ask : Bytes → Ask → Bytes → Option Request
read_ask word a s = do
  r ← after word s
  n ← session_of r
  Some (in_session n a)

-- "`GET;session`"
unfoldable pub read_get : Bytes → Option Request
read_get s = read_ask (text "GET;") get s

-- "`PUSH;session;path;value`, the value running to the line's end without blanks"
unfoldable pub read_push : Bytes → Option Request
read_push s = do
  r ← after (text "PUSH;") s
  (n, r₁) ← cut 0x3B r
  (p, v) ← cut 0x3B r₁
  Some (in_session (← session_of n) (push (← keys_of p) (← value_of v)))

-- "`LOGOUT;session`" (02, 1)
unfoldable pub read_logout : Bytes → Option Request
read_logout s = read_ask (text "LOGOUT;") logout s

-- "begins with one of the words `LOGIN;`, `GET;` or `PUSH;`", or with `LOGOUT;` (02, 1): the reader of each
unfoldable pub readers : List (Bytes → Option Request)
readers = read_login ∷ read_get ∷ read_push ∷ read_logout ∷ []

-- what the first reader that can read a line reads
unfoldable pub first_of : {A : Type 0} → List (Bytes → Option A) → Bytes → Option A
first_of [] s = None
first_of (r ∷ rs) s = r s <|> first_of rs s

-- "one line of at most 256 bytes": what it asks for
unfoldable pub request_of : Bytes → Option Request
request_of s = check (leb (length s) max_line) >> first_of readers s

-- the field that a request is to store, and that others are told of
unfoldable pub push_of : Request → Option Field
push_of (login u k) = None
push_of (in_session n get) = None
push_of (in_session n (push p v)) = Some (field_of p v)
push_of (in_session n logout) = None

-- the number of the session that a request is to close
unfoldable pub logout_of : Request → Option ℕ
logout_of (login u k) = None
logout_of (in_session n get) = None
logout_of (in_session n (push p v)) = None
logout_of (in_session n logout) = Some n

unfoldable pub Opened : Unit {0}
unfolding Paths.Opened session_of read_login read_ask read_get read_push read_logout readers first_of request_of push_of logout_of
Opened = tt
