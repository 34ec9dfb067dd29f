-- Whom a push reaches, from the login states and the mask of the field's readers, and the line that is sent.
use Rattle.std.specs.Prelude.{ℕ, ◌+◌, ◌*◌, ◌≡◌, Bool, not, ◌&&◌, List, [], ◌∷◌, map, eqb, length, get_or, take}
use Rattle.model.specs.Base.{Bytes, text, joined, keep, range, decimal}
use Rattle.model.specs.Limits.{max_users, max_line}
use Rattle.model.specs.Opening.{LoginState, empty_login}
use Rattle.model.specs.Serving.{session_number, over, table_line}
use Rattle.masks.specs.Bits.{bit_at}
use Rattle.sessions.specs.Logins.{logins_in}

-- ── Whom a push reaches ──
-- the user at j has an open session, is not the sender at i, and is marked
unfoldable pub receives : List LoginState → ℕ → ℕ → ℕ → Bool
receives ls i m j = (get_or ls j empty_login).is_open && not (eqb j i) && bit_at m j

-- "ascending, the numbers of all other open sessions whose user may read the path", where the mask m says who may
unfoldable pub receivers_of : List LoginState → ℕ → ℕ → List ℕ
receivers_of ls i m = map (λ j. session_number j (get_or ls j empty_login)) (keep (receives ls i m) (range 0 max_users))

-- a push by the user at i: the numbers of all whom it reaches stand at the start of the list, whose rest is as it was; `told` counts them
pub record Listed (logins : List ℕ) (i mask : ℕ) (before : List ℕ) (told : ℕ) (after : List ℕ) : Type 0 where
  pub listed : after ≡ over (receivers_of (logins_in logins) i mask) before
  pub counted : told ≡ length (receivers_of (logins_in logins) i mask)

-- ── The lines that are sent ──
-- a session's number has at most ten digits
abbrev pub max_digits : ℕ
max_digits = 10

-- the longest line: `TO;`, a number, `;`, what was pushed, and 0A
abbrev pub delivery_text : ℕ
delivery_text = 3 + max_digits + 1 + max_line + 1

-- the longest text of all lines for a push
abbrev pub deliveries_text : ℕ
deliveries_text = max_users * delivery_text

-- a line `TO;session;path;value`, path and value as they were pushed
unfoldable pub delivery_of : Bytes → ℕ → Bytes
delivery_of pushed n = table_line (text "TO" ∷ decimal n ∷ pushed ∷ [])

-- the lines for the first `told` numbers of a list
abbrev pub deliveries_of : Bytes → List ℕ → ℕ → Bytes
deliveries_of pushed list told = joined (map (delivery_of pushed) (take told list))
