-- What a line that was taken apart asks for, and where in the line it stands.
use Rattle.std.specs.Prelude.{ℕ, ◌+◌, ◌-◌, ◌≤◌, ◌<◌, ◌≡◌, [], ◌∷◌, length, take, drop}
use Rattle.std.specs.Prelude.{Option, None, Some, option_map, IfSome, MatchOption}
use Rattle.model.specs.Base.{Bytes, text, between, after}
use Rattle.model.specs.Values.{Value, value_text}
use Rattle.model.specs.Fields.{Keys}
use Rattle.model.specs.Paths.{keys_text}
use Rattle.model.specs.Requests as model
use Rattle.paths.specs.Layout.{CanonicalPath}
use Rattle.values.specs.Scalars.{value_in, InText}
use Rattle.requests.specs.declared.Ask.{Ask}
use Rattle.requests.specs.declared.Ask.TheVariants.{Get, Push, Logout}
use Rattle.requests.specs.declared.Request.{Request}
use Rattle.requests.specs.declared.Request.TheVariants.{Login, InSession}

-- ── What is asked for ──
-- p is the path in the slot
abbrev pub ask_in : Bytes → Keys → Ask → model.Ask
ask_in s p Get = model.get
ask_in s p (Push at v) = model.push p (value_in s v)
ask_in s p Logout = model.logout

-- the user stands from a position on, the key behind the `;` at m
abbrev pub request_in : Bytes → Keys → Request → model.Request
request_in s p (Login from m) = model.login (take (m - from) (drop from s)) (drop (m + 1) s)
request_in s p (InSession n a) = model.in_session n (ask_in s p a)

-- ── Where it stands ──
-- a path and a value as a line has them
unfoldable pub pushed_text : Keys → Value → Bytes
pushed_text p v = between (text ";") (keys_text p ∷ value_text v ∷ [])

-- the position lies in the line, and from there on stands what is pushed
pub record PushStands (s : Bytes) (p : Keys) (at : ℕ) (v : Value) : Type 0 where
  pub within : at ≤ length s
  pub pushed : drop at s ≡ pushed_text p v

abbrev pub AskStands : Bytes → Keys → Ask → Type 0
AskStands s p Get = Unit {0}
AskStands s p (Push at v) = InText v s × PushStands s p at (value_in s v)
AskStands s p Logout = Unit {0}

abbrev pub RequestStands : Bytes → Keys → Request → Type 0
RequestStands s p (Login from m) = (from ≤ m) × (m < length s)
RequestStands s p (InSession n a) = AskStands s p a

-- ── The readers ──
-- where a line goes on behind the word that it begins with
abbrev pub Behind : Bytes → Bytes → Option ℕ → Type 0
Behind w s r = MatchOption r (after w s ≡ None) (λ e. (after w s ≡ Some (drop e s)) × (e ≤ length s))

-- a reader of lines answers what the model's does, and says where it stands
pub record ReadsAs (read : Bytes → Option model.Request) (s : Bytes) (p : Keys) (r : Option Request) : Type 0 where
  pub asks : option_map (request_in s p) r ≡ read s
  pub stands : IfSome r (RequestStands s p)

-- a word with a session number behind it and nothing more asks for a, where a stands in the line
abbrev pub AsksFor : Bytes → Ask → Bytes → Option Request → Type 0
AsksFor w a s r = (p : Keys) → AskStands s p a → ReadsAs (model.read_ask w (ask_in s p a)) s p r

-- the slot for a path keeps its bytes unless a push is read: then they are its path's, each of them
abbrev pub SlotAfter : Option Request → Bytes → Bytes → Type 0
SlotAfter (Some (Login from m)) before now = now ≡ before
SlotAfter (Some (InSession n Get)) before now = now ≡ before
SlotAfter (Some (InSession n (Push at v))) before now = CanonicalPath now
SlotAfter (Some (InSession n Logout)) before now = now ≡ before
SlotAfter None before now = now ≡ before
