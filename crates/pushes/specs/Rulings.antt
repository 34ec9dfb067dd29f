-- What a push is decided to be, but for the list's length.
use Rattle.std.specs.Prelude.{ℕ, ◌≡◌, List}
use Rattle.std.specs.Prelude as std
use Rattle.std.specs.Prelude.{Ok, Err}
use Rattle.model.specs.Base.{Bytes}
use Rattle.model.specs.Limits.{list_room}
use Rattle.model.specs.Values.{Value}
use Rattle.model.specs.Fields.{Keys, Fields, field_of}
use Rattle.model.specs.Refusals.{Result, refused, done}
use Rattle.model.specs.Tables.{Tables}
use Rattle.model.specs.Opening.{LoginState}
use Rattle.model.specs.Serving.{Change, stores, decide_push}
use Rattle.paths.specs.Layout.{path_in}
use Rattle.tables.specs.Memory.{tables_in}
use Rattle.record.specs.Slots.{fields_in}
use Rattle.record.specs.Search.{place_in}
use Rattle.sessions.specs.Logins.{logins_in, state_of}
use Rattle.refusals.specs.declared.Refusal.{Refusal}
use Rattle.refusals.specs.Numbers.{number_of}
use Rattle.pushes.specs.declared.Ruling.{Ruling}

-- the refusal, or the change for a path and a value
abbrev pub ruling_answer : std.Result Ruling Refusal → Keys → Value → Result ℕ Change
ruling_answer (Err e) p v = refused (number_of e)
ruling_answer (Ok r) p v = done (stores r.index (state_of r.state) (field_of p v))

-- a field is stored where the search for its path ends
abbrev pub PlaceFound : std.Result Ruling Refusal → Keys → Fields → Type 0
PlaceFound (Err e) p fs = Unit {0}
PlaceFound (Ok r) p fs = r.place ≡ place_in 0 p fs

-- what is decided of a push, to which a list that is long enough was lent: "14; 16 ..; 17 .."
unfoldable pub push_decided : Tables → List LoginState → Fields → ℕ → Keys → Value → Result ℕ Change
push_decided t ls fs n p v = decide_push (record { tables = t; login_states = ls; fields = fs }) n p v list_room

-- the ruling on a push at a path says what is decided, whatever the value, and where the search for the path ends
pub record RuledAs (tables : Bytes) (logins : List ℕ) (fields : Bytes) (n : ℕ) (path : Bytes) (r : std.Result Ruling Refusal) : Type 0 where
  pub answers : (v : Value) → ruling_answer r (path_in path) v ≡ push_decided (tables_in tables) (logins_in logins) (fields_in fields) n (path_in path) v
  pub place : PlaceFound r (path_in path) (fields_in fields)
