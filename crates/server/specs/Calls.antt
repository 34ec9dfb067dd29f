-- Lists of calls on memory, each of which does what its contract says, and the claims about the masks (document 02, request 2).
use Rattle.std.specs.Prelude.{ℕ, ◌<◌, ◌≡◌, true, false, List, [], ◌∷◌, map, length, get_or, take, replicate}
use Rattle.std.specs.Prelude as std
use Rattle.std.specs.Prelude.{Ok}
use Rattle.rows.specs.Rows.{insert_at}
use Rattle.model.specs.Base.{Bytes}
use Rattle.model.specs.Limits.{max_fields}
use Rattle.model.specs.Fields.{Field, holds}
use Rattle.model.specs.Refusals.{done}
use Rattle.model.specs.Opening.{LoginState, State, Texts, opened}
use Rattle.model.specs.Serving.{stores, reads_at, Act, save}
use Rattle.model.specs.Runs.{Event, events, end}
use Rattle.model.specs.Claims.{Reached}
use Rattle.masks.specs.Readers.{readers_of}
use Rattle.record.specs.declared.table.Place.TheVariants.{Before}
use Rattle.record.specs.Search.{place_in}
use Rattle.masks.specs.Bits.{bit_at}
use Rattle.tables.specs.Memory.{tables_bytes, tables_in}
use Rattle.record.specs.Slots.{record_bytes, fields_in, field_at}
use Rattle.sessions.specs.Logins.{login_numbers}
use Rattle.opening.specs.Memory.{Arrays, arrays, state_of, masks_of, Agree}
use Rattle.opening.specs.Answers.{Opens}
use Rattle.opening.specs.declared.answer.Fault as code
use Rattle.server.specs.Masked.{masks_after, effect_by_masks, effect_by_policy}
use Rattle.server.specs.Replies.{Given, outcome_in, Outputs, act, event_of, ServedByMasks, Saved}

-- ── Calls ──
-- requests and saves, each on what the one before returned: what happened at each, and the arrays at the end. No request writes the tables
pub data Calls : Arrays → List Event → Arrays → Type 0 where
  none : (a : Arrays) → Calls a [] a
  requested : (a b c : Arrays) (text : Bytes) (given left : Outputs) (r : Given) (es : List Event)
      → b.tables ≡ a.tables → ServedByMasks a text given r b left → Calls b es c
      → Calls a (event_of (state_of a) (act text given) (outcome_in r (state_of b) left.buffer left.list) ∷ es) c
  saved : (a c : Arrays) (before after : Bytes) (r : Given) (es : List Event)
      → Saved a.fields before r after → Calls a es c
      → Calls a (event_of (state_of a) (save before) (outcome_in r (state_of a) after []) ∷ es) c

-- the acts of a list of calls
abbrev pub acts_of : List Event → List Act
acts_of es = map (λ (e : Event). e.act) es

-- ── Claims ──
-- "set exactly if that user may read the field": the bit of each place beside each field; so none where there is no user
abbrev pub SetExactly : Type 0
SetExactly = (a : Arrays) → Agree a → (k j : ℕ) → k < length (fields_in a.fields)
    → bit_at (get_or (masks_of a) k 0) j ≡ reads_at (tables_in a.tables) j (field_at k (fields_in a.fields)).path

-- "The marks are made at opening": an accepted opening leaves them, from any memory
abbrev pub MadeAtOpening : Type 0
MadeAtOpening = (before after : Arrays) (texts : Texts) → Opens before texts (Ok tt) after → Agree after

-- before any accepted opening there are none, and they agree
abbrev pub ZerosAgree : Type 0
ZerosAgree = Agree (arrays (replicate tables_bytes 0) (replicate login_numbers 0) (replicate record_bytes 0))

-- so after any opening, refused or not, they agree where they did before
abbrev pub OpeningAgrees : Type 0
OpeningAgrees = (before after : Arrays) (texts : Texts) (answer : std.Result (Unit {0}) code.Fault) → Opens before texts answer after → Agree before → Agree after

-- "and when a push adds a field": the new field's mask is the one that the policy gives, and the others move along
abbrev pub MadeWhenAdded : Type 0
MadeWhenAdded = (s : State) (ms : List ℕ) (i : ℕ) (l : LoginState) (f : Field) → holds f.path s.fields ≡ false
    → (k : ℕ) × (place_in 0 f.path s.fields ≡ Before k) × (masks_after s ms (done (stores i l f)) ≡ take max_fields (insert_at k (readers_of s.tables f.path) ms))

-- a push to a held field makes none
abbrev pub HeldMakesNone : Type 0
HeldMakesNone = (s : State) (ms : List ℕ) (i : ℕ) (l : LoginState) (f : Field) → holds f.path s.fields ≡ true → masks_after s ms (done (stores i l f)) ≡ ms

-- "Deliveries and copies are taken from the marks. No text anybody receives changes": where they agree, serving by them is serving by the policy
abbrev pub ServesAsPolicy : Type 0
ServesAsPolicy = (a : Arrays) (x : Act) → Agree a → effect_by_masks (state_of a) (masks_of a) x ≡ effect_by_policy (state_of a) x

-- "they agree with the policy after every operation": after any calls, and what happened at each is what the run's events say
pub record AsRun (a : Arrays) (es : List Event) (b : Arrays) : Type 0 where
  pub happened : es ≡ events (state_of a) (acts_of es)
  pub ends : end (state_of a) (acts_of es) ≡ state_of b
  pub agrees : Agree b

abbrev pub CallsRun : Type 0
CallsRun = (a b : Arrays) (es : List Event) → Agree a → Calls a es b → AsRun a es b

-- an accepted opening, then any requests and saves: they are a run of its texts, so that what is claimed of runs, by events or by states, holds of them
pub record RunOf (texts : Texts) (a : Arrays) (es : List Event) (b : Arrays) : Type 0 where
  pub starts : opened texts ≡ done (state_of a)
  pub run : AsRun a es b
  pub reached : Reached texts (state_of b)

abbrev pub CallsReach : Type 0
CallsReach = (before a b : Arrays) (texts : Texts) (es : List Event) → Opens before texts (Ok tt) a → Calls a es b → RunOf texts a es b
