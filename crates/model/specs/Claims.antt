-- The claims about runs, by the club's three conditions, each with its sentence: of document 01, of document 02 where a request is named, or of the conditions where it says so.
use Rattle.std.specs.Prelude.{ℕ, suc, ◌+◌, ◌*◌, ◌≤◌, ◌<◌, ◌≡◌, List, [], ◌∷◌, map, Bool, true, false, not, ◌&&◌, ◌||◌, leb, ltb, eqb, length, take, replicate, if◌then◌else◌}
use Rattle.std.specs.Prelude.{Some}
use Rattle.model.specs.Base.{Bytes, any, all, keep, joined, sum, range, ◌≐◌}
use Rattle.model.specs.Limits.{max_fields, max_copy, list_room, per_user, max_logins}
use Rattle.model.specs.Values.{Value, value_of, value_text, valid_value}
use Rattle.model.specs.Fields.{Keys, valid_keys, Field, Fields, order_path, by_order, value_at, holds, put, store}
use Rattle.model.specs.RecordText.{Members, object, tree_of, leaf_at}
use Rattle.model.specs.SavedText.{saved}
use Rattle.model.specs.Paths.{Steps, steps_text, keys_text, steps_of, keys_of}
use Rattle.model.specs.Refusals.{refused, done}
use Rattle.model.specs.Tables.{User, Access, Rule, Tables, user_at, user_named}
use Rattle.model.specs.Opening.{LoginState, State, empty_logins, Texts, Fault, fault, quotas, opened, after_opening}
use Rattle.model.specs.Requests.{Ask, Request, login, in_session, get, push, logout, request_of}
use Rattle.model.specs.Serving.{index_in, count_in, login_at, readable, copy_for, stores, decide, refusal, session, length_is, accepted, Act, line, buffer_of, list_of, Outcome, outcome}
use Rattle.model.specs.Runs.{event_in, events, end, owner_in, only, seen_fields, sequence, got, creates, created_by, is_open_number, gives, login_by, closes, is_open_after}
use Rattle.model.specs.Program.{printed, serve_with, serve}

-- a state that a run from these texts reaches
pub record Reached (t : Texts) (s : State) : Type 0 where
  pub start : State
  pub acts : List Act
  pub is_opened : opened t ≡ done start
  pub is_end : end start acts ≡ s

-- "the same values, policy paths compared in the standard spelling"
unfoldable pub spelled : Rule → Bytes × Access × Bytes
spelled r = (r.role, r.access, steps_text r.path)

-- "Tables are equal if they hold, line for line and under each column name, the same values": a user's environment lines stand with the user
pub record SameTables (t₁ t₂ : Tables) : Type 0 where
  pub same_users : t₁.users ≡ t₂.users
  pub same_policy : map spelled t₁.policy ≡ map spelled t₂.policy

-- ── Condition 1: nothing else changes ──
-- "A refused opening keeps the former state"
abbrev pub RefusedOpening : Type 0
RefusedOpening = (s : State) (t : Texts) (f : Fault) → opened t ≡ refused f → after_opening s t ≡ s

-- condition 1: "No refused request changes the record, a login or a lent buffer": lines and saves, in any state
abbrev pub RefusedAct : Type 0
RefusedAct =
    (s : State) (a : Act) (e : ℕ) → (outcome s a).answer ≡ refusal e →
    outcome s a ≡ record { answer = refusal e; state = s; buffer = buffer_of a; list = list_of a; told = 0 }

-- what an accepted push at index i of the value v to the path p makes of a state
pub record OneFieldChanged (s s₁ : State) (i : ℕ) (p : Keys) (v : Value) : Type 0 where
  pub holds_value : value_at p s₁.fields ≡ Some v
  pub other_fields : (q : Keys) → (q ≡ p → ⊥) → value_at q s₁.fields ≡ value_at q s.fields
  pub own_login : login_at s₁ i ≡ record {
    logins = (login_at s i).logins;
    is_open = (login_at s i).is_open;
    created = if holds p s.fields then (login_at s i).created else suc (login_at s i).created;
  }
  pub other_logins : (j : ℕ) → (j ≡ i → ⊥) → login_at s₁ j ≡ login_at s j
  pub tables_stay : s₁.tables ≡ s.tables

-- condition 1: "no accepted push changes any field but the one it names"
abbrev pub PushChangesOne : Type 0
PushChangesOne =
    (t : Texts) (s : State) → Reached t s → (x b : Bytes) (l : List ℕ) (n : ℕ) (p : Keys) (v : Value) →
    request_of x ≡ Some (in_session n (push p v)) → (outcome s (line x b l)).answer ≡ accepted →
    OneFieldChanged s (outcome s (line x b l)).state (index_in n) p v

-- an act's outcome that has this login state at index i, and nothing else changed
pub record OneLoginChanged (s : State) (a : Act) (o : Outcome) (i : ℕ) (new : LoginState) : Type 0 where
  pub own_login : login_at o.state i ≡ new
  pub other_logins : (j : ℕ) → (j ≡ i → ⊥) → login_at o.state j ≡ login_at s j
  pub fields_stay : o.state.fields ≡ s.fields
  pub tables_stay : o.state.tables ≡ s.tables
  pub buffer_stays : o.buffer ≡ buffer_of a
  pub list_stays : o.list ≡ list_of a
  pub nobody_told : o.told ≡ 0

-- "A login changes one seat only"
abbrev pub LoginChangesOne : Type 0
LoginChangesOne =
    (t : Texts) (s : State) → Reached t s → (a : Act) (n : ℕ) → (outcome s a).answer ≡ session n →
    OneLoginChanged s a (outcome s a) (index_in n) (record {
      logins = suc (login_at s (index_in n)).logins;
      is_open = true;
      created = (login_at s (index_in n)).created;
    })

-- 02, 1: "`LOGOUT;session`, which closes it", and "The fields the user created stay counted"
abbrev pub LogoutChangesOne : Type 0
LogoutChangesOne =
    (t : Texts) (s : State) → Reached t s → (x b : Bytes) (l : List ℕ) (n : ℕ) →
    request_of x ≡ Some (in_session n logout) → (outcome s (line x b l)).answer ≡ accepted →
    OneLoginChanged s (line x b l) (outcome s (line x b l)) (index_in n) (record {
      logins = (login_at s (index_in n)).logins;
      is_open = false;
      created = (login_at s (index_in n)).created;
    })

-- a copy and a save change no state
abbrev pub ShowingChangesNothing : Type 0
ShowingChangesNothing = (s : State) (a : Act) (n : ℕ) → (outcome s a).answer ≡ length_is n → (outcome s a).state ≡ s

-- ── Condition 2: the fields held ──
-- "a path of 1 to 6 keys (names) and a value": each field that is held
unfoldable pub is_valid : Field → Bool
is_valid f = valid_keys f.path && valid_value f.value

abbrev pub FieldsValid : Type 0
FieldsValid = (t : Texts) (s : State) → Reached t s → all is_valid s.fields ≡ true

-- "Fields are sorted by path"
unfoldable pub is_sorted : Fields → Bool
is_sorted [] = true
is_sorted (f ∷ []) = true
is_sorted (f ∷ (g ∷ gs)) = let r = is_sorted (g ∷ gs) in by_order (order_path f.path g.path) r false false

unfoldable pub begins : Keys → Keys → Bool
begins [] q = true
begins (k ∷ p) [] = false
begins (k ∷ p) (l ∷ q) = let r = begins p q in k ≐ l && r

-- "No field's path is the beginning of another's"
unfoldable pub none_begins : Fields → Bool
none_begins [] = true
none_begins (f ∷ fs) = let r = none_begins fs in not (any (λ g. begins f.path g.path || begins g.path f.path) fs) && r

-- both, and "At most 256 fields are held"
abbrev pub FieldsInOrder : Type 0
FieldsInOrder =
    (t : Texts) (s : State) → Reached t s →
    (is_sorted s.fields ≡ true) × (none_begins s.fields ≡ true) × (length s.fields ≤ max_fields)

-- no field falls off the table for another
abbrev pub NothingFallsOff : Type 0
NothingFallsOff =
    (t : Texts) (s : State) → Reached t s → (q : Request) (room i : ℕ) (a : LoginState) (f : Field) →
    decide s q room ≡ done (stores i a f) → store f s.fields ≡ put f s.fields

-- an opening loads each leaf of the text with its value, and nothing else
abbrev pub LoadsAll : Type 0
LoadsAll =
    (t : Texts) (s : State) (m : Members) → opened t ≡ done s → tree_of t.record_text ≡ Some m →
    (p : Keys) → value_at p s.fields ≡ leaf_at (object m) p

-- ── Condition 2: saving and opening again ──
-- these texts with another record text
unfoldable pub with_record : Bytes → Texts → Texts
with_record r t = record { users_text = t.users_text; environments_text = t.environments_text; policy_text = t.policy_text; record_text = r }

-- a state that a run reached, and texts that were opened to equal tables, to which its saved text is given
pub record SavedFor (t₂ : Texts) (s : State) : Type 0 where
  pub texts : Texts
  pub reached : Reached texts s
  pub start₂ : State
  pub opened₂ : opened t₂ ≡ done start₂
  pub same_tables : SameTables s.tables start₂.tables

-- condition 2: "Where the fields held and all allowances together are at most 256, a saved record, opened again with the same tables, is accepted and
-- holds the same fields"
abbrev pub OpensAgain : Type 0
OpensAgain =
    (t₂ : Texts) (s : State) → SavedFor t₂ s → length s.fields + quotas s.tables.users ≤ max_fields →
    opened (with_record (saved s.fields) t₂) ≡ done (record { tables = s.tables; login_states = empty_logins; fields = s.fields })

-- "a record grown by pushes may meet 9 when opened again": exactly where they are more
abbrev pub GrownIsRefused : Type 0
GrownIsRefused =
    (t₂ : Texts) (s : State) → SavedFor t₂ s → max_fields < length s.fields + quotas s.tables.users →
    opened (with_record (saved s.fields) t₂) ≡ refused (fault 9 4 0)

-- condition 2: "each record has one saved text": the same fields, in whatever order they came, have the same text
abbrev pub OneSavedText : Type 0
OneSavedText =
    (t₁ t₂ : Texts) (s₁ s₂ : State) → Reached t₁ s₁ → Reached t₂ s₂ →
    ((p : Keys) → value_at p s₁.fields ≡ value_at p s₂.fields) →
    saved s₁.fields ≡ saved s₂.fields

-- different fields have different texts
abbrev pub OneRecord : Type 0
OneRecord =
    (t₁ t₂ : Texts) (s₁ s₂ : State) → Reached t₁ s₁ → Reached t₂ s₂ →
    saved s₁.fields ≡ saved s₂.fields → s₁.fields ≡ s₂.fields

-- ── Condition 2: logins ──
-- "that user's logins": a login count is that user's own number of accepted logins
abbrev pub CountsOwnLogins : Type 0
CountsOwnLogins =
    (t : Texts) (s : State) (acts : List Act) → opened t ≡ done s → (i : ℕ) →
    (login_at (end s acts) i).logins ≡ length (keep (login_by i) (events s acts))

-- "The answer is the session number, 65,536 times the user's place, plus that user's logins, this one included"
abbrev pub LoginAnswers : Type 0
LoginAnswers =
    (t : Texts) (s : State) (acts : List Act) → opened t ≡ done s → (a : Act) (n : ℕ) → (outcome (end s acts) a).answer ≡ session n →
    (i : ℕ) × (owner_in (event_in (end s acts) a) ≡ Some i) × (n ≡ per_user * i + suc (length (keep (login_by i) (events s acts))))

-- 02, 1: "The logins of a user end at 65,535"
abbrev pub LoginsEnd : Type 0
LoginsEnd = (t : Texts) (s : State) → Reached t s → (i : ℕ) → (login_at s i).logins ≤ max_logins

-- so a number divided by 65,536 is the index of the user who got it, and the rest that user's logins: two users' numbers never meet
abbrev pub NumberDivides : Type 0
NumberDivides =
    (t : Texts) (s : State) (acts : List Act) → opened t ≡ done s → (a : Act) (n : ℕ) → (outcome (end s acts) a).answer ≡ session n →
    (owner_in (event_in (end s acts) a) ≡ Some (index_in n)) × (count_in n ≡ suc (length (keep (login_by (index_in n)) (events s acts))))

-- ── Condition 2: sessions (02, 1) ──
-- a number is answered at most once
abbrev pub AnsweredOnce : Type 0
AnsweredOnce =
    (t : Texts) (s : State) (acts : List Act) → opened t ≡ done s → (n : ℕ) →
    length (keep (gives n) (events s acts)) ≤ 1

-- and is open exactly from the login that answers it to the LOGOUT that closes it
abbrev pub OpenBetween : Type 0
OpenBetween =
    (t : Texts) (s : State) (acts : List Act) → opened t ≡ done s → (n : ℕ) →
    is_open_number (end s acts) n ≡ is_open_after (events s acts) n

-- 02, 3: "divides the session number by 65,536 to find the user's place, and the remainder is the login count": in any state a number of any size is
-- open exactly if the login state at its index is, and has as many logins as its remainder
abbrev pub OpenByParts : Type 0
OpenByParts =
    (s : State) (n : ℕ) →
    is_open_number s n ≡ ((login_at s (index_in n)).is_open && eqb (login_at s (index_in n)).logins (count_in n))

-- "LOGOUT gives 11, then 14": accepted exactly where the number is open
abbrev pub LogoutAnswers : Type 0
LogoutAnswers =
    (t : Texts) (s : State) (acts : List Act) → opened t ≡ done s → (x b : Bytes) (l : List ℕ) (n : ℕ) → request_of x ≡ Some (in_session n logout) →
    (outcome (end s acts) (line x b l)).answer ≡ (if is_open_after (events s acts) n then accepted else refusal 14)

-- "14 no open session has this number"; a PUSH is refused 15 before, where its list is too short
unfoldable pub ground_without : Ask → List ℕ → ℕ
ground_without get l = 14
ground_without (push p v) l = if ltb (length l) list_room then 15 else 14
ground_without logout l = 14

-- a number with which nothing is done: each line that carries it is refused, and no list receives it
pub record Shut (s : State) (n : ℕ) : Type 0 where
  pub refuses : (x b : Bytes) (l : List ℕ) (q : Ask) → request_of x ≡ Some (in_session n q) → (outcome s (line x b l)).answer ≡ refusal (ground_without q l)
  pub not_told : (a : Act) → any (eqb n) (take (outcome s a).told (outcome s a).list) ≡ false

-- so it is with every number that is not open: past, still to come, or nobody's
abbrev pub OthersShut : Type 0
OthersShut =
    (t : Texts) (s : State) (acts : List Act) → opened t ≡ done s → (n : ℕ) → is_open_after (events s acts) n ≡ false →
    Shut (end s acts) n

-- "A closed number stays closed until the next accepted opening of the four texts", "and deliveries stop with it": nor does a login answer it
abbrev pub StaysClosed : Type 0
StaysClosed =
    (t : Texts) (s : State) (acts : List Act) → opened t ≡ done s → (n : ℕ) → any (closes n) (events s acts) ≡ true →
    Shut (end s acts) n × ((a : Act) → gives n (event_in (end s acts) a) ≡ false)

-- "that user may then log in again and gets a number with the login count one higher"; "LOGIN gives 18, .. when the user has had 65,535 logins":
-- once the number of a user's last login is closed
abbrev pub LogsInAgain : Type 0
LogsInAgain =
    (t : Texts) (s : State) (acts : List Act) → opened t ≡ done s →
    (n : ℕ) → any (closes n) (events s acts) ≡ true → count_in n ≡ length (keep (login_by (index_in n)) (events s acts)) →
    (name : Bytes) (u : User) → user_named name s.tables.users ≡ Some (index_in n, u) →
    (x b : Bytes) (l : List ℕ) → request_of x ≡ Some (login name u.key) →
    (outcome (end s acts) (line x b l)).answer ≡ (if leb max_logins (count_in n) then refusal 18 else session (suc n))

-- ── Condition 2: growth ──
-- fields held less fields loaded are the accepted pushes that named an absent field
abbrev pub GrowsByPushes : Type 0
GrowsByPushes =
    (t : Texts) (s : State) (acts : List Act) → opened t ≡ done s →
    length (end s acts).fields ≡ length s.fields + length (keep creates (events s acts))

-- "At any time fields now held less fields loaded equals the sum over users of accepted pushes since the opening that named an absent field"
abbrev pub GrowsByUsers : Type 0
GrowsByUsers =
    (t : Texts) (s : State) (acts : List Act) → opened t ≡ done s →
    length (end s acts).fields ≡ length s.fields + sum (map (λ i. length (keep (created_by i) (events s acts))) (range 0 (length s.tables.users)))

-- the same as the sum of the created counts
abbrev pub GrowsByCounts : Type 0
GrowsByCounts =
    (t : Texts) (s : State) (acts : List Act) → opened t ≡ done s →
    length (end s acts).fields ≡ length s.fields + sum (map (λ a. a.created) (end s acts).login_states)

-- a user's count is that user's own number of such pushes
abbrev pub CountsOwnPushes : Type 0
CountsOwnPushes =
    (t : Texts) (s : State) (acts : List Act) → opened t ≡ done s → (i : ℕ) →
    (login_at (end s acts) i).created ≡ length (keep (created_by i) (events s acts))

-- and never exceeds the quota
abbrev pub WithinQuota : Type 0
WithinQuota =
    (t : Texts) (s : State) → Reached t s → (i : ℕ) (u : User) → user_at s.tables.users i ≡ Some u →
    (login_at s i).created ≤ u.quota

-- ── Condition 2: lengths ──
-- "A copy never exceeds 51,069 bytes"
abbrev pub CopyBound : Type 0
CopyBound =
    (t : Texts) (s : State) → Reached t s → (i : ℕ) (u : User) → user_at s.tables.users i ≡ Some u →
    length (copy_for s u) ≤ max_copy

unfoldable pub ascends : List ℕ → Bool
ascends [] = true
ascends (m ∷ []) = true
ascends (m ∷ (n ∷ l)) = let r = ascends (n ∷ l) in ltb m n && r

-- "The list receives, ascending, the numbers": never more than the 32 that it must have room for
abbrev pub ListAscends : Type 0
ListAscends =
    (t : Texts) (s : State) → Reached t s → (a : Act) →
    (ascends (take (outcome s a).told (outcome s a).list) ≡ true) × ((outcome s a).told ≤ list_room)

-- ── Condition 2: spelling ──
-- reading the standard spelling of a policy path gives the path back
abbrev pub StepsReadBack : Type 0
StepsReadBack = (s : Bytes) (p : Steps) → steps_of s ≡ Some p → steps_of (steps_text p) ≡ Some p

-- so paths with one standard spelling are one path
abbrev pub OneSpelling : Type 0
OneSpelling = (s₁ s₂ : Bytes) (p₁ p₂ : Steps) → steps_of s₁ ≡ Some p₁ → steps_of s₂ ≡ Some p₂ → steps_text p₁ ≡ steps_text p₂ → p₁ ≡ p₂

-- "with path and value as pushed": each has one spelling
abbrev pub KeysAsWritten : Type 0
KeysAsWritten = (s : Bytes) (p : Keys) → keys_of s ≡ Some p → keys_text p ≡ s

abbrev pub ValueAsWritten : Type 0
ValueAsWritten = (s : Bytes) (v : Value) → value_of s ≡ Some v → value_text v ≡ s

-- ── Condition 2: what `serve` prints ──
-- a line with the zeros that `serve` gives
abbrev pub with_zeros : Bytes → Act
with_zeros x = line x (replicate max_copy 0) (replicate list_room 0)

-- "the buffer and list lent are always long enough": then a line prints the same and leaves the same state, whatever they hold
abbrev pub LinePrintsAlike : Type 0
LinePrintsAlike =
    (t : Texts) (s : State) → Reached t s → (x b : Bytes) (l : List ℕ) → max_copy ≤ length b → list_room ≤ length l →
    (printed (event_in s (line x b l)) ≡ printed (event_in s (with_zeros x))) × ((outcome s (line x b l)).state ≡ (outcome s (with_zeros x)).state)

-- a line with a buffer and a list of its own, of any content and long enough
pub record LongEnough : Type 0 where
  pub content : Bytes
  pub buffer : Bytes
  pub list : List ℕ
  pub room_for_copy : max_copy ≤ length buffer
  pub room_for_list : list_room ≤ length list

abbrev pub act_of : LongEnough → Act
act_of x = line x.content x.buffer x.list

-- the same of all lines of a run: what earlier answers left in a buffer or a list that is used again is not printed
abbrev pub PrintsAlike : Type 0
PrintsAlike =
    (t : Texts) (s : State) (xs : List LongEnough) → opened t ≡ done s →
    joined (map printed (events s (map act_of xs))) ≡ joined (map printed (events s (map (λ x. with_zeros x.content) xs)))

-- and of the program: that they are "always long enough" is all that matters of them
abbrev pub ServesAlike : Type 0
ServesAlike =
    (b : Bytes) (l : List ℕ) → max_copy ≤ length b → list_room ≤ length l → (t : Texts) (input : Bytes) →
    serve_with b l t input ≡ serve t input

-- ── Condition 3 ──
-- two runs whose tables are equal, whatever else was opened and sent
pub record TwoRuns : Type 0 where
  pub texts₁ : Texts
  pub texts₂ : Texts
  pub start₁ : State
  pub start₂ : State
  pub opened₁ : opened texts₁ ≡ done start₁
  pub opened₂ : opened texts₂ ≡ done start₂
  pub same_tables : SameTables start₁.tables start₂.tables
  pub acts₁ : List Act
  pub acts₂ : List Act

-- for any set of users: with equal seen fields at the opening and the same sequence, "All this is one sequence, equal in both runs"
abbrev pub SetCannotTell : Type 0
SetCannotTell =
    (r : TwoRuns) (set : ℕ → Bool) →
    seen_fields set r.start₁ ≡ seen_fields set r.start₂ →
    sequence set (events r.start₁ r.acts₁) ≡ sequence set (events r.start₂ r.acts₂) →
    got set (events r.start₁ r.acts₁) ≡ got set (events r.start₂ r.acts₂)

-- condition 3: "the fields that user may read are equal at the opening, and that user's requests and the others' accepted pushes to fields
-- the user may read are the same in the same order"
abbrev pub UserCannotTell : Type 0
UserCannotTell =
    (r : TwoRuns) (i : ℕ) (u : User) → user_at r.start₁.tables.users i ≡ Some u →
    readable r.start₁.tables.policy u r.start₁.fields ≡ readable r.start₂.tables.policy u r.start₂.fields →
    sequence (only i) (events r.start₁ r.acts₁) ≡ sequence (only i) (events r.start₂ r.acts₂) →
    got (only i) (events r.start₁ r.acts₁) ≡ got (only i) (events r.start₂ r.acts₂)
