-- What is known of a decision once it is taken: by the kind of its change, whatever word asked for it. Lines and saves are told apart here and
-- nowhere later, but for what a set of users sends itself.
use Rattle.std.specs.Prelude.{if◌then◌else◌}
use Prim.Native.Nat.{ℕ, suc, ◌+◌, ◌≤◌, ◌<◌}
use mathlib.Core.Path.{◌≡◌, refl, sym, ap}
use Rattle.std.specs.Prelude.{Option, None, Some}
use mathlib.Core.List.{List, [], ◌∷◌}
use mathlib.Core.Bool.{Bool, true, false, not}
use native.Mathlib.Omega.{arith}
use borrow.Author.Tests.{not-false, ltb-false, leb-false, eqb-true}
use lib.ListN.{length}
use Rattle.model.specs.Base.{Bytes, first_from, is_some, ◌>>=◌}
use Rattle.model.specs.Limits.{list_room, max_logins}
use Rattle.model.specs.Values.{Value}
use Rattle.model.specs.Fields.{Keys, Field, holds}
use Rattle.model.specs.Refusals.{Result, refused, done}
use Rattle.model.specs.Tables.{User, Tables, user_at, user_named}
use Rattle.model.specs.Rights.{may_write}
use Rattle.model.specs.Opening.{LoginState, State}
use Rattle.model.specs.Requests.{Ask, Request, login, in_session, get, push, logout, request_of, push_of, logout_of}
use Rattle.model.specs.Serving.{session_number, index_in, is_session, login_at, Change, sets_login, shows, stores, Asker, asker, decide_show, entered, decide_login, decide_get, creating, decide_push, decide_logout, room_for, decide, decide_save, shown, answer_of, session, length_is, Act, line, save, buffer_of, list_of, decide_line, decision, Outcome, conclude, outcome}
use Rattle.model.specs.Runs.{request_of_act, index_of, if_user, owner, in_set, session_in}
use Rattle.model.proofs.Lists.{by_cases, never, refused-done, none-some, if-done, past-if, past-or, past, done-same, and_both, elem_below}
use Rattle.model.proofs.Reading.{some_same}
use Rattle.model.proofs.Order.{one}

-- ── Whose a request is ──
pub user-owner : (t : Tables) (i : ℕ) (u : User) → user_at t.users i ≡ Some u → if_user t i ≡ Some i
unfolding if_user is_some
user-owner t i u e = rw e

-- whose a session's request is, its number says
pub owner-index : (t : Tables) (n : ℕ) (a : Ask) (i : ℕ) → owner t (in_session n a) ≡ Some i → index_in n ≡ i
unfolding owner if_user
owner-index t n a i h = by_cases (is_some (user_at t.users (index_in n))) (λ e. some_same (rw e at h)) (λ e. none-some (rw e at h))

-- an index that is a user's and of the set is of the set
pub owner-in : (set : ℕ → Bool) (t : Tables) (i : ℕ) → in_set set (if_user t i) ≡ true → set i ≡ true
unfolding if_user in_set
owner-in set t i h = by_cases (is_some (user_at t.users i)) (λ e. rw e at h) (λ e. never (sym (rw e at h)))

-- and a session number says the index that it was made from
pub index-of : (i : ℕ) (a : LoginState) → a.logins ≤ max_logins → index_in (session_number i a) ≡ i
unfolding index_in session_number
index-of i a h = omega arith

-- a session number is answered where one is opened, and nowhere else
pub answers-session : {C : Type 0} (i : ℕ) (a : LoginState) (n : ℕ) → answer_of (sets_login i a) ≡ session n → (a.is_open ≡ true → session_number i a ≡ n → C) → C
unfolding answer_of session_in session_number
answers-session i a n h f = by_cases a.is_open (λ e. f e (some_same (ap session_in (rw e at h)))) (λ e. none-some (ap session_in (rw e at h)))

-- and a length nowhere
pub answers-length : {C : Type 0} (i : ℕ) (a : LoginState) (n : ℕ) → answer_of (sets_login i a) ≡ length_is n → C
unfolding answer_of
answers-length i a n h = by_cases a.is_open
    (λ e. let k = rw e at h in let z : ◌≡◌ {A = ℕ} 0 1 = cc in absurd (omega arith))
    (λ e. let k = rw e at h in let z : ◌≡◌ {A = ℕ} 0 1 = cc in absurd (omega arith))

-- the first that passes is found below the end
first_below : {A : Type 0} (k : ℕ) (f : A → Bool) (xs : List A) (t : ℕ × A) → first_from k f xs ≡ Some t → t.0 < k + length xs
unfolding first_from
first_below k f [] t h = none-some h
first_below k f (x ∷ xs) t h = by_cases (f x)
    (λ e. omega (arith, ap (λ (u : ℕ × _). u.0) (some_same (rw e at h))))
    (λ e. omega (arith, first_below (suc k) f xs t (rw e at h)))

named-below : (t : Tables) (n : Bytes) (w : ℕ × User) → user_named n t.users ≡ Some w → w.0 < length t.users
unfolding user_named
named-below t n w h = omega (arith, first_below 0 _ t.users w h)

user-below : (t : Tables) (i : ℕ) (u : User) → user_at t.users i ≡ Some u → i < length t.users
unfolding user_at
user-below t i u h = elem_below t.users i u h

-- ── What is known of a change, by the request that asks for it; a save asks for none ──
abbrev pub owner_of : State → Option Request → Option ℕ
owner_of s q = q >>= owner s.tables

-- the field that is to be stored
abbrev pub field_in : Option Request → Option Field
field_in q = q >>= push_of

-- the number of the session that is to be closed
abbrev pub number_in : Option Request → Option ℕ
number_in q = q >>= logout_of

-- a login state changes: a session is opened, which counts as a login, or the one that is to be is closed, and nothing is created
pub record LoginSet (s : State) (q : Option Request) (i : ℕ) (a : LoginState) : Type 0 where
  pub owned : owner_of s q ≡ Some i
  pub quiet : field_in q ≡ None
  pub closes : number_in q ≡ (if a.is_open then None else Some (session_number i (login_at s i)))
  pub below : i < length s.tables.users
  pub turned : (login_at s i).is_open ≡ not a.is_open
  pub counted : a.logins ≡ (login_at s i).logins + one a.is_open
  pub few : (login_at s i).logins ≤ max_logins → a.logins ≤ max_logins
  pub same_created : a.created ≡ (login_at s i).created

-- a field is stored: by a user who may write its path, within the quota
pub record Stored (s : State) (q : Option Request) (i : ℕ) (a : LoginState) (f : Field) : Type 0 where
  pub owned : owner_of s q ≡ Some i
  pub pushed : field_in q ≡ Some f
  pub closes_none : number_in q ≡ None
  pub user : User
  pub is_user : user_at s.tables.users i ≡ Some user
  pub writes : may_write s.tables.policy user f.path ≡ true
  pub after : a ≡ creating (login_at s i) (holds f.path s.fields)
  pub room : holds f.path s.fields ≡ false → (login_at s i).created < user.quota

-- a text is shown
pub record Shown (q : Option Request) : Type 0 where
  pub quiet : field_in q ≡ None
  pub closes_none : number_in q ≡ None

abbrev pub Decided : State → Option Request → Change → Type 0
Decided s q (sets_login i a) = LoginSet s q i a
Decided s q (shows t) = Shown q
Decided s q (stores i a f) = Stored s q i a f

-- what is written has room
abbrev pub Fits : ℕ → Change → Type 0
Fits room (sets_login i a) = Unit {0}
Fits room (shows t) = length t ≤ room
Fits room (stores i a f) = list_room ≤ room

abbrev Known : State → Request → ℕ → Change → Type 0
Known s q room c = Decided s (Some q) c × Fits room c

-- ── The grounds that words share ──
-- 14: who asks is the user whom the number says, in an open session of that number
pub record Asking (s : State) (n : ℕ) (a : Asker) : Type 0 where
  pub index : a.index ≡ index_in n
  pub is_user : user_at s.tables.users (index_in n) ≡ Some a.user
  pub login : a.login ≡ login_at s (index_in n)
  pub is_open : is_session (index_in n) (login_at s (index_in n)) n ≡ true

pub asking : (s : State) (n : ℕ) (a : Asker) → asker s n ≡ done a → Asking s n a
unfolding asker
asking s n a h =
    past-or _ _ _ _ h λ u is_user h₁.
    past-if _ _ _ _ h₁ λ is_open h₂.
    rw (← done-same h₂) (record { index = refl; is_user = is_user; login = refl; is_open = not-false _ is_open })

asking-owner : (s : State) (n : ℕ) (a : Asker) (k : Ask) → Asking s n a → owner s.tables (in_session n k) ≡ Some a.index
unfolding owner
asking-owner s n a k h = rw h.index (user-owner s.tables (index_in n) a.user h.is_user)

-- 15
pub show-change : (t : Bytes) (room : ℕ) (c : Change) → decide_show t room ≡ done c → shows t ≡ c
unfolding decide_show
show-change t room c h = done-same (if-done _ _ _ _ h).1

show-known : (s : State) (q : Request) → Shown (Some q) → (t : Bytes) (room : ℕ) (c : Change) → decide_show t room ≡ done c → Known s q room c
unfolding decide_show
show-known s q quiet t room c h = past-if _ _ _ _ h λ fits h₁. rw (← done-same h₁) (quiet, ltb-false _ _ fits)

-- ── Each word ──
-- a login's change
pub login-change : {C : Type 0} (s : State) (n k : Bytes) (c : Change) → decide_login s n k ≡ done c →
    ((i : ℕ) (u : User) → user_named n s.tables.users ≡ Some (i, u) → (login_at s i).is_open ≡ false → (login_at s i).logins < max_logins →
    sets_login i (entered (login_at s i)) ≡ c → C) → C
unfolding decide_login
login-change s n k c h f =
    past-or _ _ _ _ h λ t named h₁.
    past-if _ _ _ _ h₁ λ right h₂.
    past-if _ _ _ _ h₂ λ shut h₃.
    past-if _ _ _ _ h₃ λ few h₄.
    f t.0 t.1 named shut (leb-false _ _ few) (done-same h₄)

module _ (s : State) (room : ℕ) (c : Change) where
  login-known : (n k : Bytes) → decide s (login n k) room ≡ done c → Known s (login n k) room c
  unfolding decide owner index_of push_of logout_of ◌>>=◌ one
  login-known n k h =
      login-change s n k c h λ i u named shut few e.
      rw (← e) (
        record {
          owned = rw named;
          quiet = refl;
          closes = refl;
          below = named-below s.tables n _ named;
          turned = shut;
          counted = omega arith;
          few = λ h. omega arith;
          same_created = refl;
        },
        tt,
      )

  get-known : (n : ℕ) → decide s (in_session n get) room ≡ done c → Known s (in_session n get) room c
  unfolding decide decide_get push_of logout_of ◌>>=◌
  get-known n h =
      past _ _ _ h λ a isAsker h₁.
      show-known s _ (record { quiet = refl; closes_none = refl }) _ room c h₁

  push-known : (n : ℕ) (p : Keys) (v : Value) → decide s (in_session n (push p v)) room ≡ done c → Known s (in_session n (push p v)) room c
  unfolding decide decide_push push_of logout_of ◌>>=◌
  push-known n p v h =
      past-if _ _ _ _ h λ long h₁.
      past _ _ _ h₁ λ a isAsker h₂.
      past-if _ _ _ _ h₂ λ may h₃.
      past-if _ _ _ _ h₃ λ free h₄.
      let k = asking s n a isAsker in
      rw (← done-same h₄) (
        record {
          owned = asking-owner s n a _ k;
          pushed = refl;
          closes_none = refl;
          user = a.user;
          is_user = rw k.index k.is_user;
          writes = not-false _ may;
          after = rw (k.login, k.index);
          room = λ e. rw (k.index, ← k.login) (leb-false _ _ (rw e at free));
        },
        ltb-false _ _ long,
      )

  logout-known : (n : ℕ) → decide s (in_session n logout) room ≡ done c → Known s (in_session n logout) room c
  unfolding decide decide_logout push_of logout_of is_session ◌>>=◌ one
  logout-known n h =
      past _ _ _ h λ a isAsker h₁.
      let k = asking s n a isAsker in
      rw (← done-same h₁) (
        record {
          owned = asking-owner s n a _ k;
          quiet = refl;
          closes = ap Some (sym (rw k.index (eqb-true _ _ (and_both (login_at s (index_in n)).is_open _ k.is_open).1)));
          below = rw k.index (user-below s.tables (index_in n) a.user k.is_user);
          turned = rw k.index (and_both (login_at s (index_in n)).is_open _ k.is_open).0;
          counted = rw (k.login, k.index) (omega arith);
          few = λ e. rw (k.login, ← k.index) e;
          same_created = rw (k.login, k.index);
        },
        tt,
      )

known : (s : State) (q : Request) (room : ℕ) (c : Change) → decide s q room ≡ done c → Known s q room c
known s (login n k) room c h = login-known s room c n k h
known s (in_session n get) room c h = get-known s room c n h
known s (in_session n (push p v)) room c h = push-known s room c n p v h
known s (in_session n logout) room c h = logout-known s room c n h

pub decided : (s : State) (q : Request) (room : ℕ) (c : Change) → decide s q room ≡ done c → Decided s (Some q) c
decided s q room c h = (known s q room c h).0

-- ── Each act ──
decided-line : (s : State) (b : Bytes) (l : List ℕ) (q : Option Request) (c : Change) → decide_line s b l q ≡ done c → Decided s q c
unfolding decide_line
decided-line s b l None c h = refused-done h
decided-line s b l (Some q) c h = decided s q _ c h

abbrev pub DecidedBy : State → Act → Change → Type 0
DecidedBy s a c = Decided s (request_of_act a) c

decided-act : (s : State) (a : Act) (c : Change) → decision s a ≡ done c → DecidedBy s a c
unfolding decision decide_save request_of_act ◌>>=◌
decided-act s (line t b l) c h = decided-line s b l (request_of t) c h
decided-act s (save b) c h = rw (← show-change _ _ c h) (record { quiet = refl; closes_none = refl })

-- an act is refused, or something is decided
pub by-decision : (P : Outcome → Type 0) (s : State) (a : Act) →
    ((e : ℕ) → P (conclude s (buffer_of a) (list_of a) (refused e))) →
    ((c : Change) → DecidedBy s a c → P (conclude s (buffer_of a) (list_of a) (done c))) → P (outcome s a)
unfolding outcome
by-decision P s a f g = go (decision s a) refl
  where
    go : (x : Result ℕ Change) → decision s a ≡ x → P (conclude s (buffer_of a) (list_of a) x)
    go (refused e) h = f e
    go (done c) h = g c (decided-act s a c h)

-- ── There is room ──
-- in the list for a request that stores, in the buffer for any other
abbrev HasRoom : Option Field → ℕ → ℕ → ℕ → Type 0
HasRoom None room buffer list = room ≤ buffer
HasRoom (Some f) room buffer list = room ≤ list

has_room : (q : Request) (b : Bytes) (l : List ℕ) → HasRoom (push_of q) (room_for q b l) (length b) (length l)
unfolding room_for push_of
has_room (login u k) b l = omega arith
has_room (in_session n get) b l = omega arith
has_room (in_session n (push p v)) b l = omega arith
has_room (in_session n logout) b l = omega arith

module _ (s : State) (q : Request) (b : Bytes) (l : List ℕ) where
  pub shown-fits : (c : Change) → decide s q (room_for q b l) ≡ done c → length (shown c) ≤ length b
  unfolding shown ◌>>=◌
  shown-fits (sets_login i a) h = omega arith
  shown-fits (shows t) h = let (text-shown, fits) = known s q _ _ h in omega (arith, rw text-shown.quiet at (has_room q b l))
  shown-fits (stores i a f) h = omega arith

  pub told-fits : (i : ℕ) (a : LoginState) (f : Field) → decide s q (room_for q b l) ≡ done (stores i a f) → list_room ≤ length l
  unfolding ◌>>=◌
  told-fits i a f h = let (stored, fits) = known s q _ _ h in omega (arith, rw stored.pushed at (has_room q b l))
