-- What every state of a run has, and that each act keeps it.
use Prim.Native.Nat.{ℕ, zero, suc, ◌+◌, ◌≤◌, ◌<◌}
use mathlib.Core.Path.{◌≡◌, refl, sym, ap, ◌∙◌}
use Rattle.std.specs.Prelude.{Option, Some}
use mathlib.Core.List.{List, [], ◌∷◌, map}
use mathlib.Core.Bool.{true}
use lib.Dec.{eqb}
use lib.ListN.{length, set, get_or, replicate, length-set}
use Rattle.std.specs.Prelude.{slice_get}
use lib.Seq.{get_or-set_other}
use native.Mathlib.Omega.{arith}
use borrow.Author.Tests.{eqb-true, eqb-false}
use Rattle.model.specs.Base.{sum, All}
use Rattle.model.specs.Limits.{max_fields, max_users, max_logins}
use Rattle.model.specs.Fields.{Field, holds, put, store}
use Rattle.model.specs.Tables.{User, user_at}
use Rattle.model.specs.Opening.{LoginState, State, empty_login, quotas}
use Rattle.model.specs.Requests.{Request}
use Rattle.model.specs.Serving.{login_at, Change, sets_login, shows, stores, creating, apply, Act, unchanged, conclude, outcome}
use Rattle.model.specs.Runs.{end}
use Rattle.model.proofs.Lists.{by_cases, none-some, elem_below, all_set, all_get_d}
use Rattle.model.proofs.Order.{Sorted, sorted-put, one, absent, length-put, store-fits}
use Rattle.model.proofs.Decisions.{LoginSet, Stored, Decided, DecidedBy, by-decision}

-- ── What is created stays within the quotas: the counts of the users, and none elsewhere ──
abbrev pub Within : List User → List LoginState → Type 0
Within us [] = Unit {0}
Within [] (a ∷ l) = (a.created ≡ 0) × Within [] l
Within (u ∷ us) (a ∷ l) = (a.created ≤ u.quota) × Within us l

abbrev pub total_created : List LoginState → ℕ
total_created l = sum (map (λ a. a.created) l)

pub within-sum : (us : List User) (l : List LoginState) → Within us l → total_created l ≤ quotas us
unfolding quotas sum
within-sum us [] w = omega arith
within-sum [] (a ∷ l) w = omega (arith, within-sum [] l w.1)
within-sum (u ∷ us) (a ∷ l) w = omega (arith, within-sum us l w.1)

-- the login state of a user may change as long as the count is within the quota
within-set : (us : List User) (l : List LoginState) (i : ℕ) (u : User) (a : LoginState) → slice_get us i ≡ Some u → a.created ≤ u.quota →
    Within us l → Within us (set l i a)
within-set us [] i u a e h w = tt
within-set [] (b ∷ l) i u a e h w = none-some e
within-set (v ∷ us) (b ∷ l) zero u a e h w = let z : v ≡ u = cc in (rw z h, w.1)
within-set (v ∷ us) (b ∷ l) (suc i) u a e h w = (w.0, within-set us l i u a e h w.1)

-- as long as it is unchanged, any login state may
within-keep : (us : List User) (l : List LoginState) (i : ℕ) (a : LoginState) → a.created ≡ (get_or l i empty_login).created → Within us l → Within us (set l i a)
within-keep us [] i a e w = tt
within-keep [] (b ∷ l) zero a e w = (e ∙ w.0, w.1)
within-keep [] (b ∷ l) (suc i) a e w = (w.0, within-keep [] l i a e w.1)
within-keep (u ∷ us) (b ∷ l) zero a e w = (rw e w.0, w.1)
within-keep (u ∷ us) (b ∷ l) (suc i) a e w = (w.0, within-keep us l i a e w.1)

pub within-at : (us : List User) (l : List LoginState) (i : ℕ) (u : User) → slice_get us i ≡ Some u → Within us l → (get_or l i empty_login).created ≤ u.quota
unfolding empty_login
within-at us [] i u e w = omega arith
within-at [] (a ∷ l) i u e w = none-some e
within-at (v ∷ us) (a ∷ l) zero u e w = let z : v ≡ u = cc in rw z at w.0
within-at (v ∷ us) (a ∷ l) (suc i) u e w = within-at us l i u e w.1

pub within-empty : (us : List User) (n : ℕ) → Within us (replicate n empty_login)
unfolding empty_login
within-empty us zero = tt
within-empty [] (suc n) = (refl, within-empty [] n)
within-empty (u ∷ us) (suc n) = (omega arith, within-empty us n)

-- how the total changes with one login state
total-set : (l : List LoginState) (i : ℕ) (a : LoginState) → i < length l → total_created (set l i a) + (get_or l i empty_login).created ≡ total_created l + a.created
unfolding sum
total-set [] i a h = absurd (omega arith)
total-set (b ∷ l) zero a h = omega arith
total-set (b ∷ l) (suc i) a h = omega (arith, total-set l i a (omega arith))

total-same : (l : List LoginState) (i : ℕ) (a : LoginState) → a.created ≡ (get_or l i empty_login).created → total_created (set l i a) ≡ total_created l
unfolding sum
total-same [] i a e = refl
total-same (b ∷ l) zero a e = rw e
total-same (b ∷ l) (suc i) a e = rw (total-same l i a e)

pub total-empty : (n : ℕ) → total_created (replicate n empty_login) ≡ 0
unfolding sum empty_login
total-empty zero = refl
total-empty (suc n) = omega (arith, total-empty n)

-- ── The invariant; `loaded` is how many fields the opening loaded ──
pub record Running (loaded : ℕ) (s : State) : Type 0 where
  pub sorted : Sorted s.fields
  pub few : All (λ a. a.logins ≤ max_logins) s.login_states
  pub seated : (j : ℕ) → (login_at s j).is_open ≡ true → j < length s.tables.users
  pub places : length s.login_states ≡ max_users
  pub users : length s.tables.users ≤ max_users
  pub within : Within s.tables.users s.login_states
  pub grown : length s.fields ≡ loaded + total_created s.login_states
  pub fits : loaded + quotas s.tables.users ≤ max_fields

-- what a decision may do to a state with it
module _ {loaded : ℕ} {s : State} (r : Running loaded s) where
  pub few-at : (j : ℕ) → (login_at s j).logins ≤ max_logins
  unfolding login_at empty_login
  few-at j = all_get_d _ s.login_states j empty_login (omega arith) r.few

  pub few-fields : length s.fields ≤ max_fields
  few-fields = omega (arith, r.grown, r.fits, within-sum s.tables.users s.login_states r.within)

  -- every user has a login state
  pub user-place : (i : ℕ) (u : User) → user_at s.tables.users i ≡ Some u → i < length s.login_states
  unfolding user_at
  user-place i u e = omega (arith, elem_below s.tables.users i u e, r.users, r.places)

  -- whoever has a session is a user, once the login state of a user was set
  seated-set : (i : ℕ) (a : LoginState) → i < length s.tables.users → (j : ℕ) → (get_or (set s.login_states i a) j empty_login).is_open ≡ true → j < length s.tables.users
  unfolding login_at
  seated-set i a below j h = by_cases (eqb i j)
      (λ e. let z : i ≡ j = eqb-true i j e in rw (← z) below)
      (λ e.
      let same = get_or-set_other s.login_states i j a empty_login (λ x. eqb-false i j e (sym x)) in
      r.seated j (ap (λ (b : LoginState). b.is_open) (sym same) ∙ h))

  -- a login state
  module _ {q : Option Request} {i : ℕ} {a : LoginState} (d : LoginSet s q i a) where
    pub login-set-place : i < length s.login_states
    login-set-place = omega (arith, d.below, r.users, r.places)

    pub login-set-few : a.logins ≤ max_logins
    login-set-few = d.few (few-at i)

    run-sets-login : Running loaded (apply (sets_login i a) s)
    unfolding apply login_at
    run-sets-login = record {
      sorted = r.sorted;
      few = all_set _ s.login_states i a login-set-few r.few;
      seated = seated-set i a d.below;
      places = length-set s.login_states i a ∙ r.places;
      users = r.users;
      within = within-keep s.tables.users s.login_states i a d.same_created r.within;
      grown = rw (total-same s.login_states i a d.same_created) r.grown;
      fits = r.fits;
    }

  -- a field: what is created, and the fields before any could fall off
  module _ {q : Option Request} {i : ℕ} {a : LoginState} {f : Field} (d : Stored s q i a f) where
    pub stored-place : i < length s.login_states
    stored-place = user-place i d.user d.is_user

    pub created-is : a.created ≡ (login_at s i).created + one (absent f.path s.fields)
    unfolding absent one creating
    created-is = rw d.after (by_cases (holds f.path s.fields) (λ e. rw e (omega arith)) (λ e. rw e (omega arith)))

    pub logins-is : a.logins ≡ (login_at s i).logins
    unfolding creating
    logins-is = rw d.after

    within-stores : Within s.tables.users (set s.login_states i a)
    unfolding user_at login_at
    within-stores = within-set s.tables.users s.login_states i d.user a d.is_user quota-holds r.within
      where
        quota-holds : a.created ≤ d.user.quota
        quota-holds = by_cases (holds f.path s.fields)
            (λ e. unfold absent one in (omega (arith, rw e at created-is, within-at s.tables.users s.login_states i d.user d.is_user r.within)))
            (λ e. unfold absent one in (omega (arith, rw e at created-is, d.room e)))

    grown-stores : length (put f s.fields) ≡ loaded + total_created (set s.login_states i a)
    unfolding login_at
    grown-stores = omega (arith, length-put f s.fields, r.grown, created-is, total-set s.login_states i a stored-place)

    -- nothing falls off
    pub put-fits : length (put f s.fields) ≤ max_fields
    put-fits = omega (arith, grown-stores, within-sum s.tables.users (set s.login_states i a) within-stores, r.fits)

    pub store-is-put : store f s.fields ≡ put f s.fields
    store-is-put = store-fits f s.fields put-fits

    user-below : i < length s.tables.users
    unfolding user_at
    user-below = elem_below s.tables.users i d.user d.is_user

    run-stores : Running loaded (apply (stores i a f) s)
    unfolding apply login_at
    run-stores = record {
      sorted = rw store-is-put (sorted-put f s.fields r.sorted);
      few = all_set _ s.login_states i a (rw logins-is (few-at i)) r.few;
      seated = seated-set i a user-below;
      places = length-set s.login_states i a ∙ r.places;
      users = r.users;
      within = within-stores;
      grown = rw store-is-put grown-stores;
      fits = r.fits;
    }

  run-apply : (q : Option Request) (c : Change) → Decided s q c → Running loaded (apply c s)
  run-apply q (sets_login i a) d = run-sets-login d
  run-apply q (shows t) d = unfold apply in r
  run-apply q (stores i a f) d = run-stores d

-- ── An act leaves the state, or what a decision makes of it ──
pub next-state : (P : State → Type 0) (s : State) (a : Act) → P s → ((c : Change) → DecidedBy s a c → P (apply c s)) → P (outcome s a).state
unfolding conclude unchanged
next-state P s a same changed = by-decision (λ x. P x.state) s a (λ e. same) changed

pub run-act : {loaded : ℕ} (s : State) (a : Act) → Running loaded s → Running loaded (outcome s a).state
run-act {loaded} s a r = next-state (Running loaded) s a r (run-apply r _)

-- what each act keeps holds at the end
pub at-end : (P : State → Type 0) → ((s : State) (a : Act) → P s → P (outcome s a).state) → (s : State) (acts : List Act) → P s → P (end s acts)
unfolding end
at-end P f s [] h = h
at-end P f s (a ∷ acts) h = at-end P f (outcome s a).state acts (f s a h)
