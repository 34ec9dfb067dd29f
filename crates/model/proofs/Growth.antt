-- Condition 2, what is counted: fields held less fields loaded are the accepted pushes that named an absent field, and each user's counts are
-- the user's own pushes and logins.
use Prim.Native.Nat.{ℕ, suc, ◌+◌, ◌*◌, ◌≤◌, ◌<◌}
use mathlib.Core.Path.{◌≡◌, refl, sym, ap}
use Rattle.std.specs.Prelude.{Option, None, Some}
use mathlib.Core.List.{List, [], ◌∷◌}
use mathlib.Core.Bool.{Bool, false, ◌&&◌, and-false}
use lib.Dec.{eqb}
use lib.ListN.{length, set, get_or}
use lib.Seq.{get_or-set_same, get_or-set_other}
use native.Mathlib.Omega.{arith}
use borrow.Author.Tests.{eqb-true, eqb-false}
use Rattle.model.specs.Base.{keep, is_some}
use Rattle.model.specs.Limits.{per_user, max_logins}
use Rattle.model.specs.Fields.{Field}
use Rattle.model.specs.Opening.{LoginState, State, empty_login}
use Rattle.model.specs.Requests.{Request}
use Rattle.model.specs.Serving.{session_number, index_in, login_at, Change, sets_login, shows, stores, apply, answer_of, refusal, session, Act, unchanged, conclude, outcome}
use Rattle.model.specs.Runs.{Event, event_in, events, end, owner_in, push_in, in_set, only, is_accepted, creates_by, creates, created_by, session_in, login_by}
use Rattle.model.proofs.Lists.{by_cases, none-some}
use Rattle.model.proofs.Order.{one, absent, length-put}
use Rattle.model.proofs.Decisions.{index-of, answers-session, owner_of, field_in, LoginSet, Stored, Decided, by-decision}
use Rattle.model.proofs.Invariant.{Running, login-set-place, login-set-few, stored-place, created-is, logins-is, store-is-put, run-act}

-- ── One act ──
-- a count of login states, once the one at an index was set: one more there if b
counted : (g : LoginState → ℕ) (l : List LoginState) (i : ℕ) (a : LoginState) (b : Bool) → i < length l → g a ≡ g (get_or l i empty_login) + one b →
    (j : ℕ) → g (get_or (set l i a) j empty_login) ≡ g (get_or l j empty_login) + one (eqb i j && b)
counted g l i a b h e j = by_cases (eqb i j)
    (λ k. let z : i ≡ j = eqb-true i j k in rw (k, ← z, get_or-set_same l i a empty_login h) e)
    (λ k. rw (k, get_or-set_other l i j a empty_login (λ x. eqb-false i j k (sym x))) (unfold one in omega arith))

-- `o` says whose the act is, `new` whether a field was created, `logs` whether a session was opened
pub record Grows (s : State) (o : Option ℕ) (new logs : Bool) (s₁ : State) : Type 0 where
  pub fields_grow : length s₁.fields ≡ length s.fields + one new
  pub created_grow : (j : ℕ) → (login_at s₁ j).created ≡ (login_at s j).created + one (in_set (only j) o && new)
  pub logins_grow : (j : ℕ) → (login_at s₁ j).logins ≡ (login_at s j).logins + one (in_set (only j) o && logs)

module _ {loaded : ℕ} {s : State} (r : Running loaded s) where
  stays : (o : Option ℕ) → Grows s o false false s
  unfolding one
  stays o = record {
    fields_grow = omega arith;
    created_grow = λ j. rw (and-false (in_set (only j) o)) (omega arith);
    logins_grow = λ j. rw (and-false (in_set (only j) o)) (omega arith);
  }

  grows-sets-login : {q : Option Request} {i : ℕ} {a : LoginState} → LoginSet s q i a → Grows s (Some i) false a.is_open (apply (sets_login i a) s)
  unfolding one in_set only apply login_at
  grows-sets-login {i = i} {a = a} d = record {
    fields_grow = omega arith;
    created_grow = counted (λ b. b.created) s.login_states i a false (login-set-place r d) (omega (arith, d.same_created));
    logins_grow = counted (λ b. b.logins) s.login_states i a a.is_open (login-set-place r d) d.counted;
  }

  grows-stores : {q : Option Request} {i : ℕ} {a : LoginState} {f : Field} → Stored s q i a f →
      Grows s (Some i) (absent f.path s.fields) false (apply (stores i a f) s)
  unfolding in_set only apply login_at
  grows-stores {i = i} {a = a} {f = f} d = record {
    fields_grow = rw (store-is-put r d) (length-put f s.fields);
    created_grow = counted (λ b. b.created) s.login_states i a _ (stored-place r d) (created-is r d);
    logins_grow = counted (λ b. b.logins) s.login_states i a false (stored-place r d) (unfold one in omega (arith, logins-is r d));
  }

  counts-session : (i : ℕ) (a : LoginState) → is_some (session_in (answer_of (sets_login i a))) ≡ a.is_open
  unfolding answer_of session_in is_some
  counts-session i a = by_cases a.is_open (λ e. rw e) (λ e. rw e)

  grows-done : (q : Option Request) (c : Change) → Decided s q c → Grows s (owner_of s q) (creates_by s (answer_of c) (field_in q)) (is_some (session_in (answer_of c))) (apply c s)
  unfolding creates_by answer_of session_in is_some
  grows-done q (sets_login i a) d = rw (d.quiet, d.owned, counts-session i a) (grows-sets-login d)
  grows-done q (shows t) d = unfold apply in (rw d.quiet (stays _))
  grows-done q (stores i a f) d = unfold is_accepted absent in (rw (d.pushed, d.owned) (grows-stores d))

  refused-creates : (e : ℕ) (p : Option Field) → creates_by s (refusal e) p ≡ false
  unfolding creates_by is_accepted
  refused-creates e None = refl
  refused-creates e (Some f) = refl

  grows-act : (a : Act) → Grows s (owner_in (event_in s a)) (creates (event_in s a)) (is_some (session_in (outcome s a).answer)) (outcome s a).state
  unfolding creates owner_in push_in conclude unchanged
  grows-act a = by-decision (λ x. Grows s (owner_in (event_in s a)) (creates_by s x.answer (push_in (event_in s a))) (is_some (session_in x.answer)) x.state) s a
      (λ e. rw (refused-creates e _) (unfold session_in is_some in (stays _)))
      (grows-done _)

-- ── A run ──
length-keep : {A : Type 0} (f : A → Bool) (x : A) (xs : List A) → length (keep f (x ∷ xs)) ≡ one (f x) + length (keep f xs)
unfolding keep one
length-keep f x xs = by_cases (f x) (λ e. rw e (omega arith)) (λ e. rw e (omega arith))

-- what grows by one with each act that passes has grown by the number of those
module _ (loaded : ℕ) (g : State → ℕ) (f : Event → Bool)
    (step : (s : State) (a : Act) → Running loaded s → g (outcome s a).state ≡ g s + one (f (event_in s a))) where
  run-counts : (s : State) (acts : List Act) → Running loaded s → g (end s acts) ≡ g s + length (keep f (events s acts))
  unfolding end events
  run-counts s [] r = unfold keep in omega arith
  run-counts s (a ∷ acts) r =
      let s₁ = (outcome s a).state in
      omega (arith, run-counts s₁ acts (run-act s a r), step s a r, length-keep f (event_in s a) (events s₁ acts))

pub fields-grow : {loaded : ℕ} (s : State) (acts : List Act) → Running loaded s → length (end s acts).fields ≡ length s.fields + length (keep creates (events s acts))
fields-grow = run-counts _ (λ s. length s.fields) creates (λ s a r. (grows-act r a).fields_grow)

pub created-grow : {loaded : ℕ} (i : ℕ) (s : State) (acts : List Act) → Running loaded s →
    (login_at (end s acts) i).created ≡ (login_at s i).created + length (keep (created_by i) (events s acts))
unfolding created_by
created-grow i = run-counts _ (λ s. (login_at s i).created) (created_by i) (λ s a r. (grows-act r a).created_grow i)

pub logins-grow : {loaded : ℕ} (i : ℕ) (s : State) (acts : List Act) → Running loaded s →
    (login_at (end s acts) i).logins ≡ (login_at s i).logins + length (keep (login_by i) (events s acts))
unfolding login_by
logins-grow i = run-counts _ (λ s. (login_at s i).logins) (login_by i) (λ s a r. (grows-act r a).logins_grow i)

-- ── The session number ──
module _ {loaded : ℕ} {s : State} (r : Running loaded s) (n : ℕ) where
  -- a login is of the user whose index the number has, and the rest is the count with it
  pub record Numbered (o : Option ℕ) : Type 0 where
    pub owned : o ≡ Some (index_in n)
    pub number : n ≡ per_user * index_in n + suc (login_at s (index_in n)).logins
    pub few : suc (login_at s (index_in n)).logins ≤ max_logins

  numbered : (q : Option Request) (c : Change) → Decided s q c → answer_of c ≡ session n → Numbered (owner_of s q)
  unfolding answer_of session_in session_number one
  numbered q (sets_login i a) d h = answers-session i a n h λ e number.
      let index : index_in n ≡ i = rw (← number) (index-of i a (login-set-few r d)) in
      record {
        owned = rw index d.owned;
        number = rw index (omega (arith, rw e at d.counted));
        few = rw index (omega (arith, rw e at d.counted, login-set-few r d));
      }
  numbered q (shows t) d h = none-some (ap session_in h)
  numbered q (stores i a f) d h = none-some (ap session_in h)

  pub login-number : (a : Act) → (outcome s a).answer ≡ session n → Numbered (owner_in (event_in s a))
  unfolding owner_in conclude unchanged session_in
  login-number a = by-decision (λ x. x.answer ≡ session n → Numbered (owner_in (event_in s a))) s a
      (λ e h. none-some (ap session_in h))
      (numbered _)
