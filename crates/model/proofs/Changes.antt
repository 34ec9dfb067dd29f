-- Condition 1, what changes and what does not: refusals leave everything, a login or a logout changes one login state, a push one field.
use Prim.Native.Nat.{ℕ, ◌<◌}
use mathlib.Core.Path.{◌≡◌, refl, sym, ap, subst, ◌∙◌}
use Rattle.std.specs.Prelude.{Option, Some}
use mathlib.Core.List.{List}
use mathlib.Core.Bool.{true, false}
use lib.ListN.{length, set, get_or}
use lib.Seq.{get_or-set_same, get_or-set_other}
use native.Mathlib.Omega.{arith}
use Rattle.model.specs.Base.{Bytes, ◌>>=◌}
use Rattle.model.specs.Values.{Value}
use Rattle.model.specs.Fields.{Keys, Field}
use Rattle.model.specs.Refusals.{done}
use Rattle.model.specs.Opening.{LoginState, State, empty_login, kept, after_opening}
use Rattle.model.specs.Requests.{Request, in_session, push, logout, request_of, push_of}
use Rattle.model.specs.Serving.{index_in, login_at, entered, closed, creating, Change, sets_login, shows, stores, apply, notified, shown, answer_of, refusal, session, length_is, accepted, Act, line, buffer_of, list_of, over, unchanged, conclude, outcome}
use Rattle.model.specs.Runs.{request_of_act, is_accepted, session_in}
use Rattle.model.specs.Claims.{RefusedOpening, RefusedAct, OneFieldChanged, OneLoginChanged, ShowingChangesNothing}
use Rattle.model.proofs.Lists.{by_cases, never, none-some}
use Rattle.model.proofs.Reading.{some_same}
use Rattle.model.proofs.Order.{one, value-put, value-other}
use Rattle.model.proofs.Decisions.{owner-index, index-of, answers-session, answers-length, LoginSet, Stored, Decided, by-decision}
use Rattle.model.proofs.Invariant.{Running, store-is-put, login-set-place, login-set-few, stored-place}

-- ── Refusals ──
pub refused-opening : RefusedOpening
unfolding after_opening kept
refused-opening s t f h = rw h

pub accepts : (c : Change) → is_accepted (answer_of c) ≡ true
unfolding is_accepted answer_of
accepts (sets_login i a) = by_cases a.is_open (λ e. rw e) (λ e. rw e)
accepts (shows t) = refl
accepts (stores i a f) = refl

pub refused-act : RefusedAct
unfolding conclude unchanged is_accepted
refused-act s a e = by-decision (λ x. x.answer ≡ refusal e → x ≡ record { answer = refusal e; state = s; buffer = buffer_of a; list = list_of a; told = 0 }) s a
    (λ d h. let z : d ≡ e = cc in rw z)
    (λ c d h. never (sym (accepts c) ∙ ap is_accepted h))

-- ── GET and save ──
showing-same : (s : State) (c : Change) (n : ℕ) → answer_of c ≡ length_is n → apply c s ≡ s
unfolding answer_of apply
showing-same s (sets_login i a) n h = answers-length i a n h
showing-same s (shows t) n h = refl
showing-same s (stores i a f) n h = cc

pub showing-changes-nothing : ShowingChangesNothing
unfolding conclude unchanged
showing-changes-nothing s a n = by-decision (λ x. x.answer ≡ length_is n → x.state ≡ s) s a (λ e h. refl) (λ c d h. showing-same s c n h)

-- ── The login states once one is set ──
module _ (s : State) (i : ℕ) (a : LoginState) where
  pub login-own : i < length s.login_states → get_or (set s.login_states i a) i empty_login ≡ a
  login-own b = get_or-set_same s.login_states i a empty_login b

  pub login-other : (j : ℕ) → (j ≡ i → ⊥) → get_or (set s.login_states i a) j empty_login ≡ login_at s j
  unfolding login_at
  login-other j n = get_or-set_other s.login_states i j a empty_login n

same-login : (a b : LoginState) → a.logins ≡ b.logins → a.is_open ≡ b.is_open → a.created ≡ b.created → a ≡ b
same-login a b l o c = λ i. record { logins = l i; is_open = o i; created = c i }

module _ {loaded : ℕ} {s : State} (r : Running loaded s) where
  -- ── LOGIN and LOGOUT ──
  module _ {q : Option Request} {i : ℕ} {a : LoginState} (d : LoginSet s q i a) where
    entered-is : a.is_open ≡ true → a ≡ entered (login_at s i)
    unfolding one
    entered-is e = same-login a (entered (login_at s i)) (omega (arith, rw e at d.counted)) e d.same_created

    closed_is : a.is_open ≡ false → a ≡ closed (login_at s i)
    unfolding one
    closed_is e = same-login a (closed (login_at s i)) (omega (arith, rw e at d.counted)) e d.same_created

    login-set-one : (x : Act) → OneLoginChanged s x (conclude s (buffer_of x) (list_of x) (done (sets_login i a))) i a
    unfolding conclude apply shown notified over login_at
    login-set-one x = record {
      own_login = login-own s i a (login-set-place r d);
      other_logins = login-other s i a;
      fields_stay = refl;
      tables_stay = refl;
      buffer_stays = refl;
      list_stays = refl;
      nobody_told = refl;
    }

  login-done : (x : Act) (n : ℕ) (q : Option Request) (c : Change) → Decided s q c → answer_of c ≡ session n →
      OneLoginChanged s x (conclude s (buffer_of x) (list_of x) (done c)) (index_in n) (entered (login_at s (index_in n)))
  unfolding answer_of session_in
  login-done x n q (sets_login i a) d h = answers-session i a n h λ e number. rw (← number, index-of i a (login-set-few r d), ← entered-is d e) (login-set-one d x)
  login-done x n q (shows t) d h = none-some (ap session_in h)
  login-done x n q (stores i a f) d h = none-some (ap session_in h)

  pub login-changes : (a : Act) (n : ℕ) → (outcome s a).answer ≡ session n → OneLoginChanged s a (outcome s a) (index_in n) (entered (login_at s (index_in n)))
  unfolding conclude unchanged session_in
  login-changes a n = by-decision (λ x. x.answer ≡ session n → OneLoginChanged s a x (index_in n) (entered (login_at s (index_in n)))) s a
      (λ e h. none-some (ap session_in h))
      (login-done a n _)

  logout-done : (x : Act) (n : ℕ) (c : Change) → Decided s (Some (in_session n logout)) c → answer_of c ≡ accepted →
      OneLoginChanged s x (conclude s (buffer_of x) (list_of x) (done c)) (index_in n) (closed (login_at s (index_in n)))
  unfolding answer_of session_in push_of ◌>>=◌
  logout-done x n (sets_login i a) d h = by_cases a.is_open
      (λ e. none-some (sym (ap session_in (rw e at h))))
      (λ e. rw (owner-index s.tables n _ i d.owned, ← closed_is d e) (login-set-one d x))
  logout-done x n (shows t) d h = let z : ◌≡◌ {A = ℕ} 0 1 = cc in absurd (omega arith)
  logout-done x n (stores i a f) d h = none-some d.pushed

  pub logout-changes : (x b : Bytes) (l : List ℕ) (n : ℕ) → request_of x ≡ Some (in_session n logout) → (outcome s (line x b l)).answer ≡ accepted →
      OneLoginChanged s (line x b l) (outcome s (line x b l)) (index_in n) (closed (login_at s (index_in n)))
  unfolding conclude unchanged is_accepted request_of_act
  logout-changes x b l n e = by-decision
      (λ y. y.answer ≡ accepted → OneLoginChanged s (line x b l) y (index_in n) (closed (login_at s (index_in n)))) s (line x b l)
      (λ d h. never (sym (ap is_accepted h)))
      (λ c d h. logout-done (line x b l) n c (rw e at d) h)

  -- ── PUSH ──
  stored_one : {q : Option Request} {i : ℕ} {a : LoginState} {f : Field} → Stored s q i a f →
      OneFieldChanged s (apply (stores i a f) s) i f.path f.value
  unfolding apply login_at creating
  stored_one {i = i} {a = a} {f = f} d = rw (store-is-put r d) (record {
    holds_value = value-put f s.fields;
    other_fields = λ p k. value-other f p s.fields r.sorted k;
    own_login = login-own s i a (stored-place r d) ∙ d.after;
    other_logins = login-other s i a;
    tables_stay = refl;
  })

  accepted-one : (n : ℕ) (p : Keys) (v : Value) (c : Change) → Decided s (Some (in_session n (push p v))) c →
      OneFieldChanged s (apply c s) (index_in n) p v
  unfolding push_of ◌>>=◌
  accepted-one n p v (sets_login i a) d = none-some (sym d.quiet)
  accepted-one n p v (shows t) d = none-some (sym d.quiet)
  accepted-one n p v (stores i a f) d =
      rw (owner-index s.tables n _ i d.owned)
      (subst (λ (g : Field). OneFieldChanged s (apply (stores i a f) s) i g.path g.value) (sym (some_same d.pushed)) (stored_one d))

  pub push-changes : (x b : Bytes) (l : List ℕ) (n : ℕ) (p : Keys) (v : Value) → request_of x ≡ Some (in_session n (push p v)) → (outcome s (line x b l)).answer ≡ accepted →
      OneFieldChanged s (outcome s (line x b l)).state (index_in n) p v
  unfolding conclude unchanged is_accepted request_of_act
  push-changes x b l n p v e = by-decision (λ y. y.answer ≡ accepted → OneFieldChanged s y.state (index_in n) p v) s (line x b l)
      (λ d h. never (sym (ap is_accepted h)))
      (λ c d h. accepted-one n p v c (rw e at d))
