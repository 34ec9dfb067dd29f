-- Sessions in a run (02, 1): a number is answered once, and is open exactly from the login that answers it to the LOGOUT that closes it.
use Rattle.std.specs.Prelude.{if◌then◌else◌}
use Prim.Native.Nat.{ℕ, suc, ◌+◌, ◌*◌, ◌≤◌}
use mathlib.Core.Path.{◌≡◌, refl, sym, ap, ◌∙◌}
use Rattle.std.specs.Prelude.{Option, None, Some}
use mathlib.Core.List.{List, [], ◌∷◌}
use mathlib.Core.Bool.{Bool, true, false, not, ◌&&◌, ◌||◌, and-true, and-false, or-false}
use lib.Dec.{leb, ltb, eqb}
use lib.ListN.{length, take}
use native.Mathlib.Omega.{arith}
use borrow.Author.Tests.{eqb-true, eqb-false, eq-eqb, ne_eqb}
use Rattle.model.specs.Base.{Bytes, any, keep, range, All}
use Rattle.model.specs.Limits.{list_room, per_user, max_logins}
use Rattle.model.specs.Fields.{Field}
use Rattle.model.specs.Refusals.{Result, refused, ◌>>=◌, ◌>>◌, refuse◌if◌, ◌or◌}
use Rattle.model.specs.Tables.{User, user_at, user_named}
use Rattle.model.specs.Opening.{LoginState, State}
use Rattle.model.specs.Requests.{Ask, Request, in_session, login, get, push, logout, request_of}
use Rattle.model.specs.Serving.{session_number, index_in, count_in, is_session, login_at, Change, sets_login, shows, stores, asker, decide_login, decide_get, creating, decide_push, decide_logout, room_for, decide, apply, reads_at, receivers, notified, answer_of, Answer, refusal, session, length_is, accepted, Act, line, decide_line, decision, unchanged, conclude, outcome}
use Rattle.model.specs.Runs.{request_of_act, event_in, events, end, in_set, only, is_accepted, is_open_number, session_in, gives, closes}
use Rattle.model.specs.Claims.{ground_without}
use Rattle.model.proofs.Lists.{by_cases, never, bytes-refl, both-and, all-imp, all_map, all-kept, keep-yes, keep-no, keep-none, false-any, and_both, elem_at}
use Rattle.model.proofs.Order.{one}
use Rattle.model.proofs.Decisions.{index-of, number_in, LoginSet, Stored, Decided, by-decision}
use Rattle.model.proofs.Invariant.{Running, few-at, login-set-place, login-set-few, stored-place, run-act}
use Rattle.model.proofs.Changes.{accepts, login-own, login-other, login-changes}
use Rattle.model.proofs.Growth.{logins-grow, login-number}
use Rattle.model.proofs.TwoRuns.{over-take}

-- ── A number in two parts, the index and the count (02, 3): a sum with its index is the number exactly if the rest is its count ──
rest-is-count : (n c : ℕ) → eqb (per_user * index_in n + c) n ≡ eqb c (count_in n)
unfolding index_in count_in
rest-is-count n c = by_cases (eqb c (count_in n))
    (λ e. rw e (eq-eqb (per_user * index_in n + c) n (omega (arith, eqb-true c (count_in n) e))))
    (λ e. rw e (ne_eqb (per_user * index_in n + c) n (λ k. eqb-false c (count_in n) e (omega arith))))

pub parts-session : (a : LoginState) (n : ℕ) → is_session (index_in n) a n ≡ (a.is_open && eqb a.logins (count_in n))
unfolding is_session session_number
parts-session a n = ap (a.is_open &&◌) (rest-is-count n a.logins)

-- ── A number is past: its user has had as many logins ──
abbrev pub Past : State → ℕ → Type 0
Past s n = n ≤ session_number (index_in n) (login_at s (index_in n))

-- login counts never fall
past_end : {loaded : ℕ} {s : State} → Running loaded s → (n : ℕ) (acts : List Act) → Past s n → Past (end s acts) n
unfolding session_number
past_end {s = s} r n acts h = omega (arith, logins-grow (index_in n) s acts r)

past-later : {loaded : ℕ} {s : State} → Running loaded s → (n : ℕ) (a : Act) → Past s n → Past (outcome s a).state n
unfolding end
past-later r n a h = past_end r n (a ∷ []) h

last-past : (s : State) (n : ℕ) → session_number (index_in n) (login_at s (index_in n)) ≡ n → Past s n
last-past s n h = omega (arith, h)

gives-session : (n : ℕ) (a : Answer) → in_set (only n) (session_in a) ≡ true → a ≡ session n
unfolding in_set only session_in
gives-session n (refusal e) h = never (sym h)
gives-session n (session m) h = ap session (eqb-true m n h)
gives-session n (length_is k) h = never (sym h)
gives-session n accepted h = never (sym h)

module _ {loaded : ℕ} {s : State} (r : Running loaded s) (n : ℕ) where
  -- no login answers it again
  pub past-not-given : Past s n → (a : Act) → gives n (event_in s a) ≡ false
  unfolding gives session_number
  past-not-given p a = by_cases (in_set (only n) (session_in (outcome s a).answer))
      (λ h. absurd (omega (arith, p, (login-number r n a (gives-session n _ h)).number)))
      (λ e. e)

  -- a number that is answered is past
  given-past : (a : Act) → gives n (event_in s a) ≡ true → Past (outcome s a).state n
  unfolding gives session_number
  given-past a h =
      let k = gives-session n (outcome s a).answer h in
      rw (login-changes r a n k).own_login (omega (arith, (login-number r n a k).number))

and-not : (b : Bool) → (b && not b) ≡ false
and-not true = refl
and-not false = refl

and_first : (a b c : Bool) → (a && b && c) ≡ true → a ≡ true
and_first true b c h = refl
and_first false b c h = h

-- ── One act: whether the number n has a session, and that a number closed is that of its user's last login ──
pub record Turns (s s₁ : State) (n : ℕ) (given shut : Bool) : Type 0 where
  pub after : is_open_number s₁ n ≡ ((is_open_number s n || given) && not shut)
  pub last : shut ≡ true → session_number (index_in n) (login_at s₁ (index_in n)) ≡ n

-- by the login state at the number's index
has-open : (s : State) (n : ℕ) (a : LoginState) → login_at s (index_in n) ≡ a → a.is_open ≡ true → is_open_number s n ≡ eqb (session_number (index_in n) a) n
unfolding is_open_number is_session
has-open s n a e o = rw e (ap (λ (b : Bool). b && eqb (session_number (index_in n) a) n) o)

has-none : (s : State) (n : ℕ) (a : LoginState) → login_at s (index_in n) ≡ a → a.is_open ≡ false → is_open_number s n ≡ false
unfolding is_open_number is_session
has-none s n a e o = rw e (ap (λ (b : Bool). b && eqb (session_number (index_in n) a) n) o)

module _ {loaded : ℕ} {s : State} (r : Running loaded s) (n : ℕ) where
  stays : Turns s s n false false
  stays = record { after = sym (and-true _ ∙ or-false _); last = λ h. never (sym h) }

  -- numbers of another index are others
  other-number : (i : ℕ) (a : LoginState) → a.logins ≤ max_logins → eqb i (index_in n) ≡ false → eqb (session_number i a) n ≡ false
  other-number i a few e = ne_eqb _ _ λ k. eqb-false _ _ e (sym (index-of i a few) ∙ ap index_in k)

  module _ {q : Option Request} {i : ℕ} {a : LoginState} (d : LoginSet s q i a) where
    abbrev s₁ : State
    s₁ = apply (sets_login i a) s

    -- the login state at the number's index
    own-login : eqb i (index_in n) ≡ true → login_at s₁ (index_in n) ≡ a
    unfolding apply login_at
    own-login e = let z : i ≡ index_in n = eqb-true i (index_in n) e in rw (← z) (login-own s i a (login-set-place r d))

    other-session : eqb i (index_in n) ≡ false → is_open_number s₁ n ≡ is_open_number s n
    unfolding apply login_at is_open_number
    other-session e = ap (λ (b : LoginState). is_session (index_in n) b n) (login-other s i a (index_in n) (λ k. eqb-false _ _ e (sym k)))

    opens : a.is_open ≡ true → is_open_number s₁ n ≡ (is_open_number s n || eqb (session_number i a) n)
    opens e = by_cases (eqb i (index_in n))
        (λ h.
        let z : i ≡ index_in n = eqb-true i (index_in n) h in
        let was : (login_at s i).is_open ≡ false = d.turned ∙ ap not e in
        has-open s₁ n a (own-login h) e ∙ rw (has-none s n (login_at s i) (ap (login_at s) (sym z)) was, z))
        (λ h. other-session h ∙ rw (other-number i a (login-set-few r d) h) (sym (or-false _)))

    shuts : a.is_open ≡ false → is_open_number s₁ n ≡ (is_open_number s n && not (eqb (session_number i (login_at s i)) n))
    shuts e = by_cases (eqb i (index_in n))
        (λ h.
        let z : i ≡ index_in n = eqb-true i (index_in n) h in
        let was : (login_at s i).is_open ≡ true = d.turned ∙ ap not e in
        has-none s₁ n a (own-login h) e ∙ rw (has-open s n (login_at s i) (ap (login_at s) (sym z)) was, z) (sym (and-not (eqb (session_number (index_in n) (login_at s (index_in n))) n))))
        (λ h. other-session h ∙ rw (other-number i (login_at s i) (few-at r i) h) (sym (and-true _)))

    shut-last : a.is_open ≡ false → eqb (session_number i (login_at s i)) n ≡ true → session_number (index_in n) (login_at s₁ (index_in n)) ≡ n
    unfolding session_number one
    shut-last e h =
        let number : session_number i (login_at s i) ≡ n = eqb-true _ _ h in
        let index : i ≡ index_in n = sym (index-of i (login_at s i) (few-at r i)) ∙ ap index_in number in
        rw (own-login (eq-eqb _ _ index)) (omega (arith, number, index, rw e at d.counted))

    -- what is answered and what is to be closed, by whether a session is opened
    given_is : (o : Bool) → a.is_open ≡ o → in_set (only n) (session_in (answer_of (sets_login i a))) ≡ (o && eqb (session_number i a) n)
    unfolding in_set only session_in answer_of
    given_is true e = ap (λ (b : Bool). in_set (only n) (session_in (if b then session (session_number i a) else accepted))) e
    given_is false e = ap (λ (b : Bool). in_set (only n) (session_in (if b then session (session_number i a) else accepted))) e

    shut-is : (o : Bool) → a.is_open ≡ o → in_set (only n) (number_in q) ≡ (not o && eqb (session_number i (login_at s i)) n)
    unfolding in_set only
    shut-is true e = ap (in_set (only n)) d.closes ∙ ap (λ (b : Bool). in_set (only n) (if b then None else Some (session_number i (login_at s i)))) e
    shut-is false e = ap (in_set (only n)) d.closes ∙ ap (λ (b : Bool). in_set (only n) (if b then None else Some (session_number i (login_at s i)))) e

    login-turns : Turns s s₁ n (in_set (only n) (session_in (answer_of (sets_login i a)))) (in_set (only n) (number_in q))
    login-turns = by_cases a.is_open
        (λ e. rw (given_is true e, shut-is true e) (record { after = opens e ∙ sym (and-true _); last = λ h. never (sym h) }))
        (λ e. rw (given_is false e, shut-is false e) (record { after = shuts e ∙ rw (or-false (is_open_number s n)); last = shut-last e }))

  stored-session : {q : Option Request} {i : ℕ} {a : LoginState} {f : Field} → Stored s q i a f → is_open_number (apply (stores i a f) s) n ≡ is_open_number s n
  unfolding is_open_number is_session session_number apply login_at creating
  stored-session {i = i} {a = a} d = by_cases (eqb i (index_in n))
      (λ e. let z : i ≡ index_in n = eqb-true i (index_in n) e in rw (← z, login-own s i a (stored-place r d), d.after))
      (λ e. rw (login-other s i a (index_in n) (λ k. eqb-false _ _ e (sym k))))

  turns-done : (q : Option Request) (c : Change) → Decided s q c →
      Turns s (apply c s) n (in_set (only n) (session_in (answer_of c))) (in_set (only n) (number_in q) && is_accepted (answer_of c))
  turns-done q (sets_login i a) d = rw (accepts (sets_login i a), and-true (in_set (only n) (number_in q))) (login-turns d)
  turns-done q (shows t) d = rw d.closes_none (unfold in_set session_in answer_of apply in stays)
  turns-done q (stores i a f) d = rw d.closes_none (unfold in_set session_in answer_of in (record {
    after = stored-session d ∙ sym (and-true _ ∙ or-false _);
    last = λ h. never (sym h);
  }))

  pub act-turns : (a : Act) → Turns s (outcome s a).state n (gives n (event_in s a)) (closes n (event_in s a))
  unfolding gives closes conclude unchanged
  act-turns a = by-decision (λ x. Turns s x.state n (in_set (only n) (session_in x.answer)) (in_set (only n) (number_in (request_of_act a)) && is_accepted x.answer)) s a
      (λ e. unfold session_in is_accepted in (rw (and-false (in_set (only n) (number_in (request_of_act a)))) (unfold in_set in stays)))
      (turns-done _)

-- ── A run ──
module _ (loaded n : ℕ) where
  -- a number that is past is not answered any more
  none-given : (s : State) (acts : List Act) → Running loaded s → Past s n → All (λ e. gives n e ≡ false) (events s acts)
  unfolding events
  none-given s [] r p = tt
  none-given s (a ∷ acts) r p = (past-not-given r n p a, none-given (outcome s a).state acts (run-act s a r) (past-later r n a p))

  pub given-once : (s : State) (acts : List Act) → Running loaded s → length (keep (gives n) (events s acts)) ≤ 1
  unfolding events
  given-once s [] r = unfold keep in omega arith
  given-once s (a ∷ acts) r =
      let s₁ : State = (outcome s a).state in
      let r₁ = run-act s a r in
      by_cases (gives n (event_in s a))
      (λ e. rw (keep-yes (gives n) (event_in s a) (events s₁ acts) e, keep-none _ _ (none-given s₁ acts r₁ (given-past r n a e))) (omega arith))
      (λ e. rw (keep-no (gives n) (event_in s a) (events s₁ acts) e) (given-once s₁ acts r₁))

  -- h: before, h₁: after one act, which answers it (g) or closes it (c); the acts after that answer it (G) or close it (C)
  turn : (h g c h₁ G C : Bool) → h₁ ≡ ((h || g) && not c) → (c ≡ true → G ≡ false) → ((h₁ || G) && not C) ≡ ((h || (g || G)) && not (c || C))
  turn h g true h₁ G C e k = rw (e, k refl, and-false (h || g), and-false (h || (g || false)))
  turn true g false h₁ G C e k = rw e
  turn false g false h₁ G C e k = rw (e, and-true g)

  pub open-run : (s : State) (acts : List Act) → Running loaded s →
      is_open_number (end s acts) n ≡ ((is_open_number s n || any (gives n) (events s acts)) && not (any (closes n) (events s acts)))
  unfolding events end any
  open-run s [] r = sym (and-true _ ∙ or-false _)
  open-run s (a ∷ acts) r =
      let s₁ : State = (outcome s a).state in
      let r₁ = run-act s a r in
      let t = act-turns r n a in
      open-run s₁ acts r₁
      ∙ turn (is_open_number s n) (gives n (event_in s a)) (closes n (event_in s a)) (is_open_number s₁ n) (any (gives n) (events s₁ acts)) (any (closes n) (events s₁ acts))
      t.after (λ e. false-any (gives n) (events s₁ acts) (none-given s₁ acts r₁ (last-past s₁ n (t.last e))))

  pub closed-past : (s : State) (acts : List Act) → Running loaded s → any (closes n) (events s acts) ≡ true → Past (end s acts) n
  unfolding events end any
  closed-past s [] r h = never (sym h)
  closed-past s (a ∷ acts) r h =
      let s₁ : State = (outcome s a).state in
      by_cases (closes n (event_in s a))
      (λ e. past_end (run-act s a r) n acts (last-past s₁ n ((act-turns r n a).last e)))
      (λ e. closed-past s₁ acts (run-act s a r) (rw e at h))

-- ── A number without a session ──
or-refused : {E A B : Type 0} (o : Option A) (e : E) (f : A → Result E B) → ((a : A) → f a ≡ refused e) → ((o or e) >>= f) ≡ refused e
unfolding ◌>>=◌ ◌or◌
or-refused None e f h = refl
or-refused (Some a) e f h = h a

module _ (s : State) (n : ℕ) (none_open : is_open_number s n ≡ false) where
  nobody-asks : asker s n ≡ refused 14
  unfolding asker is_open_number ◌>>◌ refuse◌if◌
  nobody-asks = or-refused _ _ _ λ u. rw none_open

  -- each word is refused; for a push a list that is too short comes before
  refused-without : (q : Ask) (b : Bytes) (l : List ℕ) → decide s (in_session n q) (room_for (in_session n q) b l) ≡ refused (ground_without q l)
  unfolding ground_without decide decide_get decide_push decide_logout room_for ◌>>=◌ ◌>>◌ refuse◌if◌
  refused-without get b l = rw nobody-asks
  refused-without (push p v) b l = by_cases (ltb (length l) list_room) (λ e. rw e) (λ e. rw (e, nobody-asks))
  refused-without logout b l = rw nobody-asks

  pub shut-refuses : (x b : Bytes) (l : List ℕ) (q : Ask) → request_of x ≡ Some (in_session n q) → (outcome s (line x b l)).answer ≡ refusal (ground_without q l)
  unfolding outcome decision decide_line conclude unchanged
  shut-refuses x b l q is = rw (is, refused-without q b l)

-- what a list receives are numbers of open sessions
module _ {loaded : ℕ} {s : State} (r : Running loaded s) where
  receiver-open : (j : ℕ) → (login_at s j).is_open ≡ true → is_open_number s (session_number j (login_at s j)) ≡ true
  unfolding is_open_number is_session
  receiver-open j h = rw (index-of j (login_at s j) (few-at r j)) (both-and _ _ h (eq-eqb (session_number j (login_at s j)) _ refl))

  told-open : (c : Change) → All (λ m. is_open_number s m ≡ true) (notified s c)
  unfolding notified receivers
  told-open (sets_login i a) = tt
  told-open (shows t) = tt
  told-open (stores i a f) =
      let number : ℕ → ℕ = λ j. session_number j (login_at s j) in
      let test : ℕ → Bool = λ j. (login_at s j).is_open && not (eqb j i) && reads_at s.tables j f.path in
      let js : List ℕ = keep test (range 0 (length s.tables.users)) in
      all_map (λ m. is_open_number s m ≡ true) number js
      (all-imp (λ j. test j ≡ true) (λ j. is_open_number s (number j) ≡ true) (λ j h. receiver-open j (and_first (login_at s j).is_open _ _ h)) js (all-kept test _))

  pub shut-not-told : (n : ℕ) → is_open_number s n ≡ false → (a : Act) → any (eqb n) (take (outcome s a).told (outcome s a).list) ≡ false
  unfolding conclude unchanged
  shut-not-told n none_open a = by-decision (λ x. any (eqb n) (take x.told x.list) ≡ false) s a
      (λ e. unfold any in refl)
      (λ c d. rw over-take (false-any (eqb n) (notified s c) (all-imp (λ m. is_open_number s m ≡ true) (λ m. eqb n m ≡ false) (λ m h. ne_eqb n m λ k. never (sym h ∙ ap (is_open_number s) (sym k) ∙ none_open)) (notified s c) (told-open c))))

-- ── A user logs in again, and out ──
-- the session of a number that is its user's last is open as the number is
pub last-open : (s : State) (n : ℕ) → session_number (index_in n) (login_at s (index_in n)) ≡ n → is_open_number s n ≡ false → (login_at s (index_in n)).is_open ≡ false
last-open s n last shut = by_cases (login_at s (index_in n)).is_open
    (λ e. never (sym (has-open s n _ refl e ∙ eq-eqb _ n last) ∙ shut))
    (λ e. e)

-- a user without a session who gives the key is let in, until the last login
pub lets-in : (s : State) (name : Bytes) (i : ℕ) (u : User) → user_named name s.tables.users ≡ Some (i, u) → (login_at s i).is_open ≡ false →
    (x b : Bytes) (l : List ℕ) → request_of x ≡ Some (login name u.key) →
    (outcome s (line x b l)).answer ≡ (if leb max_logins (login_at s i).logins then refusal 18 else session (suc (session_number i (login_at s i))))
unfolding outcome decision decide_line decide decide_login conclude unchanged answer_of session_number ◌>>=◌ ◌>>◌ refuse◌if◌ ◌or◌
lets-in s name i u named shut x b l is = by_cases (leb max_logins (login_at s i).logins)
    (λ e. rw (is, named, bytes-refl u.key, shut, e))
    (λ e. rw (is, named, bytes-refl u.key, shut, e) (ap session (omega arith)))

-- an open number is some user's, whom LOGOUT lets go
pub lets-out : {loaded : ℕ} {s : State} → Running loaded s → (n : ℕ) → is_open_number s n ≡ true →
    (x b : Bytes) (l : List ℕ) → request_of x ≡ Some (in_session n logout) → (outcome s (line x b l)).answer ≡ accepted
unfolding outcome decision decide_line decide decide_logout asker conclude unchanged answer_of is_open_number is_session user_at ◌>>=◌ ◌>>◌ refuse◌if◌ ◌or◌
lets-out {s = s} r n is_open x b l is =
    let (u, at) = elem_at s.tables.users (index_in n) (r.seated (index_in n) (and_both _ _ is_open).0) in
    rw (is, at, is_open)
