-- Condition 3. What a set of users gets in a run is what the server itself gives when it is run on what the set sees of the start and on the
-- set's own sequence. Nothing else of the run comes in, so two runs with one sight of the start and one sequence give the same.
use Rattle.std.specs.Prelude.{if◌then◌else◌}
use Prim.Native.Nat.{ℕ, zero, suc, ◌≤◌}
use mathlib.Core.Path.{◌≡◌, refl, sym, ap, ap₂, ◌∙◌}
use Rattle.std.specs.Prelude.{Option, None, Some}
use mathlib.Core.List.{List, [], ◌∷◌, ◌++◌, map, append_assoc, append-nil}
use mathlib.Core.Bool.{Bool, true, false, not, ◌&&◌, and-false}
use lib.Dec.{eqb}
use lib.ListN.{length, take, drop, set, get_or}
use lib.Seq.{take_at}
use native.Mathlib.Omega.{arith}
use native.Mathlib.Nat.{le_trans}
use borrow.Author.Tests.{not-false, eqb-true}
use Rattle.model.specs.Base
use Rattle.model.specs.Base.{Bytes, keep, joined, range, is_some}
use Rattle.model.specs.Limits.{max_fields, max_logins}
use Rattle.model.specs.Values.{Value}
use Rattle.model.specs.Fields.{Keys, Field, holds, put, store, field_of}
use Rattle.model.specs.Refusals.{Result, refused, done, ◌>>=◌}
use Rattle.model.specs.Tables.{User, Rule, Tables, user_at}
use Rattle.model.specs.Rights.{matches, is_write, is_for, may_read, may_write}
use Rattle.model.specs.Opening.{LoginState, State, empty_login}
use Rattle.model.specs.Requests.{Request, login, in_session, get, push, logout, request_of, push_of}
use Rattle.model.specs.Serving.{session_number, index_in, login_at, readable, copy_for, Change, sets_login, shows, stores, Asker, asker, decide_login, decide_get, decide_push, decide_logout, room_for, decide, apply, reads_by, reads_at, receivers, notified, shown, answer_of, refusal, Act, line, save, Outcome, buffer_of, list_of, decide_line, decision, over, unchanged, conclude, outcome}
use Rattle.model.specs.Runs.{request_of_act, event_in, events, index_of, owner, owner_in, push_in, in_set, seen, seen_fields, is_accepted, Item, own, others, own_request, others_push, items, sequence, Got, answer, copy, delivery, delivery_line, copies, answers, deliveries, got_in, got}
use Rattle.model.proofs.Lists.{by_cases, never, if-agree, or-agree, bind-agree, all-imp, all-range, any-range, any-mono, any_false, and_both, elem_below, keep-agree, keep-within, keep-map, keep-keep, keep-none, length-keep-le, all-kept, map-agree}
use Rattle.model.proofs.Order.{put-seen, put-hidden, value-seen, store-fits, Sorted}
use Rattle.model.proofs.Decisions.{owner_of, field_in, Stored, Decided, Asking, asking, decided, by-decision, owner-in, index-of}
use Rattle.model.proofs.Invariant.{Running, few-at, put-fits, store-is-put, run-act}

-- ── A right to write is one to read ──
and-drop : (a b c : Bool) → (a && b && c) ≡ true → (a && c) ≡ true
and-drop true true c h = h
and-drop true false c h = never (sym h)
and-drop false b c h = h

pub write-reads : (rs : List Rule) (u : User) (p : Keys) → may_write rs u p ≡ true → may_read rs u p ≡ true
unfolding may_write may_read
write-reads rs u p h = any-mono _ _ (λ r. and-drop (is_for u r) (is_write r) (matches u.environment r.path p)) rs h

-- ── Login states of which those outside the set are blanked ──
masked : (ℕ → Bool) → List LoginState → List LoginState
masked In [] = []
masked In (a ∷ l) = (if In 0 then a else empty_login) ∷ masked (λ i. In (suc i)) l

masked-in : (In : ℕ → Bool) (l : List LoginState) (i : ℕ) → In i ≡ true → get_or (masked In l) i empty_login ≡ get_or l i empty_login
unfolding masked
masked-in In [] i e = refl
masked-in In (a ∷ l) zero e = rw e
masked-in In (a ∷ l) (suc i) e = masked-in (λ i. In (suc i)) l i e

masked-out : (In : ℕ → Bool) (l : List LoginState) (i : ℕ) → In i ≡ false → get_or (masked In l) i empty_login ≡ empty_login
unfolding masked
masked-out In [] i e = refl
masked-out In (a ∷ l) zero e = rw e
masked-out In (a ∷ l) (suc i) e = masked-out (λ i. In (suc i)) l i e

masked-set-in : (In : ℕ → Bool) (l : List LoginState) (i : ℕ) (a : LoginState) → In i ≡ true → masked In (set l i a) ≡ set (masked In l) i a
unfolding masked
masked-set-in In [] i a e = refl
masked-set-in In (b ∷ l) zero a e = rw e
masked-set-in In (b ∷ l) (suc i) a e = rw (masked-set-in (λ i. In (suc i)) l i a e)

masked-set-out : (In : ℕ → Bool) (l : List LoginState) (i : ℕ) (a : LoginState) → In i ≡ false → masked In (set l i a) ≡ masked In l
unfolding masked
masked-set-out In [] i a e = refl
masked-set-out In (b ∷ l) zero a e = rw e
masked-set-out In (b ∷ l) (suc i) a e = rw (masked-set-out (λ i. In (suc i)) l i a e)

-- ── What is got, from the decision alone: the content of what was lent plays no part ──
copies_of : ℕ → Change → List Got
copies_of i (sets_login j a) = []
copies_of i (shows c) = copy i c ∷ []
copies_of i (stores j a f) = []

answers_of : (ℕ → Bool) → Result ℕ Change → Option ℕ → List Got
answers_of In x None = []
answers_of In (refused e) (Some i) = if In i then answer i (refusal e) ∷ [] else []
answers_of In (done c) (Some i) = if In i then answer i (answer_of c) ∷ copies_of i c else []

deliveries_of : List ℕ → Option Field → List Got
deliveries_of ms None = []
deliveries_of ms (Some f) = map (λ m. delivery (index_in m) (delivery_line f.path f.value m)) ms

pub over-take : {A : Type 0} (xs ys : List A) → take (length xs) (over xs ys) ≡ xs
unfolding over
over-take xs ys = take_at xs (drop (length xs) ys) (length xs) refl

copies-are : (i : ℕ) (b : Bytes) (c : Change) → copies i (over (shown c) b) (answer_of c) ≡ copies_of i c
unfolding copies answer_of copies_of shown
copies-are i b (sets_login j a) = by_cases a.is_open (λ e. rw e) (λ e. rw e)
copies-are i b (shows c) = rw over-take
copies-are i b (stores j a f) = refl

-- what is got of an outcome
got_of : (ℕ → Bool) → Option ℕ → Option Field → Outcome → List Got
got_of In o p x = answers In x o ++ deliveries In x p

module _ (In : ℕ → Bool) (s : State) where
  -- the numbers of the set among those that a decision notifies
  notified_of : Result ℕ Change → List ℕ
  notified_of (refused e) = []
  notified_of (done c) = keep (λ m. In (index_in m)) (notified s c)

  gains : Result ℕ Change → Option ℕ → Option Field → List Got
  gains x o p = answers_of In x o ++ deliveries_of (notified_of x) p

  answers-are : (b : Bytes) (l : List ℕ) (x : Result ℕ Change) (o : Option ℕ) → answers In (conclude s b l x) o ≡ answers_of In x o
  unfolding answers answers_of conclude unchanged copies
  answers-are b l x None = refl
  answers-are b l (refused e) (Some i) = refl
  answers-are b l (done c) (Some i) = rw (copies-are i b c)

  told-are : (b : Bytes) (l : List ℕ) (x : Result ℕ Change) → keep (λ m. In (index_in m)) (take (conclude s b l x).told (conclude s b l x).list) ≡ notified_of x
  unfolding conclude unchanged notified_of
  told-are b l (refused e) = unfold keep in refl
  told-are b l (done c) = rw over-take

  deliveries-are : (b : Bytes) (l : List ℕ) (x : Result ℕ Change) (p : Option Field) → deliveries In (conclude s b l x) p ≡ deliveries_of (notified_of x) p
  unfolding deliveries deliveries_of
  deliveries-are b l x None = refl
  deliveries-are b l x (Some f) = rw (told-are b l x)

  got-is : (b : Bytes) (l : List ℕ) (x : Result ℕ Change) (o : Option ℕ) (p : Option Field) → got_of In o p (conclude s b l x) ≡ gains x o p
  unfolding got_of gains
  got-is b l x o p = ap₂ ◌++◌ (answers-are b l x o) (deliveries-are b l x p)

-- ── The view, and the server run on it ──
module _ (In : ℕ → Bool) where
  -- what the set sees of a state: a state again, with the seen fields only and the others' login states empty
  pub view : State → State
  view s = record { tables = s.tables; login_states = masked In s.login_states; fields = seen_fields In s }

  pub same_view : (s₁ s₂ : State) → s₁.tables ≡ s₂.tables → s₁.login_states ≡ s₂.login_states → seen_fields In s₁ ≡ seen_fields In s₂ → view s₁ ≡ view s₂
  unfolding view
  same_view s₁ s₂ t l f = λ i. record { tables = t i; login_states = masked In (l i); fields = f i }

  after_result : State → Result ℕ Change → State
  after_result v (refused e) = v
  after_result v (done c) = apply c v

  after_own : State → ℕ → Option Request → State
  after_own v room None = v
  after_own v room (Some q) = after_result v (decide v q room)

  after : State → Item → State
  after v (own t room) = after_own v room (request_of t)
  after v (others p x) = record { tables = v.tables; login_states = v.login_states; fields = store (field_of p x) v.fields }

  -- the numbers of the set's open sessions whose user may read the path, but those that `ok` leaves out
  listening : State → (ℕ → Bool) → Keys → List ℕ
  listening s ok p =
      map (λ j. session_number j (login_at s j))
      (keep (λ j. ((login_at s j).is_open && ok j && reads_at s.tables j p) && In j) (range 0 (length s.tables.users)))

  gives_own : State → ℕ → Option Request → List Got
  gives_own v room None = []
  gives_own v room (Some q) = gains In v (decide v q room) (owner v.tables q) (push_of q)

  gives : State → Item → List Got
  gives v (own t room) = gives_own v room (request_of t)
  gives v (others p x) = deliveries_of (listening v (λ j. true) p) (Some (record { path = p; value = x }))

  afters : State → List Item → State
  afters v [] = v
  afters v (i ∷ is) = afters (after v i) is

  pub replay : State → List Item → List Got
  replay v [] = []
  replay v (i ∷ is) = gives v i ++ replay (after v i) is

  replay-append : (v : State) (xs ys : List Item) → replay v (xs ++ ys) ≡ replay v xs ++ replay (afters v xs) ys
  unfolding replay afters
  replay-append v [] ys = refl
  replay-append v (x ∷ xs) ys = rw (replay-append (after v x) xs ys) (sym (append_assoc (gives v x) _ _))

  -- ── Login states seen ──
  login-seen : (s : State) (i : ℕ) → In i ≡ true → login_at (view s) i ≡ login_at s i
  unfolding view login_at
  login-seen s i e = masked-in In s.login_states i e

  few-seen : (s : State) → ((j : ℕ) → (login_at s j).logins ≤ max_logins) → (j : ℕ) → (login_at (view s) j).logins ≤ max_logins
  few-seen s h j = by_cases (In j)
      (λ e. rw (login-seen s j e) (h j))
      (λ e. unfold view login_at in (rw (masked-out In s.login_states j e) (unfold empty_login in omega arith)))

  -- ── Receivers of the set ──
  kept-receivers : (s : State) (i : ℕ) (p : Keys) → ((j : ℕ) → (login_at s j).logins ≤ max_logins) →
      keep (λ m. In (index_in m)) (receivers s i p) ≡ listening s (λ j. not (eqb j i)) p
  unfolding receivers listening
  kept-receivers s i p few =
      let number : ℕ → ℕ = λ j. session_number j (login_at s j) in
      let f : ℕ → Bool = λ j. (login_at s j).is_open && not (eqb j i) && reads_at s.tables j p in
      let js : List ℕ = range 0 (length s.tables.users) in
      keep-map (λ m. In (index_in m)) number (keep f js)
      ∙ ap (map number) (keep-keep (λ j. In (index_in (number j))) f js
      ∙ keep-agree _ _ js (all-range _ 0 (length s.tables.users) (λ j h k. ap (λ (x : ℕ). f j && In x) (index-of j (login_at s j) (few j)))))

  -- where the set's places agree on who is left out, the view has the same
  listening-seen : (s : State) (ok ok₁ : ℕ → Bool) (p : Keys) → ((j : ℕ) → In j ≡ true → ok j ≡ ok₁ j) → listening (view s) ok₁ p ≡ listening s ok p
  unfolding listening view
  listening-seen s ok ok₁ p agree =
      ap (map (number (view s))) (keep-agree (f (view s) ok₁) (f s ok) js (all-range (λ j. f (view s) ok₁ j ≡ f s ok j) 0 (length s.tables.users) (λ j h k. same j)))
      ∙ map-agree (number (view s)) (number s) (keep (f s ok) js)
      (all-imp (λ j. f s ok j ≡ true) (λ j. number (view s) j ≡ number s j) (λ j e. ap (session_number j) (login-seen s j (and_both ((login_at s j).is_open && ok j && reads_at s.tables j p) (In j) e).1))
      (keep (f s ok) js) (all-kept (f s ok) js))
    where
      number : State → ℕ → ℕ
      number s j = session_number j (login_at s j)

      f : State → (ℕ → Bool) → ℕ → Bool
      f s ok j = ((login_at s j).is_open && ok j && reads_at s.tables j p) && In j

      js : List ℕ
      js = range 0 (length s.tables.users)

      same : (j : ℕ) → f (view s) ok₁ j ≡ f s ok j
      same j = by_cases (In j)
          (λ e. rw (login-seen s j e, agree j e))
          (λ e. rw e (simp and-false))

  -- ── Fields seen ──
  -- what a member of the set may read is seen
  member-sees : (t : Tables) (i : ℕ) (u : User) (p : Keys) → In i ≡ true → user_at t.users i ≡ Some u → may_read t.policy u p ≡ true → seen In t p ≡ true
  unfolding seen reads_at reads_by user_at
  member-sees t i u p e h k = any-range _ 0 (length t.users) i (omega arith) (omega (arith, elem_below t.users i u h)) (rw (e, h) k)

  readable-seen : (s : State) (i : ℕ) (u : User) → In i ≡ true → user_at s.tables.users i ≡ Some u →
      readable s.tables.policy u (view s).fields ≡ readable s.tables.policy u s.fields
  unfolding readable view seen_fields
  readable-seen s i u e h = keep-within (λ f. seen In s.tables f.path) (λ f. may_read s.tables.policy u f.path) (λ f k. member-sees s.tables i u f.path e h k) s.fields

  holds-seen : (s : State) (p : Keys) → Sorted s.fields → seen In s.tables p ≡ true → holds p (view s).fields ≡ holds p s.fields
  unfolding holds view seen_fields
  holds-seen s p o e = ap is_some (value-seen (seen In s.tables) p s.fields e o)

  -- ── What a member of the set is decided to get is decided so on the view ──
  module _ (s : State) (o : Sorted s.fields) where
    login-same : (n k : Bytes) → in_set In (owner s.tables (login n k)) ≡ true → decide_login (view s) n k ≡ decide_login s n k
    unfolding decide_login owner view
    login-same n k h = or-agree _ _ _ _ λ t e. rw (login-seen s t.0 (unfold in_set index_of in (rw e at h)))

    module _ (n : ℕ) (is_in : In (index_in n) ≡ true) where
      asker-same : asker (view s) n ≡ asker s n
      unfolding asker view
      asker-same = rw (login-seen s (index_in n) is_in)

      -- what is decided from who asks, and agrees there
      from-asker : (f g : Asker → Result ℕ Change) → ((a : Asker) → Asking s n a → f a ≡ g a) → (asker (view s) n >>= f) ≡ (asker s n >>= g)
      from-asker f g agree = rw asker-same (bind-agree (asker s n) f g λ a e. agree a (asking s n a e))

      get-same : (room : ℕ) → decide_get (view s) n room ≡ decide_get s n room
      unfolding decide_get copy_for view
      get-same room = from-asker _ _ λ a k. rw (readable-seen s (index_in n) a.user is_in k.is_user)

      push-same : (p : Keys) (v : Value) (room : ℕ) → decide_push (view s) n p v room ≡ decide_push s n p v room
      unfolding decide_push view
      push-same p v room = if-agree _ _ _ _ λ long. from-asker _ _ λ a k. if-agree _ _ _ _ λ may.
          let w = write-reads s.tables.policy a.user p (not-false _ may) in
          rw (holds-seen s p o (member-sees s.tables (index_in n) a.user p is_in k.is_user w))

      logout-same : decide_logout (view s) n ≡ decide_logout s n
      unfolding decide_logout
      logout-same = from-asker _ _ λ a k. refl

    decide-seen : (q : Request) (room : ℕ) → in_set In (owner s.tables q) ≡ true → decide (view s) q room ≡ decide s q room
    unfolding decide owner
    decide-seen (login n k) room h = login-same n k h
    decide-seen (in_session n get) room h = get-same n (owner-in In s.tables (index_in n) h) room
    decide-seen (in_session n (push p v)) room h = push-same n (owner-in In s.tables (index_in n) h) p v room
    decide-seen (in_session n logout) room h = logout-same n (owner-in In s.tables (index_in n) h)

  -- ── How a change shows ──
  view-sets-login : (s : State) (i : ℕ) (a : LoginState) → In i ≡ true → view (apply (sets_login i a) s) ≡ apply (sets_login i a) (view s)
  unfolding view apply seen_fields
  view-sets-login s i a e = rw (masked-set-in In s.login_states i a e)

  hidden-sets-login : (s : State) (i : ℕ) (a : LoginState) → In i ≡ false → view (apply (sets_login i a) s) ≡ view s
  unfolding view apply seen_fields
  hidden-sets-login s i a e = rw (masked-set-out In s.login_states i a e)

  module _ {loaded : ℕ} {s : State} (r : Running loaded s) {q : Option Request} {i : ℕ} {a : LoginState} {f : Field} (d : Stored s q i a f) where
    -- a seen field is stored among the seen ones
    store-seen : seen In s.tables f.path ≡ true → keep (λ g. seen In s.tables g.path) (store f s.fields) ≡ store f (seen_fields In s)
    unfolding seen_fields
    store-seen e =
        let q : Keys → Bool = seen In s.tables in
        let k : keep (λ g. q g.path) (put f s.fields) ≡ put f (keep (λ g. q g.path) s.fields) = put-seen q f s.fields e r.sorted in
        let l : length (put f (keep (λ g. q g.path) s.fields)) ≤ max_fields =
        rw (← k) (le_trans (length-keep-le (λ g. q g.path) (put f s.fields)) (put-fits r d)) in
        rw (store-is-put r d) (k ∙ sym (store-fits f _ l))

    store-hidden : seen In s.tables f.path ≡ false → keep (λ g. seen In s.tables g.path) (store f s.fields) ≡ seen_fields In s
    unfolding seen_fields
    store-hidden e = rw (store-is-put r d) (put-hidden (seen In s.tables) f s.fields e)

    view-stores : In i ≡ true → view (apply (stores i a f) s) ≡ apply (stores i a f) (view s)
    unfolding view apply seen_fields
    view-stores e = rw (masked-set-in In s.login_states i a e, store-seen sees)
      where
        sees : seen In s.tables f.path ≡ true
        sees = member-sees s.tables i d.user f.path e d.is_user (write-reads s.tables.policy d.user f.path d.writes)

    -- another's push to a seen path
    view-others : In i ≡ false → seen In s.tables f.path ≡ true → view (apply (stores i a f) s) ≡ after (view s) (others f.path f.value)
    unfolding view apply seen_fields after
    view-others e k = rw (masked-set-out In s.login_states i a e, store-seen k)

    -- and to a hidden one
    view-hidden : In i ≡ false → seen In s.tables f.path ≡ false → view (apply (stores i a f) s) ≡ view s
    unfolding view apply seen_fields
    view-hidden e k = rw (masked-set-out In s.login_states i a e, store-hidden k)

  -- ── One act ──
  record Step (s : State) (xs : List Item) (gs : List Got) (s₁ : State) : Type 0 where
    gets-is : replay (view s) xs ≡ gs
    next-is : afters (view s) xs ≡ view s₁

  no_items : (s s₁ : State) (gs : List Got) → [] ≡ gs → view s ≡ view s₁ → Step s [] gs s₁
  unfolding replay afters
  no_items s s₁ gs g e = record { gets-is = g; next-is = e }

  one-item : (s s₁ : State) (x : Item) (gs : List Got) → gives (view s) x ≡ gs → after (view s) x ≡ view s₁ → Step s (x ∷ []) gs s₁
  unfolding replay afters
  one-item s s₁ x gs g e = record { gets-is = append-nil _ ∙ g; next-is = e }

  module _ {loaded : ℕ} {s : State} (r : Running loaded s) where
    -- the set's own request
    notified-seen : (c : Change) → keep (λ m. In (index_in m)) (notified (view s) c) ≡ keep (λ m. In (index_in m)) (notified s c)
    unfolding notified
    notified-seen (sets_login i a) = refl
    notified-seen (shows t) = refl
    notified-seen (stores i a f) =
        kept-receivers (view s) i f.path (few-seen s (few-at r))
        ∙ listening-seen s (λ j. not (eqb j i)) (λ j. not (eqb j i)) f.path (λ j e. refl)
        ∙ sym (kept-receivers s i f.path (few-at r))

    gains-seen : (x : Result ℕ Change) (o : Option ℕ) (p : Option Field) → gains In (view s) x o p ≡ gains In s x o p
    unfolding gains notified_of
    gains-seen (refused e) o p = refl
    gains-seen (done c) o p = ap (λ (ms : List ℕ). answers_of In (done c) o ++ deliveries_of ms p) (notified-seen c)

    view-own : (q : Option Request) (c : Change) → Decided s q c → in_set In (owner_of s q) ≡ true → apply c (view s) ≡ view (apply c s)
    unfolding in_set
    view-own q (sets_login i a) d h = sym (view-sets-login s i a (rw d.owned at h))
    view-own q (shows t) d h = unfold apply in refl
    view-own q (stores i a f) d h = sym (view-stores r d (rw d.owned at h))

    own-result : (q : Request) (room : ℕ) (b : Bytes) (l : List ℕ) (x : Result ℕ Change) → decide s q room ≡ x → in_set In (owner_of s (Some q)) ≡ true →
        after_result (view s) x ≡ view (conclude s b l x).state
    unfolding after_result conclude unchanged
    own-result q room b l (refused e) h k = refl
    own-result q room b l (done c) h k = view-own _ c (decided s q room c h) k

    own-step : (t b : Bytes) (l : List ℕ) (q : Option Request) → request_of t ≡ q → in_set In (owner_of s q) ≡ true →
        Step s (own_request (line t b l) q) (got_of In (owner_of s q) (field_in q) (conclude s b l (decide_line s b l q))) (conclude s b l (decide_line s b l q)).state
    unfolding decide_line own_request Base.◌>>=◌ gives gives_own after after_own view
    own-step t b l None e h = never (unfold in_set in sym h)
    own-step t b l (Some q) e h =
        let room : ℕ = room_for q b l in
        let x : Result ℕ Change = decide s q room in
        let o : Option ℕ = owner s.tables q in
        let p : Option Field = push_of q in
        let d = decide-seen s r.sorted q room h in
        one-item s _ (own t room) _
        (rw e (ap (λ (x : Result ℕ Change). gains In (view s) x o p) d ∙ gains-seen x o p ∙ sym (got-is In s b l x o p)))
        (rw e (ap (after_result (view s)) d ∙ own-result q room b l x refl h))

    own-act : (a : Act) → in_set In (owner_in (event_in s a)) ≡ true → Step s (own_request a (request_of_act a)) (got_in In (event_in s a)) (outcome s a).state
    unfolding got_in owner_in push_in request_of_act outcome buffer_of list_of decision got_of
    own-act (line t b l) h = own-step t b l (request_of t) refl h
    own-act (save b) h = never (unfold in_set Base.◌>>=◌ in sym h)

    -- a request that is not the set's
    answers-out : (x : Result ℕ Change) (o : Option ℕ) → in_set In o ≡ false → answers_of In x o ≡ []
    unfolding answers_of in_set
    answers-out x None h = refl
    answers-out (refused e) (Some i) h = rw h
    answers-out (done c) (Some i) h = rw h

    deliveries-none : (p : Option Field) → deliveries_of [] p ≡ []
    unfolding deliveries_of
    deliveries-none None = refl
    deliveries-none (Some f) = refl

    got-out : (b : Bytes) (l : List ℕ) (x : Result ℕ Change) (o : Option ℕ) (p : Option Field) → in_set In o ≡ false →
        got_of In o p (conclude s b l x) ≡ deliveries_of (notified_of In s x) p
    unfolding gains
    got-out b l x o p h = got-is In s b l x o p ∙ rw (answers-out x o h)

    refused-no-item : (e : ℕ) (p : Option Field) → others_push In s (refusal e) p ≡ []
    unfolding others_push is_accepted
    refused-no-item e None = refl
    refused-no-item e (Some f) = refl

    -- nobody of the set listens to a hidden path
    listening-hidden : (ok : ℕ → Bool) (p : Keys) → seen In s.tables p ≡ false → listening s ok p ≡ []
    unfolding listening seen
    listening-hidden ok p h = ap (map (λ j. session_number j (login_at s j)))
        (keep-none _ _ (all-imp _ _ (λ j e. hides (In j) (reads_at s.tables j p) (login_at s j).is_open (ok j) e) (range 0 (length s.tables.users)) (any_false _ _ h)))
      where
        hides : (m d o k : Bool) → (m && d) ≡ false → ((o && k && d) && m) ≡ false
        hides true d o k h = rw (h, and-false (o && k))
        hides false d o k h = and-false (o && k && d)

    -- where the sender is not of the set, leaving the sender out leaves out nobody of the set
    listening-others : (i : ℕ) (p : Keys) → In i ≡ false → listening (view s) (λ j. true) p ≡ listening s (λ j. not (eqb j i)) p
    listening-others i p h = listening-seen s (λ j. not (eqb j i)) (λ j. true) p (λ j e. by_cases (eqb j i)
        (λ k. never (sym e ∙ (ap In (eqb-true j i k) ∙ h)))
        (λ k. rw k))

    others-push : {q : Option Request} {i : ℕ} {a : LoginState} {f : Field} → Stored s q i a f → In i ≡ false →
        Step s (if seen In s.tables f.path then others f.path f.value ∷ [] else []) (deliveries_of (notified_of In s (done (stores i a f))) (Some f)) (apply (stores i a f) s)
    unfolding deliveries_of notified_of notified
    others-push {i = i} {f = f} d h =
        let k = kept-receivers s i f.path (few-at r) in
        by_cases (seen In s.tables f.path)
        (λ e. rw (e, k) (one-item s _ (others f.path f.value) _ (unfold gives in (rw (listening-others i f.path h))) (sym (view-others r d h e))))
        (λ e. rw (e, k) (no_items s _ _ (rw (listening-hidden (λ j. not (eqb j i)) f.path e)) (sym (view-hidden r d h e))))

    others-done : (q : Option Request) (c : Change) → Decided s q c → in_set In (owner_of s q) ≡ false →
        Step s (others_push In s (answer_of c) (field_in q)) (deliveries_of (notified_of In s (done c)) (field_in q)) (apply c s)
    unfolding in_set others_push
    others-done q (sets_login i a) d h = rw d.quiet (unfold deliveries_of in (no_items s _ [] refl (sym (hidden-sets-login s i a (rw d.owned at h)))))
    others-done q (shows t) d h = rw d.quiet (unfold deliveries_of in (no_items s _ [] refl (unfold apply in refl)))
    others-done q (stores i a f) d h = rw d.pushed (unfold answer_of is_accepted in (others-push d (rw d.owned at h)))

    others-act : (a : Act) → in_set In (owner_in (event_in s a)) ≡ false →
        Step s (others_push In s (outcome s a).answer (push_in (event_in s a))) (got_in In (event_in s a)) (outcome s a).state
    unfolding got_in got_of owner_in push_in
    others-act a h =
        let o = owner_in (event_in s a) in
        let p = push_in (event_in s a) in
        by-decision (λ x. Step s (others_push In s x.answer p) (got_of In o p x) x.state) s a
        (λ e. rw (got-out _ _ (refused e) o p h) (unfold conclude unchanged notified_of in (rw (refused-no-item e p, deliveries-none p) (no_items s s [] refl refl))))
        (λ c d. rw (got-out _ _ (done c) o p h) (unfold conclude in (others-done (request_of_act a) c d h)))

    act-step : (a : Act) → Step s (items In (event_in s a)) (got_in In (event_in s a)) (outcome s a).state
    unfolding items
    act-step a = by_cases (in_set In (owner_in (event_in s a))) (λ h. rw h (own-act a h)) (λ h. rw h (others-act a h))

  -- ── One run ──
  pub one-run : {loaded : ℕ} (s : State) (acts : List Act) → Running loaded s → got In (events s acts) ≡ replay (view s) (sequence In (events s acts))
  unfolding got sequence events joined
  one-run s [] r = unfold replay in refl
  one-run s (a ∷ acts) r =
      let k = act-step r a in
      let s₁ : State = (outcome s a).state in
      sym (replay-append (view s) (items In (event_in s a)) _
      ∙ ap₂ ◌++◌ k.gets-is (ap (λ (v : State). replay v (sequence In (events s₁ acts))) k.next-is ∙ sym (one-run s₁ acts (run-act s a r))))
