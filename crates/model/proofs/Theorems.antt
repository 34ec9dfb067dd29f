-- The claims of specs/Claims, proved, in their order; some stand where their argument does (Changes, Spelling, Loads).
use Prim.Native.Nat.{ℕ, zero, suc, ◌+◌, ◌*◌, ◌≤◌}
use mathlib.Core.Path.{◌≡◌, refl, sym, ap, ap₂, ◌∙◌}
use Rattle.std.specs.Prelude.{Some}
use mathlib.Core.List.{List, [], ◌∷◌, map, map-map}
use mathlib.Core.Bool.{Bool, true, false, ◌||◌, and-false}
use lib.Dec.{ltb, eqb}
use lib.ListN.{length, get_or, replicate}
use native.Mathlib.Omega.{arith}
use native.Mathlib.Nat.{zero-add}
use borrow.Author.Tests.{eqb-true, eq-eqb, le-ltb}
use Rattle.model.specs.Base.{Bytes, any, keep, sum, range, ◌≐◌, All}
use Rattle.model.specs.Limits.{max_fields, max_users, max_text, max_copy, list_room, per_user}
use Rattle.model.specs.Fields.{Keys, Field, Fields, order_path, by_order, value_at, field_of}
use Rattle.model.specs.RecordText.{Members, tree_of, store_members}
use Rattle.model.specs.SavedText.{saved}
use Rattle.model.specs.Refusals.{Result, refused, done, ◌>>=◌}
use Rattle.model.specs.Table.{Line, lines}
use Rattle.model.specs.Tables.{User, Access, Rule, Tables, user_at}
use Rattle.model.specs.Rights.{may_read}
use Rattle.model.specs.Opening.{LoginState, State, empty_login, empty_logins, Texts, Fault, open_record, opened}
use Rattle.model.specs.Requests.{logout}
use Rattle.model.specs.Serving.{session_number, index_in, count_in, is_session, login_at, readable, copy_for, reads_by, reads_at, Change, sets_login, shows, stores, apply, Act}
use Rattle.model.specs.Runs.{Event, events, end, only, seen, seen_fields, is_open_number, gives, closes, is_open_after}
use Rattle.model.specs.Program.{line_bytes, print_run, serve_with, serve}
use Rattle.model.specs.Claims
use Rattle.model.specs.Claims.{Reached, spelled, SameTables, is_valid, is_sorted, begins, none_begins, with_record, SavedFor, LongEnough, TwoRuns}
use Rattle.model.proofs.Lists.{by_cases, never, both-and, none-some, true-all, all-every, all_get_d, all_replicate, all_keep, all-imp, all-range, any-range, false-any, elem_below, keep-agree, map-agree, length-keep-le}
use Rattle.model.proofs.Order.{path-orders, by_three, after-before, Before, Sorted, behind-trans, value-less, value_same, value-more, value-behind}
use Rattle.model.proofs.Valid.{Valid}
use Rattle.model.proofs.Reading.{some_same}
use Rattle.model.proofs.Spelling.{one-spelling, value-length}
use Rattle.model.proofs.Diverge.{diverge, diverge-flip, Diverging}
use Rattle.model.proofs.TablesRead.{ValidRule, ValidTables, opened-inv, opened_with, record-again, record-grown}
use Rattle.model.proofs.SavedTree.{SavedAs, saved-reads}
use Rattle.model.proofs.SavedLength.{saved-length, saved-length-some}
use Rattle.model.proofs.CopyLength.{saved_text, copy-length}
use Rattle.model.proofs.Decisions.{decided}
use Rattle.model.proofs.Invariant.{Within, total_created, within-at, few-at, few-fields, store-is-put, next-state, at-end}
use Rattle.model.proofs.Changes.{login-changes, logout-changes, push-changes}
use Rattle.model.proofs.Sessions.{parts-session, past-not-given, given-once, open-run, closed-past, shut-refuses, shut-not-told, last-open, lets-in, lets-out}
use Rattle.model.proofs.Growth.{fields-grow, created-grow, logins-grow, login-number}
use Rattle.model.proofs.TwoRuns.{view, same_view, replay, one-run}
use Rattle.model.proofs.Notified.{told-ascends}
use Rattle.model.proofs.Printing.{CopiesFit, line-alike, lines-alike}
use Rattle.model.proofs.Sound.{Ran, ran-act, ran-opened}

-- ── What runs have ──
ran-end : (t : Texts) (s : State) (acts : List Act) → opened t ≡ done s → Ran (length s.fields) (end s acts)
ran-end t s acts h = at-end (Ran (length s.fields)) ran-act s acts (ran-opened t s h)

-- every state that a run reaches
pub ran : (t : Texts) (s : State) (r : Reached t s) → Ran (length r.start.fields) s
ran t s r = rw r.is_end at (ran-end t r.start r.acts r.is_opened)

start-empty : (t : Texts) (s : State) → opened t ≡ done s → (i : ℕ) → login_at s i ≡ empty_login
unfolding login_at empty_logins
start-empty t s h i = rw (opened-inv t s h).logins (all_get_d Empty (replicate max_users empty_login) i empty_login refl (all_replicate Empty max_users empty_login refl))
  where
    Empty : LoginState → Type 0
    Empty a = a ≡ empty_login

same-tables-act : (s : State) (c : Change) → (apply c s).tables ≡ s.tables
unfolding apply
same-tables-act s (sets_login i a) = refl
same-tables-act s (shows c) = refl
same-tables-act s (stores i a f) = refl

same-tables-end : (s : State) (acts : List Act) → (end s acts).tables ≡ s.tables
same-tables-end s acts = at-end (λ x. x.tables ≡ s.tables) (λ x a h. next-state (λ y. y.tables ≡ s.tables) x a h (λ c d. same-tables-act x c ∙ h)) s acts refl

same-rule : (r q : Rule) → ValidRule r → ValidRule q → spelled r ≡ spelled q → r ≡ q
unfolding spelled
same-rule r q v w h =
    let e : r.role ≡ q.role = ap (λ (t : Bytes × Access × Bytes). t.0) h in
    let f : r.access ≡ q.access = ap (λ (t : Bytes × Access × Bytes). t.1) h in
    let g : r.path ≡ q.path = one-spelling v.read.0 w.read.0 r.path q.path v.read.1 w.read.1 (ap (λ (t : Bytes × Access × Bytes). t.2) h) in
    λ i. record { role = e i; access = f i; path = g i }

same-rules : (rs qs : List Rule) → All ValidRule rs → All ValidRule qs → map spelled rs ≡ map spelled qs → rs ≡ qs
same-rules [] [] v w h = refl
same-rules [] (q ∷ qs) v w h = let z : ◌≡◌ {A = ℕ} 0 1 = cc in absurd (omega arith)
same-rules (r ∷ rs) [] v w h = let z : ◌≡◌ {A = ℕ} 0 1 = cc in absurd (omega arith)
same-rules (r ∷ rs) (q ∷ qs) v w h =
    let e : spelled r ≡ spelled q = cc in
    let f : map spelled rs ≡ map spelled qs = cc in
    ap₂ ◌∷◌ (same-rule r q v.0 w.0 e) (same-rules rs qs v.1 w.1 f)

-- tables with the same values are the same
same_tables_lem : (t₁ t₂ : Tables) → ValidTables t₁ → ValidTables t₂ → SameTables t₁ t₂ → t₁ ≡ t₂
same_tables_lem t₁ t₂ v w h =
    let e = same-rules t₁.policy t₂.policy v.policy.each w.policy.each h.same_policy in
    λ i. record { users = h.same_users i; policy = e i }

-- ── Condition 1: nothing else changes ──
pub push-changes-one : Claims.PushChangesOne
push-changes-one t s r x b l n p v e h = push-changes (ran t s r).running x b l n p v e h

pub login-changes-one : Claims.LoginChangesOne
login-changes-one t s r a n h = login-changes (ran t s r).running a n h

pub logout-changes-one : Claims.LogoutChangesOne
logout-changes-one t s r x b l n e h = logout-changes (ran t s r).running x b l n e h

-- ── Condition 2: the fields held ──
pub fields-valid : Claims.FieldsValid
unfolding is_valid
fields-valid t s r = true-all _ s.fields (all-imp Valid _ (λ f v. both-and _ _ v.path v.value) s.fields (ran t s r).sound.valid)

sorted-is : (gs : Fields) → Sorted gs → is_sorted gs ≡ true
unfolding is_sorted by_order
sorted-is [] s = refl
sorted-is (f ∷ []) s = refl
sorted-is (f ∷ g ∷ gs) s = rw s.0.0 (sorted-is (g ∷ gs) s.1)

diverge-begins : (p q : Keys) → diverge p q ≡ true → begins p q ≡ false
unfolding diverge begins
diverge-begins [] q h = never (sym h)
diverge-begins (k ∷ p) [] h = refl
diverge-begins (k ∷ p) (l ∷ q) h = by_cases (k ≐ l) (λ e. rw e (diverge-begins p q (rw e at h))) (λ e. rw e)

neither : (p q : Keys) → diverge p q ≡ true → (begins p q || begins q p) ≡ false
neither p q e = rw (diverge-begins p q e, diverge-begins q p (diverge-flip q p ∙ e))

apart-is : (gs : Fields) → Diverging gs → none_begins gs ≡ true
unfolding none_begins
apart-is [] d = refl
apart-is (f ∷ gs) d = rw (false-any _ gs (all-imp (λ g. diverge f.path g.path ≡ true) _ (λ (g : Field) e. neither f.path g.path e) gs d.0), apart-is gs d.1)

pub fields-in-order : Claims.FieldsInOrder
fields-in-order t s r =
    let q = ran t s r in
    (sorted-is s.fields q.running.sorted, apart-is s.fields q.sound.apart, few-fields q.running)

pub nothing-falls-off : Claims.NothingFallsOff
nothing-falls-off t s r q room i a f h = store-is-put (ran t s r).running (decided s q room _ h)

-- ── Condition 2: saving and opening again ──
saved-tree : {loaded : ℕ} (s : State) → Ran loaded s → SavedAs s.fields
saved-tree s q = saved-reads s.fields q.running.sorted q.sound.valid q.sound.apart (few-fields q.running)

-- a saved record is within the limit of a text
saved-short : {loaded : ℕ} (s : State) → Ran loaded s → ltb max_text (length (saved s.fields)) ≡ false
saved-short s q = le-ltb max_text (length (saved s.fields)) (omega (arith, saved-length value-length s.fields q.sound.valid, few-fields q.running))

-- a saved record opened again: its tables and its tree are what they were, so that all that may refuse it is the count of its fields
module _ (t₂ : Texts) (s : State) (w : SavedFor t₂ s) where
  before : Ran (length w.reached.start.fields) s
  before = ran w.texts s w.reached

  again : opened (with_record (saved s.fields) t₂) ≡ (open_record s.tables (saved s.fields) >>= λ fs. done (record { tables = s.tables; login_states = empty_logins; fields = fs }))
  again =
      let e : w.start₂.tables ≡ s.tables = sym (same_tables_lem _ _ before.sound.tables (ran-opened t₂ w.start₂ w.opened₂).sound.tables w.same_tables) in
      rw e at (opened_with (saved s.fields) t₂ w.start₂ (opened-inv t₂ w.start₂ w.opened₂) (saved-short s before))

pub opens-again : Claims.OpensAgain
unfolding ◌>>=◌
opens-again t₂ s w room =
    let q = before t₂ s w in
    let m = saved-tree s q in
    again t₂ s w ∙ rw (record-again s.tables (saved s.fields) s.fields (record {
      tree = m.tree;
      read = m.read;
      once = m.once;
      fits = rw m.many room;
      stored = m.stored;
      apart = q.sound.clear;
    }))

pub grown-is-refused : Claims.GrownIsRefused
unfolding ◌>>=◌
grown-is-refused t₂ s w more =
    let m = saved-tree s (before t₂ s w) in
    again t₂ s w ∙ rw (record-grown s.tables (saved s.fields) m.tree m.read m.once (rw m.many more))

-- sorted fields are told by the values that they hold
same_head : (x y : Field) (xs ys : Fields) → ((p : Keys) → value_at p (x ∷ xs) ≡ value_at p (y ∷ ys)) → Before x.path y.path → ⊥
same_head x y xs ys h e = none-some (sym (value-less x.path y ys e) ∙ sym (h x.path) ∙ value_same x.path x xs (path-orders.self _))

same-fields : (xs ys : Fields) → Sorted xs → Sorted ys → ((p : Keys) → value_at p xs ≡ value_at p ys) → xs ≡ ys
same-fields [] [] s t h = refl
same-fields [] (y ∷ ys) s t h = none-some (sym (value-behind y.path [] tt) ∙ h y.path ∙ value_same y.path y ys (path-orders.self _))
same-fields (x ∷ xs) [] s t h = none-some (sym (value-behind x.path [] tt) ∙ sym (h x.path) ∙ value_same x.path x xs (path-orders.self _))
same-fields (x ∷ xs) (y ∷ ys) s t h = by_three (order_path x.path y.path)
    (λ e. absurd (same_head x y xs ys h e))
    (λ e.
    let p : x.path ≡ y.path = path-orders.same _ _ e in
    let v : x.value ≡ y.value = some_same (sym (value_same x.path x xs (path-orders.self _)) ∙ h x.path ∙ value_same x.path y ys e) in
    ap₂ ◌∷◌ (λ i. field_of (p i) (v i)) (same-fields xs ys s.1 t.1 (tails p)))
    (λ e. absurd (same_head y x ys xs (λ p. sym (h p)) (after-before _ _ e)))
  where
    tails : x.path ≡ y.path → (p : Keys) → value_at p xs ≡ value_at p ys
    tails e p = by_three (order_path p x.path)
        (λ k. value-behind p xs (behind-trans _ _ xs k s.0) ∙ sym (value-behind p ys (behind-trans _ _ ys (rw e at k) t.0)))
        (λ k. let q : p ≡ x.path = path-orders.same _ _ k in
        value-behind p xs (rw q s.0) ∙ sym (value-behind p ys (rw (q ∙ e) t.0)))
        (λ k. sym (value-more p x xs k) ∙ h p ∙ value-more p y ys (rw e at k))

pub one-saved-text : Claims.OneSavedText
one-saved-text t₁ t₂ s₁ s₂ r₁ r₂ h = ap saved (same-fields _ _ (ran t₁ s₁ r₁).running.sorted (ran t₂ s₂ r₂).running.sorted h)

pub one-record : Claims.OneRecord
one-record t₁ t₂ s₁ s₂ r₁ r₂ h =
    let m₁ = saved-tree s₁ (ran t₁ s₁ r₁) in
    let m₂ = saved-tree s₂ (ran t₂ s₂ r₂) in
    let e : m₁.tree ≡ m₂.tree = some_same (sym m₁.read ∙ ap tree_of h ∙ m₂.read) in
    sym m₁.stored ∙ ap (λ (m : Members). store_members [] m []) e ∙ m₂.stored

-- ── Condition 2: logins ──
pub counts-own-logins : Claims.CountsOwnLogins
unfolding empty_login
counts-own-logins t s acts h i = logins-grow i s acts (ran-opened t s h).running ∙ rw (start-empty t s h i) (zero-add _)

pub login-answers : Claims.LoginAnswers
login-answers t s acts h a n k =
    let w = login-number (ran-end t s acts h).running n a k in
    (index_in n, w.owned, w.number ∙ ap (λ (m : ℕ). per_user * index_in n + suc m) (counts-own-logins t s acts h (index_in n)))

pub logins-end : Claims.LoginsEnd
logins-end t s r i = few-at (ran t s r).running i

pub number-divides : Claims.NumberDivides
unfolding index_in count_in
number-divides t s acts h a n k =
    let w = login-number (ran-end t s acts h).running n a k in
    (w.owned, omega (arith, w.number, w.few) ∙ ap suc (counts-own-logins t s acts h (index_in n)))

-- ── Condition 2: sessions ──
-- no session is open at the start
start-shut : (t : Texts) (s : State) → opened t ≡ done s → (n : ℕ) → is_open_number s n ≡ false
unfolding is_open_number is_session empty_login
start-shut t s h n = rw (start-empty t s h (index_in n))

-- a number that was closed is not open
closed-shut : (es : List Event) (n : ℕ) → any (closes n) es ≡ true → is_open_after es n ≡ false
unfolding is_open_after
closed-shut es n k = rw k (and-false (any (gives n) es))

pub answered-once : Claims.AnsweredOnce
answered-once t s acts h n = given-once _ n s acts (ran-opened t s h).running

pub open-between : Claims.OpenBetween
unfolding is_open_after
open-between t s acts h n = open-run _ n s acts (ran-opened t s h).running ∙ rw (start-shut t s h n)

pub open-by-parts : Claims.OpenByParts
unfolding is_open_number
open-by-parts s n = parts-session (login_at s (index_in n)) n

pub logout-answers : Claims.LogoutAnswers
unfolding Claims.ground_without
logout-answers t s acts h x b l n is = rw (← open-between t s acts h n) (by_cases (is_open_number (end s acts) n)
    (λ e. rw e (lets-out (ran-end t s acts h).running n e x b l is))
    (λ e. rw e (shut-refuses (end s acts) n e x b l logout is)))

pub others-shut : Claims.OthersShut
others-shut t s acts h n k =
    let shut : is_open_number (end s acts) n ≡ false = open-between t s acts h n ∙ k in
    record { refuses = shut-refuses (end s acts) n shut; not_told = shut-not-told (ran-end t s acts h).running n shut }

pub stays_closed : Claims.StaysClosed
stays_closed t s acts h n k = (
  others-shut t s acts h n (closed-shut (events s acts) n k),
  past-not-given (ran-end t s acts h).running n (closed-past _ n s acts (ran-opened t s h).running k),
)

pub logs-in-again : Claims.LogsInAgain
unfolding index_in count_in session_number
logs-in-again t s acts h n k last name u named x b l is =
    let e = end s acts in
    let count : (login_at e (index_in n)).logins ≡ count_in n = counts-own-logins t s acts h (index_in n) ∙ sym last in
    let number : session_number (index_in n) (login_at e (index_in n)) ≡ n = omega (arith, count) in
    let shut : is_open_number e n ≡ false = open-between t s acts h n ∙ closed-shut (events s acts) n k in
    rw (number, count) at (lets-in e name (index_in n) u (rw (same-tables-end s acts) named) (last-open e n number shut) x b l is)

-- ── Condition 2: growth ──
pub grows-by-pushes : Claims.GrowsByPushes
grows-by-pushes t s acts h = fields-grow s acts (ran-opened t s h).running

pub grows-by-counts : Claims.GrowsByCounts
grows-by-counts t s acts h = (ran-end t s acts h).running.grown

pub counts-own-pushes : Claims.CountsOwnPushes
unfolding empty_login
counts-own-pushes t s acts h i = created-grow i s acts (ran-opened t s h).running ∙ rw (start-empty t s h i) (zero-add _)

-- the counts of the users, one by one, are all that was created
range-up : {A : Type 0} (f : ℕ → A) (i n : ℕ) → map f (range (suc i) n) ≡ map (λ j. f (suc j)) (range i n)
unfolding range
range-up f i zero = refl
range-up f i (suc n) = ap (f (suc i) ∷◌) (range-up f (suc i) n)

none-created : (l : List LoginState) → Within [] l → total_created l ≡ 0
unfolding sum
none-created [] w = refl
none-created (a ∷ l) w = omega (arith, w.0, none-created l w.1)

created-in : (us : List User) (l : List LoginState) → Within us l → length us ≤ length l →
    total_created l ≡ sum (map (λ i. (get_or l i empty_login).created) (range 0 (length us)))
unfolding sum range
created-in [] l w h = none-created l w
created-in (u ∷ us) [] w h = absurd (omega arith)
created-in (u ∷ us) (a ∷ l) w h =
    ap (λ (n : ℕ). a.created + n) (created-in us l w.1 (omega arith) ∙ ap sum (sym (range-up (λ i. (get_or (a ∷ l) i empty_login).created) 0 (length us))))

pub grows-by-users : Claims.GrowsByUsers
unfolding login_at
grows-by-users t s acts h =
    let e = end s acts in
    let r = (ran-end t s acts h).running in
    r.grown
    ∙ ap (λ (n : ℕ). length s.fields + n) (
    created-in e.tables.users e.login_states r.within (omega (arith, r.users, r.places))
    ∙ ap (λ (n : ℕ). sum (map (λ i. (get_or e.login_states i empty_login).created) (range 0 n))) (ap length (ap (λ (x : Tables). x.users) (same-tables-end s acts)))
    ∙ ap sum (map-agree _ _ (range 0 (length s.tables.users)) (all-every _ (λ i. counts-own-pushes t s acts h i) (range 0 (length s.tables.users)))))

pub within-quota : Claims.WithinQuota
unfolding user_at login_at
within-quota t s r i u e = within-at s.tables.users s.login_states i u e (ran t s r).running.within

-- ── Condition 2: lengths ──
readable-short : (rs : List Rule) (u : User) (gs : Fields) → All Valid gs → length gs ≤ max_fields → length (saved (readable rs u gs)) ≤ saved_text
unfolding readable
readable-short rs u gs v h = short (keep (λ f. may_read rs u f.path) gs) (all_keep _ _ gs v) (omega (arith, h, length-keep-le (λ (f : Field). may_read rs u f.path) gs))
  where
    short : (gs : Fields) → All Valid gs → length gs ≤ max_fields → length (saved gs) ≤ saved_text
    short [] v h = omega (arith, saved-length value-length [] v)
    short (g ∷ gs) v h = omega (arith, saved-length-some value-length g gs v)

copies-fit : {loaded : ℕ} (s : State) → Ran loaded s → CopiesFit s
unfolding copy_for
copies-fit s q i u e =
    copy-length s.tables i u (readable s.tables.policy u s.fields) q.sound.tables e (readable-short s.tables.policy u s.fields q.sound.valid (few-fields q.running))

pub copy-bound : Claims.CopyBound
copy-bound t s r i u e = copies-fit s (ran t s r) i u e

pub list-ascends : Claims.ListAscends
list-ascends t s r a = told-ascends (ran t s r).running a

-- ── Condition 2: what `serve` prints ──
pub line-prints-alike : Claims.LinePrintsAlike
line-prints-alike t s r x b l room places = line-alike s (copies-fit s (ran t s r)) x b l room places

pub prints-alike : Claims.PrintsAlike
prints-alike t s xs h = lines-alike (Ran (length s.fields)) ran-act copies-fit s xs (ran-opened t s h)

pub serves-alike : Claims.ServesAlike
unfolding serve serve_with print_run
serves-alike b l room places t input = go (opened t) refl
  where
    given : Line → LongEnough
    given x = record { content = line_bytes x; buffer = b; list = l; room_for_copy = room; room_for_list = places }

    go : (o : Result Fault State) → opened t ≡ o → print_run b l input o ≡ print_run (replicate max_copy 0) (replicate list_room 0) input o
    go (refused f) h = refl
    go (done s) h = rw (map-map, map-map) at (prints-alike t s (map given (lines input)) h)

-- ── Condition 3 ──
module _ (r : TwoRuns) where
  tables-equal : r.start₁.tables ≡ r.start₂.tables
  tables-equal = same_tables_lem _ _ (ran-opened _ _ r.opened₁).sound.tables (ran-opened _ _ r.opened₂).sound.tables r.same_tables

  views-equal : (set : ℕ → Bool) → seen_fields set r.start₁ ≡ seen_fields set r.start₂ → view set r.start₁ ≡ view set r.start₂
  views-equal set h = same_view set _ _ tables-equal ((opened-inv _ _ r.opened₁).logins ∙ sym (opened-inv _ _ r.opened₂).logins) h

pub set-cannot-tell : Claims.SetCannotTell
set-cannot-tell r set h k =
    one-run set r.start₁ r.acts₁ (ran-opened _ _ r.opened₁).running
    ∙ ap₂ (replay set) (views-equal r set h) k
    ∙ sym (one-run set r.start₂ r.acts₂ (ran-opened _ _ r.opened₂).running)

-- what the set of one user sees is what that user may read
seen-only : (t : Tables) (i : ℕ) (u : User) (p : Keys) → user_at t.users i ≡ Some u → seen (only i) t p ≡ may_read t.policy u p
unfolding seen only reads_at reads_by user_at
seen-only t i u p e = by_cases (may_read t.policy u p)
    (λ h. any-range _ 0 (length t.users) i (omega arith) (omega (arith, elem_below t.users i u e)) (rw (eq-eqb i i refl, e) h) ∙ sym h)
    (λ h. false-any _ _ (all-range _ 0 (length t.users) (λ j k l. by_cases (eqb j i)
    (λ x. rw (eqb-true j i x, e, h) (and-false (eqb i i)))
    (λ x. rw x)))
    ∙ sym h)

seen-readable : (s : State) (i : ℕ) (u : User) → user_at s.tables.users i ≡ Some u → seen_fields (only i) s ≡ readable s.tables.policy u s.fields
unfolding seen_fields readable
seen-readable s i u e = keep-agree _ _ s.fields (all-every _ (λ f. seen-only s.tables i u f.path e) s.fields)

pub user-cannot-tell : Claims.UserCannotTell
user-cannot-tell r i u e h k =
    let f : user_at r.start₂.tables.users i ≡ Some u = rw (tables-equal r) at e in
    set-cannot-tell r (only i) (seen-readable r.start₁ i u e ∙ h ∙ sym (seen-readable r.start₂ i u f)) k
