-- What the fields of every state of a run have: they are valid, none is the beginning of another, and none conflicts with a WRITE line.
use Prim.Native.Nat.{Ordering}
use Prim.Native.Nat.{ℕ, ◌≤◌}
use mathlib.Core.Path.{◌≡◌, refl, sym, ap, ap₂, subst, ◌∙◌}
use Rattle.std.specs.Prelude.{Option, None, Some}
use mathlib.Core.List.{List, [], ◌∷◌}
use mathlib.Core.Bool.{Bool, true, false, not, ◌&&◌}
use lib.ListN.{length, replicate, length-replicate}
use native.Mathlib.Omega.{arith}
use borrow.Author.Tests.{not-false}
use Rattle.model.specs.Base.{Bytes, any, among, is_some, ◌≐◌, All}
use Rattle.model.specs.Limits.{max_users, max_logins}
use Rattle.model.specs.Fields.{Keys, Field, Fields, order_path, value_at, holds, put}
use Rattle.model.specs.RecordText.{count}
use Rattle.model.specs.Paths.{names, as_steps}
use Rattle.model.specs.Refusals.{done}
use Rattle.model.specs.Tables.{User, Rule, Tables}
use Rattle.model.specs.Rights.{matches, is_write, is_for, may_write, overlap, is_above, conflict, conflicts_with}
use Rattle.model.specs.Opening.{LoginState, State, empty_login, empty_logins, Texts, opened}
use Rattle.model.specs.Requests.{Ask, Request, in_session, get, logout, read_login, read_ask, read_get, read_push, read_logout, readers, first_of, request_of, push_of}
use Rattle.model.specs.Serving.{login_at, Change, sets_login, shows, stores, apply, Act, line, save, outcome}
use Rattle.model.specs.Runs.{request_of_act, event_in, push_in}
use Rattle.model.proofs.Lists.{by_cases, never, none-some, and_both, or-neither, bytes_eq, bytes-refl, all-imp, all_get_d, all_replicate, any-true, any_false}
use Rattle.model.proofs.Order.{Sorted, by_three, lt-eq, eq-gt, path-orders, put_same, put-more, all-put, value-less, value_same, value-more, behind-trans}
use Rattle.model.proofs.Valid.{Valid}
use Rattle.model.proofs.Diverge.{diverge, DivergesFrom, Diverging, diverging-put}
use Rattle.model.proofs.Reading.{some_same, bind-some, check-some, either-some}
use Rattle.model.proofs.Spelling.{keys-valid, value-valid, value-of-valid}
use Rattle.model.proofs.Conflict.{conflict-matched, conflict-flip}
use Rattle.model.proofs.TablesRead.{ValidTables, Apart, writes_apart, tables-valid, opened-inv, record-inv}
use Rattle.model.proofs.TreeValid.{stored-sorted, stored-diverging, stored-count, tree-valid}
use Rattle.model.proofs.Decisions.{Stored, DecidedBy}
use Rattle.model.proofs.Invariant.{Running, store-is-put, within-empty, total-empty, next-state, run-act}

-- ── What a pushed field is ──
-- what a line asks to store is valid: by each word's reader
module _ (x : Bytes) (q : Request) (f : Field) (pushed : push_of q ≡ Some f) where
  from-login : read_login x ≡ Some q → Valid f
  unfolding read_login push_of
  from-login h =
      bind-some _ _ _ h λ r e₁ h₁.
      bind-some _ _ _ h₁ λ t e₂ h₂.
      check-some _ _ _ h₂ λ c h₃.
      none-some (rw (← some_same h₃) at pushed)

  from-ask : (word : Bytes) (a : Ask) → ((n : ℕ) → push_of (in_session n a) ≡ None) → read_ask word a x ≡ Some q → Valid f
  unfolding read_ask
  from-ask word a quiet h =
      bind-some _ _ _ h λ r e₁ h₁.
      bind-some _ _ _ h₁ λ n e₂ h₂.
      none-some (sym (quiet n) ∙ rw (← some_same h₂) at pushed)

  from-get : read_get x ≡ Some q → Valid f
  unfolding read_get push_of
  from-get h = from-ask _ get (λ n. refl) h

  from-push : read_push x ≡ Some q → Valid f
  unfolding read_push push_of
  from-push h =
      bind-some _ _ _ h λ r e₁ h₁.
      bind-some _ _ _ h₁ λ t e₂ h₂.
      bind-some _ _ _ h₂ λ w e₃ h₃.
      bind-some _ _ _ h₃ λ n e₄ h₄.
      bind-some _ _ _ h₄ λ p e₅ h₅.
      bind-some _ _ _ h₅ λ v e₆ h₆.
      rw (← some_same (rw (← some_same h₆) at pushed)) (record { path = keys-valid _ p e₅; value = value-of-valid _ v e₆ })

  from-logout : read_logout x ≡ Some q → Valid f
  unfolding read_logout push_of
  from-logout h = from-ask _ logout (λ n. refl) h

  -- what the first of some readers reads, one of them reads
  by-reader : {C : Type 0} (rs : List (Bytes → Option Request)) → All (λ read. read x ≡ Some q → C) rs → first_of rs x ≡ Some q → C
  unfolding first_of
  by-reader [] each h = none-some h
  by-reader (r ∷ rs) each h = either-some (r x) (first_of rs x) q h (by-reader rs each.1) each.0

  pub push-valid : request_of x ≡ Some q → Valid f
  unfolding request_of readers
  push-valid h = check-some _ _ _ h λ c k. by-reader readers (from-login, (from-get, (from-push, (from-logout, tt)))) k

pub act-valid : (s : State) (a : Act) (f : Field) → push_in (event_in s a) ≡ Some f → Valid f
unfolding push_in request_of_act
act-valid s (line t b l) f h = bind-some _ _ _ h λ q e k. push-valid t q f k e
act-valid s (save b) f h = bind-some _ _ _ h λ q e k. none-some e

-- ── A path that is not held is no field's ──
absent-all : (p : Keys) (gs : Fields) → Sorted gs → holds p gs ≡ false → All (λ g. p ≡ g.path → ⊥) gs
absent-all p [] s h = tt
absent-all p (g ∷ gs) s h = by_three (order_path p g.path)
    (λ e. (λ k. differ p g.path e k, all-imp _ _ (λ f b k. differ p f.path b k) gs (behind-trans _ _ gs e s.0)))
    (λ e. never (unfold holds is_some in (rw (value_same p g gs e) at h)))
    (λ e. (λ k. same_after p g.path e k, absent-all p gs s.1 (unfold holds in (rw (value-more p g gs e) at h))))
  where
    differ : (p q : Keys) → order_path p q ≡ Ordering.lt → p ≡ q → ⊥
    differ p q e k = lt-eq (sym e ∙ ap (order_path p) (sym k) ∙ path-orders.self p)

    same_after : (p q : Keys) → order_path p q ≡ Ordering.gt → p ≡ q → ⊥
    same_after p q e k = eq-gt (sym (ap (order_path p) (sym k) ∙ path-orders.self p) ∙ e)

-- a path that is held may be put again: what holds of the paths still does
all_held : (P : Keys → Type 0) (f : Field) (gs : Fields) → holds f.path gs ≡ true → All (λ g. P g.path) gs → All (λ g. P g.path) (put f gs)
all_held P f [] h a = never (unfold holds is_some value_at in sym h)
all_held P f (g ∷ gs) h a = by_three (order_path f.path g.path)
    (λ e. never (sym (unfold holds is_some in (rw (value-less f.path g gs e) at h))))
    (λ e. rw (put_same f g gs e) (subst P (sym (path-orders.same _ _ e)) a.0, a.1))
    (λ e. rw (put-more f g gs e) (a.0, all_held P f gs (unfold holds in (rw (value-more f.path g gs e) at h)) a.1))

diverging-held : (f : Field) (gs : Fields) → holds f.path gs ≡ true → Diverging gs → Diverging (put f gs)
diverging-held f [] h d = never (unfold holds is_some value_at in sym h)
diverging-held f (g ∷ gs) h d = by_three (order_path f.path g.path)
    (λ e. never (sym (unfold holds is_some in (rw (value-less f.path g gs e) at h))))
    (λ e. rw (put_same f g gs e) (subst (λ (p : Keys). DivergesFrom p gs) (sym (path-orders.same _ _ e)) d.0, d.1))
    (λ e. let k : holds f.path gs ≡ true = unfold holds in (rw (value-more f.path g gs e) at h) in
    rw (put-more f g gs e) (all_held (λ q. diverge g.path q ≡ true) f gs k d.0, diverging-held f gs k d.1))

-- ── Two paths are the same, diverge, or conflict ──
key-overlap : (k l : Bytes) → (k ≐ l) ≡ true → overlap (names (k ∷ [])) (names (l ∷ [])) ≡ true
unfolding overlap any among
key-overlap k l e = rw e

above-key : (k l : Bytes) (p q : Keys) → (k ≐ l) ≡ true → is_above (as_steps (k ∷ p)) (as_steps (l ∷ q)) ≡ is_above (as_steps p) (as_steps q)
unfolding is_above as_steps
above-key k l p q e = rw (key-overlap k l e)

same-or-conflict : (p q : Keys) → diverge p q ≡ false → (p ≡ q → ⊥) → conflict (as_steps p) (as_steps q) ≡ true
unfolding conflict
same-or-conflict [] [] h n = absurd (n refl)
same-or-conflict [] (l ∷ q) h n = unfold is_above as_steps in refl
same-or-conflict (k ∷ p) [] h n = unfold is_above as_steps in refl
same-or-conflict (k ∷ p) (l ∷ q) h n =
    let w = or-neither (not (k ≐ l)) (diverge p q) (unfold diverge in h) in
    let e : (k ≐ l) ≡ true = not-false _ w.0 in
    let z : k ≡ l = bytes_eq k l e in
    rw (above-key k l p q e, above-key l k q p (rw z (bytes-refl l))) (same-or-conflict p q w.1 (λ x. n (ap₂ ◌∷◌ z x)))

-- ── The invariant ──
-- no WRITE line conflicts with the path
abbrev pub Clear : Tables → Keys → Type 0
Clear t p = any (conflicts_with (as_steps p)) t.policy ≡ false

pub record Sound (s : State) : Type 0 where
  pub tables : ValidTables s.tables
  pub valid : All Valid s.fields
  pub clear : All (λ f. Clear s.tables f.path) s.fields
  pub apart : Diverging s.fields

and-three : (a b c : Bool) → (a && b && c) ≡ true → (b ≡ true) × (c ≡ true)
and-three a b c h = let w = and_both (a && b) c h in ((and_both a b w.0).1, w.1)

-- what a user may write is clear, and diverges from every clear path but itself
module _ (t : Tables) (valid : ValidTables t) (u : User) (p : Keys) (writes : may_write t.policy u p ≡ true) where
  -- a WRITE line that matches the path, with what holds of every line
  record WriteLine (P : Rule → Type 0) : Type 0 where
    rule : Rule
    is_writing : is_write rule ≡ true
    is_matching : matches u.environment rule.path p ≡ true
    has : P rule

  write-line : (P : Rule → Type 0) → All P t.policy → WriteLine P
  unfolding may_write
  write-line P h =
      let (r, e, k) = any-true P _ t.policy h writes in
      let w = and-three (is_for u r) (is_write r) (matches u.environment r.path p) e in
      record { rule = r; is_writing = w.0; is_matching = w.1; has = k }

  pub written-clear : Clear t p
  written-clear = by_cases (any (conflicts_with (as_steps p)) t.policy) (λ e. absurd (meets e)) (λ e. e)
    where
      meets : any (conflicts_with (as_steps p)) t.policy ≡ true → ⊥
      meets e =
          let l = write-line (λ r. All (Apart r) t.policy) (writes_apart t valid) in
          let (r, c, apart) = any-true (Apart l.rule) _ t.policy l.has e in
          let w = and_both (is_write r) (conflict (as_steps p) r.path) (unfold conflicts_with in c) in
          never (sym (conflict-matched u.environment l.rule.path r.path p l.is_matching w.1) ∙ apart l.is_writing w.0)

  writing-apart : (q : Keys) (r : Rule) → is_write r ≡ true → conflicts_with (as_steps q) r ≡ false → conflict (as_steps q) r.path ≡ false
  unfolding conflicts_with
  writing-apart q r w h = rw w at h

  pub written-diverges : (q : Keys) → Clear t q → (p ≡ q → ⊥) → diverge p q ≡ true
  written-diverges q clear n = by_cases (diverge p q) (λ e. e) (λ e. absurd (meets e))
    where
      meets : diverge p q ≡ false → ⊥
      meets e =
          let l = write-line (λ r. conflicts_with (as_steps q) r ≡ false) (any_false _ t.policy clear) in
          let c = conflict-matched u.environment l.rule.path (as_steps q) p l.is_matching (same-or-conflict p q e n) in
          never (sym c ∙ conflict-flip l.rule.path (as_steps q) ∙ writing-apart q l.rule l.is_writing l.has)

-- ── Each act keeps it ──
module _ {loaded : ℕ} {s : State} (r : Running loaded s) (o : Sound s) where
  module _ {q : Option Request} {i : ℕ} {a : LoginState} {f : Field} (d : Stored s q i a f) (v : Valid f) where
    diverges : holds f.path s.fields ≡ false → DivergesFrom f.path s.fields
    diverges h = both s.fields o.clear (absent-all f.path s.fields r.sorted h)
      where
        both : (gs : Fields) → All (λ g. Clear s.tables g.path) gs → All (λ g. f.path ≡ g.path → ⊥) gs → DivergesFrom f.path gs
        both [] c n = tt
        both (g ∷ gs) c n = (written-diverges s.tables o.tables d.user f.path d.writes g.path c.0 n.0, both gs c.1 n.1)

    apart-stores : Diverging (put f s.fields)
    apart-stores = by_cases (holds f.path s.fields)
        (λ h. diverging-held f s.fields h o.apart)
        (λ h. diverging-put f s.fields (diverges h) o.apart)

    sound-stores : Sound (apply (stores i a f) s)
    unfolding apply
    sound-stores = rw (store-is-put r d) (record {
      tables = o.tables;
      valid = all-put _ f s.fields v o.valid;
      clear = all-put _ f s.fields (written-clear s.tables o.tables d.user f.path d.writes) o.clear;
      apart = apart-stores;
    })

  sound-act : (a : Act) (c : Change) → DecidedBy s a c → Sound (apply c s)
  unfolding apply push_in
  sound-act x (sets_login i a) d = record { tables = o.tables; valid = o.valid; clear = o.clear; apart = o.apart }
  sound-act x (shows c) d = o
  sound-act x (stores i a f) d = sound-stores d (act-valid s x f d.pushed)

-- a state of a run
pub record Ran (loaded : ℕ) (s : State) : Type 0 where
  pub running : Running loaded s
  pub sound : Sound s

pub ran-act : {loaded : ℕ} (s : State) (a : Act) → Ran loaded s → Ran loaded (outcome s a).state
ran-act s a r = record {
  running = run-act s a r.running;
  sound = next-state Sound s a r.sound (sound-act r.running r.sound a);
}

-- ── An accepted opening starts with it ──
no-logins : empty_login.logins ≡ 0
unfolding empty_login
no-logins = refl

no-session : (s : State) → s.login_states ≡ replicate max_users empty_login → (j : ℕ) → (login_at s j).is_open ≡ false
unfolding login_at empty_login
no-session s e j = rw e (all_get_d Shut (replicate max_users empty_login) j empty_login refl (all_replicate Shut max_users empty_login refl))
  where
    Shut : LoginState → Type 0
    Shut a = a.is_open ≡ false

pub ran-opened : (t : Texts) (s : State) → opened t ≡ done s → Ran (length s.fields) s
ran-opened t s h =
    let o = opened-inv t s h in
    let f = record-inv s.tables t.record_text s.fields o.fields in
    let v = tables-valid t s.tables o.tables in
    let all : length s.fields ≡ count f.tree = ap length (sym f.stored) ∙ stored-count f.tree f.once (omega (arith, f.fits)) in
    let empty : s.login_states ≡ replicate max_users empty_login = o.logins ∙ (unfold empty_logins in refl) in
    record {
      running = record {
        sorted = rw f.stored at (stored-sorted [] f.tree [] tt);
        few = rw empty (all_replicate (λ a. a.logins ≤ max_logins) max_users empty_login (omega (arith, no-logins)));
        seated = λ j h. never (sym h ∙ no-session s empty j);
        places = rw empty (length-replicate max_users empty_login);
        users = v.users.few;
        within = rw empty (within-empty s.tables.users max_users);
        grown = rw empty (omega (arith, total-empty max_users));
        fits = omega (arith, f.fits);
      };
      sound = record {
        tables = v;
        valid = rw f.stored at (tree-valid value-valid t.record_text f.tree f.read);
        clear = f.apart;
        apart = rw f.stored at (stored-diverging f.tree f.once);
      };
    }
