-- The login states in memory: the one at an index, one written, what a login is decided to be, and whether a number is an open session's.
use Rattle.std.specs.Prelude.{if◌then◌else◌}
use Prim.Native.Nat.{ℕ, suc, ◌+◌, ◌*◌, ◌≤◌, ◌<◌}
use mathlib.Core.Path.{◌≡◌, refl, sym, ap, ap₂, ◌∙◌}
use mathlib.Core.Bool.{Bool, true, false, not, ◌&&◌}
use Rattle.std.specs.Prelude.{Option, None, Some}
use mathlib.Core.List.{List, [], ◌∷◌, append_assoc}
use native.Mathlib.Nat.{add-zero}
use native.Mathlib.Numerals.{add-one, add-two}
use native.Mathlib.Omega.{arith}
use borrow.Author.Tests.{eq-eqb, ne_eqb, le-leb, lt-leb}
use mir.Val.{bool_byte}
use lib.Dec.{eqb, leb}
use lib.ListN.{length, get_or, take, drop, set}
use Rattle.std.specs.Prelude.{slice_get}
use lib.Seq.{sets, sets-eq, drop-drop}
use Rattle.rows.specs.Rows.{rows, replaced, written}
use Rattle.rows.proofs.Rows.{length-rows, row-at, rows-set, map-set, get_d_map}
use Rattle.rows.proofs.Parts.{part_at, part-part}
use Rattle.model.specs.Base.{Bytes, first_from, ◌≐◌}
use Rattle.model.specs.Limits.{max_users, max_logins}
use Rattle.model.specs.Refusals.{refused, done, ◌>>=◌, ◌>>◌, refuse◌if◌, ◌or◌}
use Rattle.model.specs.Tables.{User, user_at, user_named}
use Rattle.model.specs.Opening.{LoginState, empty_login}
use Rattle.model.specs.Serving.{sets_login, login_at, decide_login, index_in, count_in}
use Rattle.model.proofs.Lists.{by_cases, elem_below}
use Rattle.model.proofs.Sessions.{parts-session}
use Rattle.layout.specs.Layout.{in_use, name_row, name_in}
use Rattle.std.specs.Option.{option_map}
use Rattle.tables.specs.Memory.{user_row, key_at, user_in, users_in}
use Rattle.layout.proofs.Used.{length-table, counted-fit}
use Rattle.tables.proofs.Users.{user-none, user-some}
use Rattle.sessions.specs.declared.LoginState as code
use Rattle.sessions.specs.declared.NumberParts.{NumberParts}
use Rattle.sessions.specs.Logins.{login_row, login_numbers, login_in, logins_in, state_of, numbers_of, with_login, StateStored, with_session, entered, login_decided, parts_in, session_is, has_session}

-- ── A login state in its three numbers ──
-- a flag is stored as 1 or 0
flag : (b : Bool) → not (eqb (bool_byte b) 0) ≡ b
flag true = refl
flag false = refl

flag-byte : (b : Bool) → bool_byte b ≡ (if b then 1 else 0)
flag-byte true = refl
flag-byte false = refl

module _ (s : List ℕ) (i : ℕ) (below : i < max_users) where
  -- three numbers read
  pub state-read : get_or (logins_in s) i empty_login
      ≡ record { logins = get_or s (i * login_row) 0; is_open = not (eqb (get_or s (i * login_row + 1) 0) 0); created = get_or s (i * login_row + 2) 0 }
  unfolding logins_in login_in
  state-read =
      let l : i < length (rows login_row max_users s) = rw length-rows below in
      let at = part_at (i * login_row) login_row s 0 in
      get_d_map login_in i (rows login_row max_users s) empty_login [] l
      ∙ rw (row-at login_row i max_users s [] below, at 0 (omega arith), at 1 (omega arith), at 2 (omega arith), add-zero)

  -- three numbers stored
  module _ (a : ℕ) (b : Bool) (c : ℕ) where
    abbrev put : List ℕ
    put = set (set (set s (i * login_row) a) (i * login_row + 1) (bool_byte b)) (i * login_row + 2) c

    numbers-put : put ≡ with_login i (record { logins = a; is_open = b; created = c }) s
    unfolding with_login numbers_of written
    numbers-put = rw (flag-byte b, add-one (i * login_row), add-two (i * login_row))

    states-put : length s ≡ login_numbers → logins_in put ≡ set (logins_in s) i (record { logins = a; is_open = b; created = c })
    unfolding logins_in login_in
    states-put long =
        let row = a ∷ bool_byte b ∷ c ∷ [] in
        let e : sets s (i * login_row) row ≡ replaced (i * login_row) login_row row s = sets-eq row s (i * login_row) (omega arith) ∙ rw (append_assoc, drop-drop) in
        rw (add-one (i * login_row), add-two (i * login_row), e, rows-set login_row i max_users row s refl below (omega arith), map-set, flag b)

    pub state-put : length s ≡ login_numbers → StateStored s i (record { logins = a; is_open = b; created = c }) put
    state-put long = record { numbers = numbers-put; states = states-put long }

-- ── A session opened or closed ──
-- the code's login state with n logins, and a session or none
abbrev pub changed : code.LoginState → ℕ → Bool → code.LoginState
changed h n t = record { logins = n; is_open = t; created = h.created }

-- the meaning of a login state determines it
pub changed-from : (h w : code.LoginState) (n : ℕ) (t : Bool) → state_of w ≡ with_session (state_of h) n t → w ≡ changed h n t
unfolding state_of with_session
changed-from h w n t e = ap back e
  where
    back : LoginState → code.LoginState
    back a = record { logins = a.logins; is_open = a.is_open; created = a.created }

-- ── The user that a search finds ──
-- what is found stands at its index
found_at : {A : Type 0} (p : A → Bool) (xs : List A) (k : ℕ) (t : ℕ × A) → first_from k p xs ≡ Some t
    → (j : ℕ) × (t.0 ≡ k + j) × (slice_get xs j ≡ Some t.1)
unfolding first_from
found_at p [] k t e = let z : ◌≡◌ {A = ℕ} 0 1 = cc in absurd (omega arith)
found_at {A} p (x ∷ xs) k t e =
    by_cases (p x)
    (λ h. let q : ◌≡◌ {A = ℕ × A} (k, x) t = let r = rw h at e in cc in
    (0, rw (← q, add-zero), rw (← q)))
    (λ h. let (j, is, at) = found_at p xs (suc k) t (rw h at e) in (suc j, omega arith, at))

-- a user of the name n was found at i
module _ (s n : Bytes) {o : Option ℕ} {i : ℕ} (at : o ≡ Some i) (found : o ≡ option_map (λ (t : ℕ × User). t.0) (user_named n (users_in s))) where
  -- it is the index of a user in the table
  found-elem : (u : User) × (user_named n (users_in s) ≡ Some (i, u)) × (slice_get (users_in s) i ≡ Some u)
  unfolding user_named
  found-elem = go (user_named n (users_in s)) refl (sym at ∙ found)
    where
      go : (o : Option (ℕ × User)) → user_named n (users_in s) ≡ o → Some i ≡ option_map (λ (t : ℕ × User). t.0) o
          → (u : User) × (user_named n (users_in s) ≡ Some (i, u)) × (slice_get (users_in s) i ≡ Some u)
      go None e f = absurd (cc)
      go (Some t) e f =
          let q : t.0 ≡ i = cc in
          let (j, is, el) = found_at _ (users_in s) 0 t e in
          let p : j ≡ i = omega arith in
          (t.1, e ∙ rw (← q), ap (λ (m : ℕ). slice_get (users_in s) m) (sym p) ∙ el)

  -- the index is that of a user's row
  found-counted : i < length (in_use user_row max_users s)
  unfolding users_in
  found-counted =
      let (u, e, el) = found-elem in
      omega (arith, elem_below (users_in s) i u el, length-table user_in user_row max_users s)

  pub found_below : i < max_users
  found_below = omega (arith, found-counted, counted-fit user_row max_users s refl)

  -- the row at the index is that user's
  found-row : user_named n (users_in s) ≡ Some (i, user_in (take user_row (drop (i * user_row) s)))
  unfolding user_at
  found-row =
      let (u, e, el) = found-elem in
      let row = user_in (take user_row (drop (i * user_row) s)) in
      let at : slice_get (users_in s) i ≡ Some row = user-some s refl i found-counted refl in
      let q : u ≡ row = cc in
      e ∙ rw q

  -- ── A login of that user, whose key was compared with k ──
  module _ (ls : List LoginState) (k : Bytes) {key : Bytes} {r : Bool} (is : key ≡ name_in (take name_row (drop (i * user_row + key_at) s))) (same : r ≡ (key ≐ k)) where
    -- the comparison stands for the key's
    login-is : login_decided (users_in s) ls n k
        ≡ ((refuse 12 if not r) >> ((refuse 13 if (get_or ls i empty_login).is_open)
        >> ((refuse 18 if leb max_logins (get_or ls i empty_login).logins) >> done (sets_login i (entered (get_or ls i empty_login))))))
    unfolding login_decided decide_login login_at entered user_in ◌>>=◌ ◌or◌ ◌>>◌ refuse◌if◌
    login-is = rw (found-row, part-part (i * user_row) user_row s key_at name_row (omega arith), ← is, ← same)

    -- the key is another; the user's login state is a, with a session or without
    pub wrong-key : r ≡ false → login_decided (users_in s) ls n k ≡ refused 12
    unfolding ◌>>◌ refuse◌if◌
    wrong-key h = login-is ∙ rw h

    module _ (right : r ≡ true) {a : LoginState} (state : a ≡ get_or ls i empty_login) where
      pub has-session : a.is_open ≡ true → login_decided (users_in s) ls n k ≡ refused 13
      unfolding ◌>>◌ refuse◌if◌
      has-session h = login-is ∙ rw (right, ← state, h)

      pub logins-ended : a.is_open ≡ false → max_logins ≤ a.logins → login_decided (users_in s) ls n k ≡ refused 18
      unfolding ◌>>◌ refuse◌if◌
      logins-ended h l = login-is ∙ rw (right, ← state, h, le-leb _ _ l)

      pub login-enters : a.is_open ≡ false → a.logins < max_logins → {b : LoginState} → b ≡ entered a → login_decided (users_in s) ls n k ≡ done (sets_login i b)
      unfolding entered ◌>>◌ refuse◌if◌
      login-enters h l e = login-is ∙ rw (right, ← state, h, lt-leb _ _ l, e)

-- nobody has the name
pub login-unknown : (s n : Bytes) {o : Option ℕ} → o ≡ None → o ≡ option_map (λ (t : ℕ × User). t.0) (user_named n (users_in s)) → (ls : List LoginState) (k : Bytes)
    → login_decided (users_in s) ls n k ≡ refused 12
unfolding login_decided decide_login ◌>>=◌ ◌or◌
login-unknown s n at found ls k = go (user_named n (users_in s)) refl (sym at ∙ found)
  where
    go : (o : Option (ℕ × User)) → user_named n (users_in s) ≡ o → None ≡ option_map (λ (t : ℕ × User). t.0) o → login_decided (users_in s) ls n k ≡ refused 12
    go None e f = rw e
    go (Some t) e f = cc

-- ── A session's number ──
-- the bits in which the logins stand: 2 to their power is per_user
abbrev pub login_bits : ℕ
login_bits = 16

-- n is taken apart into p, and m users were counted
module _ (s : Bytes) (ls : List LoginState) (n : ℕ) {p : NumberParts} (split : p ≡ parts_in n) {m : ℕ} (counted : m ≡ length (in_use user_row max_users s)) where
  index_is : p.index ≡ index_in n
  index_is = ap (λ (q : NumberParts). q.index) split

  count-is : p.logins ≡ count_in n
  count-is = ap (λ (q : NumberParts). q.logins) split

  -- its index is nobody's
  pub session-none : m ≤ p.index → has_session (users_in s) ls n ≡ false
  unfolding has_session session_is
  session-none h = rw (user-none s counted (index_in n) (omega (arith, index_is)))

  -- or a user's, whose login state is a: no session is open, one at another count than the number's, or the one of the number
  module _ (below : p.index < m) where
    pub session-below : p.index < max_users
    session-below = omega (arith, counted-fit user_row max_users s counted)

    module _ {a : LoginState} (state : a ≡ get_or ls p.index empty_login) where
      session-is : has_session (users_in s) ls n ≡ (a.is_open && eqb a.logins p.logins)
      unfolding has_session session_is
      session-is =
          let own = get_or ls (index_in n) empty_login in
          let same : own ≡ a = sym (state ∙ ap (λ (j : ℕ). get_or ls j empty_login) index_is) in
          rw (user-some s counted (index_in n) (omega (arith, index_is)) refl)
          (parts-session own n ∙ ap₂ (λ (b : LoginState) (c : ℕ). b.is_open && eqb b.logins c) same (sym count-is))

      pub session-closed : a.is_open ≡ false → has_session (users_in s) ls n ≡ false
      session-closed h = session-is ∙ rw h

      module _ (is-open : a.is_open ≡ true) where
        pub session-other : (a.logins ≡ p.logins → ⊥) → has_session (users_in s) ls n ≡ false
        session-other f = session-is ∙ rw (is-open, ne_eqb a.logins p.logins f)

        pub session-open : a.logins ≡ p.logins → has_session (users_in s) ls n ≡ true
        session-open e = session-is ∙ rw (is-open, eq-eqb a.logins p.logins e)
