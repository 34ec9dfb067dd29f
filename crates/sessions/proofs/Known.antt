-- What a session's number says: no open session has it, or that of the user at an index; and what a request that carries it decides first.
use Prim.Native.Nat.{ℕ, ◌+◌, ◌*◌, ◌≤◌, ◌<◌}
use mathlib.Core.Path.{◌≡◌, refl, sym, ap, ◌∙◌}
use mathlib.Core.Bool.{Bool, true, false}
use Rattle.std.specs.Prelude.{Option, None, Some, if◌then◌else◌}
use mathlib.Core.List.{List}
use native.Mathlib.Omega.{arith}
use lib.ListN.{length, get_or, take, drop}
use Rattle.model.specs.Base.{Bytes}
use Rattle.model.specs.Limits.{max_users}
use Rattle.model.specs.Refusals.{refused, done, ◌>>=◌, ◌>>◌, refuse◌if◌, ◌or◌}
use Rattle.model.specs.Tables.{User, user_at}
use Rattle.model.specs.Opening.{LoginState, State, empty_login}
use Rattle.model.specs.Serving.{index_in, login_at, asker}
use Rattle.model.proofs.Lists.{never, elem_below}
use Rattle.layout.specs.Layout.{in_use}
use Rattle.tables.specs.Memory.{user_row, users_bytes, user_in, users_in}
use Rattle.layout.proofs.Used.{length-table, counted-fit}
use Rattle.tables.proofs.Users.{user-inside, user-some}
use Rattle.std.specs.Prelude as std
use Rattle.std.specs.Prelude.{Ok, Err, ok_or}
use Rattle.refusals.specs.declared.Refusal.{Refusal}
use Rattle.sessions.specs.Logins.{session_is, has_session}

-- 14, or the session's user
module _ (s : State) (n : ℕ) where
  pub no-session : has_session s.tables.users s.login_states n ≡ false → asker s n ≡ refused 14
  unfolding has_session session_is asker login_at ◌>>=◌ ◌>>◌ ◌or◌ refuse◌if◌
  no-session h = go (user_at s.tables.users (index_in n)) refl
    where
      go : (o : Option User) → user_at s.tables.users (index_in n) ≡ o → asker s n ≡ refused 14
      go None e = rw e
      go (Some u) e = rw (e, rw e at h)

  pub in-session : {u : User} → user_at s.tables.users (index_in n) ≡ Some u → has_session s.tables.users s.login_states n ≡ true
      → asker s n ≡ done (record { index = index_in n; user = u; login = get_or s.login_states (index_in n) empty_login })
  unfolding has_session session_is asker login_at ◌>>=◌ ◌>>◌ ◌or◌ refuse◌if◌
  in-session e h = rw (e, rw e at h)

-- what a `?` hands on where nothing was found and a refusal was made of it
pub none-handed : {A : Type 0} (e : Refusal) {o : Option ℕ} {f g : Refusal} {q : std.Result A Refusal}
    → o ≡ None → ◌≡◌ {A = std.Result ℕ Refusal} (Err f) (ok_or o e) → q ≡ Err g → g ≡ f → q ≡ Err e
none-handed e {o} {f} unknown made at same =
    let is : ◌≡◌ {A = std.Result ℕ Refusal} (Err f) (Err e) = made ∙ ap (λ (o : Option ℕ). ok_or o e) unknown in
    let own : f ≡ e = cc in
    rw (at, same, own)

-- o is what the search for the session answered
module _ (s : Bytes) (ls : List LoginState) (n : ℕ) {o : Option ℕ} (answer : o ≡ (if has_session (users_in s) ls n then Some (index_in n) else None)) where
  pub session-unknown : o ≡ None → has_session (users_in s) ls n ≡ false
  session-unknown is = go (has_session (users_in s) ls n) (sym is ∙ answer)
    where
      go : (b : Bool) → None ≡ (if b then Some (index_in n) else None) → b ≡ false
      go true h = cc
      go false h = refl

  module _ {i : ℕ} (is : o ≡ Some i) where
    -- a session of the user in the row at i
    pub session-known : (has_session (users_in s) ls n ≡ true) × (i ≡ index_in n)
    session-known = go (has_session (users_in s) ls n) (sym is ∙ answer)
      where
        go : (b : Bool) → Some i ≡ (if b then Some (index_in n) else None) → (b ≡ true) × (i ≡ index_in n)
        go true h = (refl, (cc))
        go false h = (cc, cc)

    session-counted : i < length (in_use user_row max_users s)
    unfolding has_session session_is user_at users_in
    session-counted = go (user_at (users_in s) (index_in n)) refl
      where
        go : (o : Option User) → user_at (users_in s) (index_in n) ≡ o → i < length (in_use user_row max_users s)
        go None e = never (sym session-known.0 ∙ rw e)
        go (Some u) e =
            omega (arith, session-known.1, elem_below (users_in s) (index_in n) u e, length-table user_in user_row max_users s)

    pub session-below : i < max_users
    session-below = omega (arith, session-counted, counted-fit user_row max_users s refl)

    pub session-inside : users_bytes ≤ length s → i * user_row + user_row ≤ length s
    session-inside h = user-inside s refl i session-counted h

    pub session-user : {row : Bytes} → row ≡ take user_row (drop (i * user_row) s) → user_at (users_in s) (index_in n) ≡ Some (user_in row)
    session-user at = rw (← session-known.1) (user-some s refl i session-counted at)
