-- What a push is decided to be, by the answers about the session, the right, the field and the quota.
use Prim.Native.Nat.{ℕ, ◌*◌, ◌≤◌, ◌<◌}
use mathlib.Core.Path.{◌≡◌, sym, ◌∙◌}
use mathlib.Core.Bool.{Bool, true, false, not, ◌&&◌}
use mathlib.Core.List.{List}
use borrow.Author.Tests.{le-leb, lt-leb}
use lib.Dec.{leb}
use lib.ListN.{get_or, take, drop}
use Rattle.model.specs.Base.{Bytes}
use Rattle.model.specs.Values.{Value}
use Rattle.model.specs.Fields.{Keys, Fields, holds, field_of}
use Rattle.model.specs.Refusals.{refused, done, ◌>>=◌, ◌>>◌, refuse◌if◌}
use Rattle.model.specs.Opening.{LoginState, empty_login}
use Rattle.model.specs.Serving.{stores, creating, decide_push}
use Rattle.tables.specs.Memory.{user_row, users_bytes, user_in, users_in, policy_in, tables_in}
use Rattle.model.specs.Rights.{may_write}
use Rattle.record.specs.declared.table.Place.{Place}
use Rattle.record.specs.declared.table.Place.TheVariants.{At, Before}
use Rattle.record.specs.Search.{place_in}
use Rattle.record.proofs.Places.{at-holds, before-holds}
use Rattle.std.specs.Prelude.{Option, None, Some, if◌then◌else◌}
use Rattle.model.specs.Serving.{index_in}
use Rattle.sessions.specs.Logins.{has_session}
use Rattle.sessions.proofs.Known.{no-session, in-session, session-unknown, session-known, session-user}
use Rattle.pushes.specs.Rulings.{push_decided}

module _ (s : Bytes) (ls : List LoginState) (n : ℕ) {o : Option ℕ} (found : o ≡ (if has_session (users_in s) ls n then Some (index_in n) else None)) where
  -- no open session has the number
  pub unknown-session : (fs : Fields) (p : Keys) (v : Value) → o ≡ None → push_decided (tables_in s) ls fs n p v ≡ refused 14
  unfolding tables_in push_decided decide_push ◌>>=◌ ◌>>◌ refuse◌if◌
  unknown-session fs p v at = rw (no-session (record { tables = tables_in s; login_states = ls; fields = fs }) n (session-unknown s ls n found at))

  -- it is that of the user at i
  module _ {i : ℕ} (at : o ≡ Some i) where
    -- ── The right: r says whether that user may write the path p ──
    module _
        {row policy : Bytes}
        (is : row ≡ take user_row (drop (i * user_row) s))
        (part : policy ≡ drop users_bytes s)
        (p : Keys)
        {r : Bool}
        (may : r ≡ may_write (policy_in policy) (user_in row) p)
        (fs : Fields)
        (v : Value)
      where
        ruled : push_decided (tables_in s) ls fs n p v
            ≡ ((refuse 16 if not r) >> ((refuse 17 if not (holds p fs) && leb (user_in row).quota (get_or ls i empty_login).created)
            >> done (stores i (creating (get_or ls i empty_login) (holds p fs)) (field_of p v))))
        unfolding tables_in push_decided decide_push ◌>>=◌ ◌>>◌ refuse◌if◌
        ruled =
            let (known, index) = session-known s ls n found at in
            let writes = rw part at may in
            rw (in-session (record { tables = tables_in s; login_states = ls; fields = fs }) n (session-user s ls n found at is) known, ← index, writes)

        pub no-right : r ≡ false → push_decided (tables_in s) ls fs n p v ≡ refused 16
        unfolding ◌>>◌ refuse◌if◌
        no-right f = ruled ∙ rw f

        -- ── The field: a is the user's login state, and l where a search for the path ended ──
        module _ (right : r ≡ true) {a : LoginState} (state : a ≡ get_or ls i empty_login) {k : ℕ} {l : Place} (place : l ≡ place_in 0 p fs) where
          pub stored-held : l ≡ At k → push_decided (tables_in s) ls fs n p v ≡ done (stores i a (field_of p v))
          unfolding creating ◌>>◌ refuse◌if◌
          stored-held e = ruled ∙ rw (right, at-holds p fs k (sym place ∙ e), ← state)

          -- it is absent, and q is the user's quota
          module _ (e : l ≡ Before k) {q : ℕ} (quota : q ≡ (user_in row).quota) where
            absent : holds p fs ≡ false
            absent = before-holds p fs k (sym place ∙ e)

            pub quota-reached : q ≤ a.created → push_decided (tables_in s) ls fs n p v ≡ refused 17
            unfolding ◌>>◌ refuse◌if◌
            quota-reached h = ruled ∙ rw (right, absent, ← state, ← quota, le-leb _ _ h)

            pub stored-new : a.created < q → {b : LoginState} → b ≡ creating a false
                → push_decided (tables_in s) ls fs n p v ≡ done (stores i b (field_of p v))
            unfolding ◌>>◌ refuse◌if◌
            stored-new h c = ruled ∙ rw (right, absent, ← state, ← quota, lt-leb _ _ h, c)
