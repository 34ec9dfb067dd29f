-- Both tables in one memory: what it means where the bytes of one of them came back changed, and what a line's answer says of both.
use Prim.Native.Nat.{ℕ, ◌-◌, ◌≤◌}
use mathlib.Core.Path.{◌≡◌, refl, ap, ◌∙◌}
use mathlib.Core.List.{List, ◌++◌}
use lib.ListN.{length, take, drop}
use lib.Seq.{take_at, drop_at, length-take-le}
use Rattle.rows.specs.Rows.{replaced}
use Rattle.layout.specs.Layout.{Keeps}
use Rattle.rows.proofs.Parts.{tail-part, tail-replaced}
use Rattle.model.specs.Base.{Bytes}
use Rattle.model.specs.Refusals.{Result, refused, done, ◌>>=◌}
use Rattle.model.specs.Table.{Table}
use Rattle.model.specs.Tables.{User, Rule, Tables}
use Rattle.tables.specs.Memory.{users_bytes, users_in, policy_in, tables_in}
use Rattle.tables.proofs.Users.{users-first}
use Rattle.refusals.specs.Numbers.{bare}
use Rattle.tabletext.specs.Reading.{kept_or, in_users, in_policy}

-- ── A result with what was read put into a whole ──
module _ {A B : Type 0} (f : A → B) where
  answer-in : (q : Result ℕ A) → bare q ≡ bare (q >>= λ a. done (f a))
  unfolding ◌>>=◌
  answer-in (refused e) = refl
  answer-in (done a) = refl

  kept_in : (a : A) (q : Result ℕ A) → f (kept_or a q) ≡ kept_or (f a) (q >>= λ b. done (f b))
  unfolding ◌>>=◌ kept_or
  kept_in a (refused e) = refl
  kept_in a (done b) = refl

-- ── The first 19104 bytes are the users', the rest is the policy's ──
tables-joined : (us rs : Bytes) → length us ≡ users_bytes → tables_in (us ++ rs) ≡ record { users = users_in us; policy = policy_in rs }
unfolding tables_in
tables-joined us rs l = rw (← users-first (us ++ rs), take_at us rs users_bytes l, drop_at us rs users_bytes l)

-- what a line added to one of them, it added to both
module _ (val : Bytes → Bytes) (s part : Bytes) {r : Result ℕ (Unit {0})} where
  pub row-users : (t : Table (List User)) → length part ≡ users_bytes
      → r ≡ bare (t.row val (users_in (take users_bytes s)))
      → users_in part ≡ kept_or (users_in (take users_bytes s)) (t.row val (users_in (take users_bytes s)))
      → (r ≡ bare ((in_users t).row val (tables_in s)))
      × (tables_in (part ++ drop users_bytes s) ≡ kept_or (tables_in s) ((in_users t).row val (tables_in s)))
  unfolding in_users tables_in
  row-users t l a k =
      let whole : List User → Tables = λ us. record { users = us; policy = policy_in (drop users_bytes s) } in
      let q = t.row val (users_in s) in
      ((rw (users-first s) at a) ∙ answer-in whole q, rw (tables-joined part (drop users_bytes s) l, k, users-first s) (kept_in whole (users_in s) q))

  pub row-policy : (t : Table (List Rule)) → users_bytes ≤ length s
      → let old = take (length s - users_bytes) (drop users_bytes s) in
      r ≡ bare (t.row val (policy_in old))
      → policy_in part ≡ kept_or (policy_in old) (t.row val (policy_in old))
      → (r ≡ bare ((in_policy t).row val (tables_in s)))
      × (tables_in (replaced users_bytes (length s - users_bytes) part s) ≡ kept_or (tables_in s) ((in_policy t).row val (tables_in s)))
  unfolding in_policy tables_in
  row-policy t l a k =
      let whole : List Rule → Tables = λ rs. record { users = users_in s; policy = rs } in
      let q = t.row val (policy_in (drop users_bytes s)) in
      let put = ap tables_in (tail-replaced users_bytes s part) in
      let joined = tables-joined (take users_bytes s) part (length-take-le users_bytes s l) in
      let beside : List User → Tables = λ us. record { users = us; policy = policy_in part } in
      let users = ap beside (users-first s) in
      let policy = rw (tail-part users_bytes s) at k in
      ((rw (tail-part users_bytes s) at a) ∙ answer-in whole q, put ∙ joined ∙ users ∙ ap whole policy ∙ kept_in whole (policy_in (drop users_bytes s)) q)

-- ── What holds of the first n bytes, and what of the rest: it stays so where other bytes came back in the place of either ──
module _ (P Q : Bytes → Type 0) (n : ℕ) (s part : Bytes) where
  abbrev Both : Bytes → Type 0
  Both t = P (take n t) × Q (drop n t)

  pub first-kept : length part ≡ n → Keeps P (take n s) part → Both s → Both (part ++ drop n s)
  first-kept l kept h = rw (take_at part (drop n s) n l, drop_at part (drop n s) n l) (kept h.0, h.1)

  pub rest-kept : n ≤ length s → Keeps Q (take (length s - n) (drop n s)) part → Both s → Both (replaced n (length s - n) part s)
  rest-kept l kept h =
      let long = length-take-le n s l in
      rw (tail-replaced n s part, take_at (take n s) part n long, drop_at (take n s) part n long) (h.0, kept (rw (tail-part n s) h.1))
