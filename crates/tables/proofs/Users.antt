-- The users in memory: the user at an index, and what a search through the rows has left at each.
use Rattle.std.specs.Prelude.{if◌then◌else◌}
use Prim.Native.Nat.{ℕ, ◌+◌, ◌*◌, ◌≤◌, ◌<◌}
use mathlib.Core.Path.{◌≡◌, refl}
use mathlib.Core.Bool.{Bool}
use Rattle.std.specs.Prelude.{Option, None, Some}
use mathlib.Core.List.{[], ◌∷◌}
use native.Mathlib.Numerals.{add-one}
use native.Mathlib.Omega.{arith}
use lib.ListN.{length, get_or, take, drop}
use lib.Seq.{take-take}
use Rattle.layout.specs.Layout.{in_use, table, name_row, name_in}
use Rattle.rows.proofs.Rows.{rows_take}
use Rattle.rows.proofs.Parts.{part_at}
use Rattle.rows.proofs.Positions.{elem-left}
use Rattle.model.specs.Base.{Bytes, first_from, ◌≐◌}
use Rattle.model.specs.Limits.{max_users}
use Rattle.model.specs.Tables.{User, user_at}
use Rattle.tables.specs.Memory.{user_row, users_bytes, quota_at, user_in, users_in}
use Rattle.layout.proofs.Used.{length-table, used-fit, used-last, used-more, byte-empty, byte_full, row-left, rows-over}

-- the first bytes of the tables are the users'
pub users-first : (s : Bytes) → users_in (take users_bytes s) ≡ users_in s
unfolding users_in table
users-first s = rw (rows_take user_row max_users users_bytes s (omega arith))

-- m rows were counted
module _ (s : Bytes) {m : ℕ} (counted : m ≡ length (in_use user_row max_users s)) (i : ℕ) where
  pub users-over : m ≤ i → drop i (users_in s) ≡ []
  unfolding users_in
  users-over h = rows-over user_in user_row max_users s counted i h

  pub user-none : m ≤ i → user_at (users_in s) i ≡ None
  unfolding user_at
  user-none h = rw (elem-left (users_in s) i, users-over h)

  module _ (below : i < m) where
    pub user-inside : users_bytes ≤ length s → i * user_row + user_row ≤ length s
    user-inside h = omega (arith, counted, used-fit user_row max_users s)

    pub user-left : {row : Bytes} → row ≡ take user_row (drop (i * user_row) s) → drop i (users_in s) ≡ user_in row ∷ drop (i + 1) (users_in s)
    unfolding users_in
    user-left is = row-left user_in user_row max_users s counted i below is

    pub user-some : {row : Bytes} → row ≡ take user_row (drop (i * user_row) s) → user_at (users_in s) i ≡ Some (user_in row)
    unfolding user_at
    user-some is = rw (elem-left (users_in s) i, user-left is)

-- a user is at each index below their number
pub user-below : (s : Bytes) (k : ℕ) → k < length (users_in s) → k < length (in_use user_row max_users s)
unfolding users_in
user-below s k h = rw length-table at h

-- ── The search for the name n, from the user i on ──
abbrev pub named_from : Bytes → Bytes → ℕ → Option (ℕ × User)
named_from n s i = first_from i (λ (u : User). u.name ≐ n) (drop i (users_in s))

module _ (n s : Bytes) (i : ℕ) where
  pub named-over : length (in_use user_row max_users s) ≤ i → named_from n s i ≡ None
  unfolding first_from
  named-over h = rw (users-over s refl i h)

  module _ (below : i < max_users) (passed : i ≤ length (in_use user_row max_users s)) where
    pub named-stop : get_or s (i * user_row) 0 ≡ 0 → named_from n s i ≡ None
    named-stop e = named-over (used-last user_row max_users s i below passed refl (byte-empty user_row max_users s i (omega arith) e))

    -- the row is in use
    module _ (f : get_or s (i * user_row) 0 ≡ 0 → ⊥) where
      pub named_more : i < length (in_use user_row max_users s)
      named_more = used-more user_row max_users s i below passed refl (byte_full user_row max_users s i (omega arith) f)

      -- its name was compared with n: it is the one, or the search goes on
      pub named-next : {name : Bytes} {r : Bool} → name ≡ name_in (take name_row (drop (i * user_row) s)) → r ≡ (name ≐ n)
          → named_from n s i ≡ (if r then Some (i, user_in (take user_row (drop (i * user_row) s))) else named_from n s (i + 1))
      unfolding first_from user_in
      named-next e t =
          rw (user-left s refl i named_more refl, take-take name_row user_row (drop (i * user_row) s) (omega arith), ← e, ← t, add-one i)

-- two bytes say at most 65,535
pub quota-small : (s : Bytes) (i : ℕ) {row : Bytes} {q : ℕ} → row ≡ take user_row (drop (i * user_row) s) → q ≡ (user_in row).quota
    → get_or s (i * user_row + quota_at) 0 < 256 → get_or s (i * user_row + (quota_at + 1)) 0 < 256 → q ≤ 65535
unfolding user_in
quota-small s i {row} is t low high =
    let low-is : get_or row quota_at 0 ≡ get_or s (i * user_row + quota_at) 0 = rw is (part_at (i * user_row) user_row s 0 quota_at (omega arith)) in
    let high_is : get_or row (quota_at + 1) 0 ≡ get_or s (i * user_row + (quota_at + 1)) 0 = rw is (part_at (i * user_row) user_row s 0 (quota_at + 1) (omega arith)) in
    omega arith
