-- The quotas of the users in memory: what a loop that adds them up has left at each row.
use Prim.Native.Nat.{ℕ, ◌+◌, ◌*◌, ◌≤◌, ◌<◌}
use mathlib.Core.Path.{◌≡◌}
use lib.ListN.{length, take, drop}
use Rattle.model.specs.Base.{Bytes, sum}
use Rattle.model.specs.Limits.{max_users}
use Rattle.model.specs.Opening.{quotas}
use Rattle.layout.specs.Layout.{in_use}
use Rattle.tables.specs.Memory.{user_row, user_in, users_in}
use Rattle.tables.proofs.Users.{user-left, users-over}

-- m rows were counted
module _ (s : Bytes) {m : ℕ} (counted : m ≡ length (in_use user_row max_users s)) (i : ℕ) where
  pub quotas-over : m ≤ i → quotas (drop i (users_in s)) ≡ 0
  unfolding quotas sum
  quotas-over h = rw (users-over s counted i h)

  pub quota-left : i < m → {row : Bytes} {q : ℕ} → row ≡ take user_row (drop (i * user_row) s) → q ≡ (user_in row).quota
      → quotas (drop i (users_in s)) ≡ q + quotas (drop (i + 1) (users_in s))
  unfolding quotas sum
  quota-left below is t = rw (user-left s counted i below is, t)
