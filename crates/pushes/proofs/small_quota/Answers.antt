use Prim.Native.Nat.{◌+◌}
use native.Mathlib.Omega.{arith}
use Rattle.tables.specs.Memory.{quota_at, user_in}
use Rattle.pushes.proofs.small_quota.Goals as goal

-- Two bytes say less than 2 ^ 16.

pub returns : goal.returns
unfolding user_in
returns c =
    let byte = c.type_inv.user in
    (c.quota.ensures, omega (arith, c.quota.ensures, (byte quota_at).fits, (byte (quota_at + 1)).fits))
