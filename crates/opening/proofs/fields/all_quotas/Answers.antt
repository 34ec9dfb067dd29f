use Prim.Native.Nat.{◌+◌, ◌*◌, ◌≤◌}
use native.Mathlib.Omega.{arith}
use borrow.Author.Rules.{rules}
use Rattle.tables.specs.Memory.{user_row, quota_at}
use Rattle.tables.proofs.Users.{user-inside}
use Rattle.tables.proofs.Users.{quota-small}
use Rattle.opening.proofs.Quotas.{quota-left, quotas-over}
use Rattle.opening.proofs.fields.all_quotas.Goals.{After-quota-sum}
use Rattle.opening.proofs.fields.all_quotas.Goals as goal

-- Each turn adds one quota: the sum and what is left of the quotas stay all of them.

-- a quota is at most 65,535, so the sum of 32 fits
small : (c : After-quota-sum) → c.quota-sum.result ≤ 65535
small c =
    let i = c.loop-i.i in
    let byte = c.shared_slice_known-1.given in
    quota-small _ i c.row_at.ensures.0 c.quota-sum.ensures (omega (arith, byte (i * user_row + quota_at))) (omega (arith, byte (i * user_row + (quota_at + 1))))

pub row_at-requires : goal.row_at-requires
row_at-requires c = user-inside _ c.row_count-i-end.ensures c.loop-i.i c.loop-i-test.true (search rules)

pub overflow_add-sum : goal.overflow_add-sum
overflow_add-sum c =
    omega (arith, small c, user-inside _ c.row_count-i-end.ensures c.loop-i.i c.loop-i-test.true (search rules))

pub loop-i-preserved : goal.loop-i-preserved
loop-i-preserved c =
    let l = c.loop-i in
    let left = quota-left _ c.row_count-i-end.ensures l.i c.loop-i-test.true c.row_at.ensures.0 c.quota-sum.ensures in
    (omega (arith, small c), omega (arith, left))

pub returns : goal.returns
returns c = let l = c.loop-i in omega (arith, quotas-over _ c.row_count-i-end.ensures l.i (search rules))
