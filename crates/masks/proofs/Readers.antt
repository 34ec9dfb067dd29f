-- The mask that the policy gives a path: the bit of each place says whether there is a user who may read it.
use Prim.Native.Nat.{ℕ, ◌≤◌}
use mathlib.Core.Path.{◌≡◌, ◌∙◌}
use mathlib.Core.Bool.{false}
use native.Mathlib.Omega.{arith}
use borrow.Author.Tests.{ltb-false}
use lib.Dec.{ltb}
use lib.ListN.{length}
use Rattle.rows.proofs.Positions.{elem-left, over}
use Rattle.model.specs.Limits.{max_users}
use Rattle.model.specs.Fields.{Keys}
use Rattle.model.specs.Tables.{Tables, user_at}
use Rattle.model.specs.Serving.{reads_by, reads_at}
use Rattle.model.proofs.Lists.{by_cases}
use Rattle.masks.specs.Bits.{bit_at}
use Rattle.masks.specs.Readers.{readers_of}
use Rattle.masks.proofs.Bits.{mask-bits}

-- where there is no user, nobody reads
pub reads-past : (t : Tables) (p : Keys) (j : ℕ) → length t.users ≤ j → reads_at t j p ≡ false
unfolding reads_at reads_by user_at
reads-past t p j h = rw (elem-left t.users j, over t.users j h)

pub reads-bit : (t : Tables) → length t.users ≤ max_users → (p : Keys) (j : ℕ) → bit_at (readers_of t p) j ≡ reads_at t j p
unfolding readers_of
reads-bit t few p j = mask-bits (λ k. reads_at t k p) max_users j ∙ by_cases (ltb j max_users)
    (λ l. rw l)
    (λ l. rw (l, reads-past t p j (omega (arith, ltb-false j max_users l))))
