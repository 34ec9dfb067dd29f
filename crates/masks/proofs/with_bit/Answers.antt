use Rattle.model.specs.Limits.{max_users}
use Rattle.masks.proofs.Bits.{with-set}
use Rattle.masks.proofs.with_bit.Goals as goal

-- The bit of the place is set, and the others stay.

pub returns : goal.returns
returns c = λ k. with-set max_users c.args.mask c.args.j k c.requires
