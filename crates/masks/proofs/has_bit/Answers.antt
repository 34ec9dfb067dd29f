use lib.Bits.{and_mask}
use Rattle.masks.specs.Bits.{bit_at}
use Rattle.masks.proofs.has_bit.Goals as goal

-- What is shifted down is odd where the bit is set.

pub returns : goal.returns
unfolding bit_at
returns c = rw (and_mask _ 1)
