use lib.Bits.{and_mask, mask_lt}
use Rattle.masks.specs.Bits.{byte_bits}
use Rattle.masks.proofs.low_byte.Goals as goal

-- What stands above the first byte is cut off.

pub overflow_cast-result : goal.overflow_cast-result
overflow_cast-result c = record { fits = mask_lt c.args.mask byte_bits }

pub returns : goal.returns
returns c = and_mask c.args.mask byte_bits
