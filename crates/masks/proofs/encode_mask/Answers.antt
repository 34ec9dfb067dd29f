use Rattle.masks.specs.Bits.{bytes_of, encode_mask}
use Rattle.masks.proofs.encode_mask.Goals as goal

-- Byte after byte, the one that counts least first.

pub returns : goal.returns
unfolding encode_mask bytes_of
returns c =
    rw (c.low_byte.ensures, c.low_byte-2.ensures, c.low_byte-3.ensures, c.low_byte-4.ensures)
