use lib.Seq.{get_or-drop}
use Rattle.masks.specs.Bits.{little_endian, decode_mask}
use borrow.Author.Rules.{rules}
use Rattle.masks.proofs.decode_mask.Goals as goal

-- Byte after byte, the one that counts least last.

pub returns : goal.returns
unfolding decode_mask little_endian
returns c = simp get_or-drop (search rules)
