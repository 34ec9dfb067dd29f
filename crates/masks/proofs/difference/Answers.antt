use Rattle.masks.proofs.Bits.{difference-bit}
use Rattle.masks.proofs.difference.Goals as goal

-- Each bit is set where it is in the first and not in the second.

pub returns : goal.returns
returns c = difference-bit c.args.a c.args.b
