use Rattle.masks.proofs.Bits.{and-bit}
use Rattle.masks.proofs.both.Goals as goal

-- Each bit is set where it is in both.

pub returns : goal.returns
returns c = and-bit c.args.a c.args.b
