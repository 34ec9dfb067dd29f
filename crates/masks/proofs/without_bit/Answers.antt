use Rattle.model.specs.Limits.{max_users}
use Rattle.masks.proofs.Bits.{without-less, without-set}
use Rattle.masks.proofs.without_bit.Goals as goal

-- The bit of the place is taken out, and the others stay.

pub returns : goal.returns
returns c =
    let m = c.args.mask in
    let j = c.args.j in
    (without-less max_users m j c.requires.0 c.requires.1, without-set max_users m j c.requires.0 c.requires.1)
