use lib.Count.{trailing_le}
use native.Mathlib.Omega.{arith}
use Rattle.model.specs.Limits.{max_users}
use Rattle.masks.proofs.Bits.{first-set}
use borrow.Author.Rules.{rules}
use Rattle.masks.proofs.first_bit.Goals as goal

-- The lowest bit that is set has below it the zeros that are counted.

pub overflow_cast-result : goal.overflow_cast-result
overflow_cast-result c = record { fits = omega (arith, trailing_le max_users c.args.mask) }

pub returns : goal.returns
returns c = first-set max_users c.args.mask c.requires (search rules)
