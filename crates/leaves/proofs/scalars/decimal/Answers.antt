use native.Mathlib.Omega.{arith}
use borrow.Author.Rules.{rules}
use Rattle.model.proofs.Reading.{decimal-length}
use Rattle.leaves.proofs.scalars.decimal.Goals as goal

-- A u32 has at most ten digits.

pub put_decimal-a-requires : goal.put_decimal-a-requires
put_decimal-a-requires g c = omega (arith, decimal-length c.args.n 9 (search rules))
