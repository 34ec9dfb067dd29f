use native.Mathlib.Omega.{arith}
use lib.Pow.{pow_pos, pow_mono}
use mir.Syntax.{w64}
use mir.Val.{bits}
use borrow.Author.Rules.{rules}
use Rattle.model.specs.Limits.{max_users}
use Rattle.masks.proofs.Bits.{one_shifted, ones_bit}
use Rattle.masks.proofs.first_places.Goals as goal

-- One less than a power of two has every bit below it.

pub overflow_sub-result : goal.overflow_sub-result
overflow_sub-result c = rw (one_shifted (bits w64) c.args.n (search rules)) (pow_pos c.args.n)

pub overflow_cast-result : goal.overflow_cast-result
overflow_cast-result c =
    let n = c.args.n in
    record { fits = rw (one_shifted (bits w64) n (search rules)) (omega (arith, pow_pos n, pow_mono {i = n} {j = max_users} c.requires)) }

pub returns : goal.returns
returns c = λ k. rw (one_shifted (bits w64) c.args.n (search rules)) (ones_bit c.args.n k)
