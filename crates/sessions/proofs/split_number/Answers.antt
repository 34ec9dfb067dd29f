use Prim.Native.Nat.{ℕ}
use mathlib.Core.Path.{ap}
use lib.Bits.{and_mask}
use Rattle.model.specs.Serving.{index_in, count_in}
use Rattle.sessions.proofs.States.{login_bits}
use Rattle.sessions.proofs.split_number.Goals as goal

-- What is shifted down is the quotient, and the bits below are the remainder.

pub returns : goal.returns
unfolding index_in count_in
returns c = ap (λ (logins : ℕ). record { index = index_in c.args.n; logins = logins }) (and_mask c.args.n login_bits)
