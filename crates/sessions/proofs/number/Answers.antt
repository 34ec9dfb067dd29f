use Prim.Native.Nat.{◌-◌}
use native.Mathlib.Omega.{arith}
use mir.Syntax.{w32}
use mir.Val.{bits}
use borrow.Author.Rules.{rules}
use Rattle.masks.proofs.Bits.{shifted-or}
use Rattle.model.specs.Serving.{session_number}
use Rattle.sessions.specs.Logins.{state_of}
use Rattle.sessions.proofs.States.{login_bits}
use Rattle.sessions.proofs.number.Goals as goal

-- The index stands above the bits of the logins, and 32 bits have room for both.

pub returns : goal.returns
unfolding session_number state_of
returns c =
    let joined = shifted-or (bits w32 - login_bits) login_bits (bits w32) c.args.i c.args.state.logins (search rules) (omega arith) (search rules) in
    omega (arith, joined)
