use Prim.Native.Nat.{◌-◌}
use native.Mathlib.Omega.{arith}
use borrow.Author.Rules.{rules}
use Rattle.model.specs.Limits.{max_users}
use Rattle.masks.specs.Bits.{byte_bits}
use Rattle.masks.proofs.Bits.{shifted-or}
use Rattle.masks.proofs.with_byte.Goals as goal

-- What is shifted up has no bit below, where the byte has its own.

pub returns : goal.returns
returns c =
    let e = shifted-or (max_users - byte_bits) byte_bits max_users c.args.high c.args.low c.requires (omega arith) (search rules) in
    (e, omega (arith, e))
