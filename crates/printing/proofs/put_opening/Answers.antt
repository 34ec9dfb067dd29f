use mathlib.Core.Path.{refl, sym}
use native.Mathlib.Omega.{arith}
use Rattle.rows.proofs.Writing.{written_none}
use Rattle.printing.proofs.put_opening.Goals as goal

pub returns-in_default : goal.returns-in_default
returns-in_default c = record { wrote = rw c.in_default.is (refl, sym (written_none 0 _)); upper_bound = omega arith }

pub returns : goal.returns
returns c = record { wrote = rw (c.in-Err.is, ← c.number.ensures) c.put_fault.ensures.wrote; upper_bound = c.put_fault.ensures.upper_bound }
