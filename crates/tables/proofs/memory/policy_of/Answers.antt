use native.Mathlib.Omega.{arith}
use lib.ListN.{length-take, length-drop}
use Rattle.rows.proofs.Parts.{tail-part}
use Rattle.tables.proofs.memory.policy_of.Goals as goal

-- They are the part behind the users' bytes.

pub returns : goal.returns
returns c = (rw tail-part, simp (length-take, length-drop) (omega (arith, c.requires)))
