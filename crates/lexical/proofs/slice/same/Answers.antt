use mathlib.Core.Path.{sym}
use lib.ListN.{length}
use Rattle.lexical.proofs.Slices.{same_not}
use Rattle.lexical.proofs.slice.same.Goals as goal

-- Texts of different lengths differ; of equal lengths, words decide or bytes.

pub returns-then-n-b : goal.returns-then-n-b
returns-then-n-b c = sym (same_not _ _ length c.if-n-b.true)
