use Prim.Native.Nat.{◌-◌}
use mathlib.Core.Path.{sym}
use borrow.Author.Rules.{rules}
use lib.ListN.{length, get_or}
use Rattle.model.specs.Base.{Bytes}
use Rattle.lexical.proofs.Slices.{same_not, same_start}
use Rattle.lexical.proofs.slice.same_bytes.Goals as goal

-- Texts of different lengths differ; of equal lengths, each turn finds one byte more that is equal, from the end back.

pub returns-then-a-b : goal.returns-then-a-b
returns-then-a-b c = sym (same_not _ _ length c.if-a-b.true)

pub returns-then-a-i : goal.returns-then-a-i
returns-then-a-i c = let l = c.loop-i in sym (same_not _ _ (λ (s : Bytes). get_or s (l.i - 1) 0) c.if-a-i.true)

pub returns : goal.returns
returns c = let l = c.loop-i in sym (same_start _ _ l.i (search rules) l.invariant)
