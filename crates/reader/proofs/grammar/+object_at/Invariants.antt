use Prim.Native.Nat.{◌-◌}
use lib.ListN.{length}
use Rattle.model.specs.RecordText.{Members}
use Rattle.reader.proofs.Objects.{Left}
use Rattle.reader.proofs.Sums.{Sums}
use Rattle.reader.proofs.grammar.+object_at.Given as goal

abbrev pub invariant-loop-key : goal.invariant-loop-key
invariant-loop-key l =
    (before : Members) × Left l.s l.at l.depth before l.i × Sums l.s l.at l.top l.initial.keys l.keys l.n l.fields l.twice before l.i

abbrev pub decreases-loop-key : goal.decreases-loop-key
decreases-loop-key l = length l.s - l.i

abbrev pub decreases-object_at : goal.decreases-object_at
decreases-object_at l = l.depth
