use Rattle.std.proofs.Common.{◌≤◌}
use Rattle.leaves.proofs.each.Given as goal

-- a line begins behind the last one that was passed

abbrev pub invariant-loop-i : goal.invariant-loop-i
invariant-loop-i g l = l.from ≤ l.i
