use Rattle.std.proofs.Common.{length, ◌-◌, ◌≡◌}
use Rattle.cases.proofs.afternoon.answer_input.Given as goal

abbrev pub invariant-loop-at : goal.invariant-loop-at
invariant-loop-at g l = length l.out ≡ 65536

abbrev pub decreases-loop-at : goal.decreases-loop-at
decreases-loop-at g l = length l.input - l.at
