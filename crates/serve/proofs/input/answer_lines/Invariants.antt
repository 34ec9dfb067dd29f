use Rattle.std.proofs.Common.{length, ◌-◌, ◌≤◌, ◌≡◌}
use Rattle.serve.proofs.input.answer_lines.Given as goal

abbrev pub invariant-loop-out : goal.invariant-loop-out
invariant-loop-out g l = (l.at ≤ length l.input) × (l.filled ≤ 65536) × (length l.out ≡ 131072)

abbrev pub decreases-loop-out : goal.decreases-loop-out
decreases-loop-out g l = length l.input - l.at
