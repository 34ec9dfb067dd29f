use Rattle.std.proofs.Common.{length, ◌≤◌, ◌≡◌}
use Rattle.serve.proofs.input.answer_all.Given as goal

abbrev pub invariant-loop : goal.invariant-loop
invariant-loop g l = (length l.input ≡ 65536) × (length l.out ≡ 131072) × (l.held ≤ 257)
