use Rattle.std.proofs.Common.{◌≡◌, ◌≤◌, length, ◌+◌, drop}
use Rattle.model.specs.Table.{split}
use Rattle.lines.proofs.count.Given as goal

abbrev pub invariant-loop-b : goal.invariant-loop-b
invariant-loop-b l = (l.n ≤ l.b-index + 1) × (l.n + length (split (drop l.b-index l.line)) ≡ length (split l.line) + 1)
