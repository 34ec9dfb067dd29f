use Rattle.tables.proofs.Held.{HoldersBelow}
use Rattle.tables.proofs.candidates.holders.Given as goal

abbrev pub invariant-loop-j : goal.invariant-loop-j
invariant-loop-j l = HoldersBelow l.tables l.key l.j l.held
