use Rattle.tables.proofs.Held.{KeptFirst}
use Rattle.tables.proofs.candidates.keep_first.Given as goal

abbrev pub invariant-loop-i : goal.invariant-loop-i
invariant-loop-i l = KeptFirst l.n l.initial.found l.i l.found
