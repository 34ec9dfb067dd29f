use Rattle.paths.specs.Layout.{path_in}
use Rattle.steps.specs.Steps.{steps_in}
use Rattle.tables.specs.Memory.{users_in}
use Rattle.tables.specs.Grants.{Found, Covers}
use Rattle.tables.proofs.candidates.candidates.Given as goal

abbrev pub invariant-loop-i : goal.invariant-loop-i
invariant-loop-i l =
    Found (users_in l.tables) (path_in l.path) l.found × Covers (users_in l.tables) (steps_in l.steps) (path_in l.path) l.mask
