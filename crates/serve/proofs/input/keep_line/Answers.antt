use borrow.Author.Rules.{rules}
use Rattle.serve.proofs.Kept.{kept}
use Rattle.serve.proofs.input.keep_line.Goals as goal

-- What stood from `from` on stands at the start.

pub returns-clause-input_after : goal.returns-clause-input_after
returns-clause-input_after c = rw c.copy_within.ensures.after (kept _ 257 _ _ _ c.requires.0 c.requires.1 (search rules))
