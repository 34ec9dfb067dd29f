use native.Mathlib.Omega.{arith}
use lib.ListN.{length}
use borrow.Author.Tests.{lt-ltb, le-ltb}
use Rattle.model.specs.Limits.{max_text}
use Rattle.model.specs.Refusals.{refuse◌if◌}
use Rattle.model.specs.Opening.{check_length}
use Rattle.opening.proofs.open.check_length.Goals as goal

pub returns-then-s-gt-MAX_TEXT : goal.returns-then-s-gt-MAX_TEXT
unfolding check_length refuse◌if◌
returns-then-s-gt-MAX_TEXT c = rw (lt-ltb max_text (length c.args.s.now) (omega arith))

pub returns : goal.returns
unfolding check_length refuse◌if◌
returns c = rw (le-ltb max_text (length c.args.s.now) (omega arith))
