use mathlib.Core.Path.{sym}
use borrow.Author.Tests.{le-ltb}
use Rattle.lexical.proofs.Runs.{byte-over, byte-test}
use Rattle.lexical.proofs.slice.is_at.Goals as goal

-- At the end no byte stands, and elsewhere the byte itself says it.

pub returns-then-at-s : goal.returns-then-at-s
returns-then-at-s c = sym (byte-test _ _ _ c.if-at-s.true)

pub returns-else-at-s : goal.returns-else-at-s
returns-else-at-s c = rw (le-ltb _ _ c.if-at-s.false) (sym (byte-over _ _ _ c.if-at-s.false))
