use mathlib.Core.Path.{refl, sym}
use borrow.Author.Rules.{rules}
use lib.Seq.{set_out}
use Rattle.rows.specs.Rows.{written}
use Rattle.buffers.proofs.put_byte.Goals as goal

-- A byte inside the buffer is stored; a store outside it would change nothing.

pub returns-then-at-out : goal.returns-then-at-out
unfolding written
returns-then-at-out c = search rules

pub returns : goal.returns
unfolding written
returns c = (refl, sym (set_out _ _ _ c.if-at-out.false))
