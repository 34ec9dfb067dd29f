use mathlib.Core.Path.{◌∙◌}
use native.Mathlib.Omega.{arith}
use lib.Seq.{get_or-drop}
use Rattle.lexical.specs.Orders.{big_endian}
use Rattle.lexical.proofs.slice.word.Goals as goal

pub returns : goal.returns
unfolding big_endian
returns c = c.from_be_bytes.ensures ∙ simp get_or-drop (omega arith)
