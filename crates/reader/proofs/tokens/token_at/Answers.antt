use mathlib.Core.Path.{◌≡◌, sym, ap, ◌∙◌}
use native.Mathlib.Omega.{arith}
use lib.ListN.{get_or}
use Rattle.std.proofs.lemmas.Bool.Decides.{nat_tests}
use Rattle.reader.specs.Tokens.{is_structural, token_byte}
use Rattle.reader.proofs.Spaced.{structural-over, structural-not, structural-is}
use Rattle.reader.proofs.tokens.token_at.Goals.{in-123, in-125, in-58, in-44}
use Rattle.reader.proofs.tokens.token_at.Goals as goal

-- The byte at the position decides, and the run of the blanks behind it is where the next token stands.

pub returns-then-s-at : goal.returns-then-s-at
returns-then-s-at c = structural-over _ _ c.if-s-at.true

-- any other byte
pub returns-in_default : goal.returns-in_default
unfolding is_structural
returns-in_default c = structural-not _ _ c.if-s-at.false (grind (arith, nat_tests))

pub returns : goal.returns
returns c =
    let is : get_or c.args.s.now c.args.at 0 ≡ token_byte c.match-s-at.token =
    elim c.match-s-at.branch [
      | in-123 w ↦ w.in-123.is ∙ ap token_byte (sym w.token-is)
      | in-125 w ↦ w.in-125.is ∙ ap token_byte (sym w.token-is)
      | in-58 w ↦ w.in-58.is ∙ ap token_byte (sym w.token-is)
      | in-44 w ↦ w.in-44.is ∙ ap token_byte (sym w.token-is)
    ] in
    structural-is _ _ c.if-s-at.false _ c.run.ensures _ is
