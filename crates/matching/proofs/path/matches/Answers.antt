use mathlib.Core.Path.{sym, ◌∙◌}
use borrow.Author.Rules.{rules}
use Rattle.matching.proofs.Matched.{matches-not, matches-unasked}
use Rattle.matching.proofs.path.matches.Goals as goal

-- A path that may not match does not; one that may does where no step asks the lines, and else the lines decide.

pub returns-then-not-may_match : goal.returns-then-not-may_match
returns-then-not-may_match c = sym (matches-not _ _ _ (sym c.may_match.ensures ∙ c.if-not-may_match.true))

pub returns-then-not-asks_lines : goal.returns-then-not-asks_lines
returns-then-not-asks_lines c =
    let may = sym c.may_match.ensures ∙ c.if-not-may_match.false in
    sym (matches-unasked _ _ _ (sym c.asks_lines.ensures ∙ c.if-not-asks_lines.true) may)

pub lines_match-requires : goal.lines_match-requires
lines_match-requires c = record { bindings_bytes_in_bounds = search rules; slot_value = sym c.may_match.ensures ∙ c.if-not-may_match.false }
