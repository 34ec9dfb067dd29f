use mathlib.Core.Path.{sym, ◌∙◌}
use borrow.Author.Rules.{rules}
use Rattle.matching.proofs.Matched.{matches-unasked}
use Rattle.tables.specs.Grants.{gives_read}
use Rattle.tables.proofs.rights.gives_read.Goals as goal

-- A line of another role gives nothing; of the others the path decides, and the environment lines where it asks them.

pub returns-then-not-is_for : goal.returns-then-not-is_for
unfolding gives_read
returns-then-not-is_for c = rw (sym c.is_for.ensures ∙ c.if-not-is_for.true)

pub returns-then-not-asks_lines : goal.returns-then-not-asks_lines
unfolding gives_read
returns-then-not-asks_lines c =
    let unasked = rw c.rule_path-steps.ensures.result_value at (sym c.asks_lines.ensures ∙ c.if-not-asks_lines.true) in
    rw (sym c.is_for.ensures ∙ c.if-not-is_for.false) (sym (matches-unasked _ _ _ unasked c.requires.path_value))

pub lines_match-requires : goal.lines_match-requires
lines_match-requires c =
    record { bindings_bytes_in_bounds = search rules; slot_value = rw c.rule_path-steps.ensures.result_value c.requires.path_value }

pub returns : goal.returns
unfolding gives_read
returns c =
    let m = rw (c.bindings.ensures.result_value, c.rule_path-steps.ensures.result_value) at c.lines_match.ensures in
    rw (sym c.is_for.ensures ∙ c.if-not-is_for.false) m
