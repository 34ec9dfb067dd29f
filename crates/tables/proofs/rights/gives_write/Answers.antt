use mathlib.Core.Path.{sym, ◌∙◌}
use mathlib.Core.Bool.{and-false}
use Rattle.tables.specs.Grants.{gives_write}
use Rattle.tables.proofs.rights.gives_write.Goals as goal

-- A line of the kind READ gives nothing, and a line of another role gives nothing; of the others the path decides.

pub returns-then-not-is_write : goal.returns-then-not-is_write
unfolding gives_write
returns-then-not-is_write c = rw (sym c.is_write.ensures ∙ c.if-not-is_write.true, and-false)

pub returns-then-not-is_for : goal.returns-then-not-is_for
unfolding gives_write
returns-then-not-is_for c = rw (sym c.is_for.ensures ∙ c.if-not-is_for.true)

pub returns : goal.returns
unfolding gives_write
returns c =
    let m = rw (c.bindings.ensures.result_value, c.rule_path.ensures.result_value) at c.matches.ensures in
    rw (sym c.is_for.ensures ∙ c.if-not-is_for.false, sym c.is_write.ensures ∙ c.if-not-is_write.false) m
