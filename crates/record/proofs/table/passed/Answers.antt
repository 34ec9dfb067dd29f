use mathlib.Core.Path.{refl, sym, ◌∙◌}
use borrow.Author.Rules.{rules}
use Rattle.paths.specs.Layout.{path_in}
use Rattle.paths.proofs.Ordered.{paths-behind}
use Rattle.record.proofs.table.passed.Goals as goal

-- Either test puts the path behind each slot whose first key passes.

pub returns-then-is_empty : goal.returns-then-is_empty
returns-then-is_empty c = (search rules, refl)

pub returns : goal.returns
returns c =
    let path = c.args.path.now in
    let kept = sym c.is_empty.ensures ∙ c.if-is_empty.false in
    c.pass.ensures (path_in path) (λ slot full says. paths-behind path slot kept full c.key_at-first.ensures refl (search rules))
    (c.pass-from.ensures (path_in path) (λ slot full says. paths-behind path slot kept full c.key_at-first.ensures refl (search rules)) (search rules, refl))
