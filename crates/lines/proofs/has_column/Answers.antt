use Rattle.std.proofs.Common.{◌∙◌, rules, tests}
use Rattle.std.proofs.lemmas.Iterator.Search.{any_from_yields_List}
use Rattle.model.specs.Base.{◌≐◌}
use Rattle.lines.proofs.Cells.{values-of, among-is}
use Rattle.lines.proofs.has_column.Goals as goal

pub returns : goal.returns
returns c =
    any_from_yields_List (λ m. c.args.name.now ≐ m) _ _ _ c.any.ensures.ran
    (values-of _ _ c.split.ensures.rest c.split.ensures.done c.split.ensures.closure (λ x r q k. search (rules, tests)))
    (λ x b q k. search (rules, tests))
    ∙ among-is _ _
