use Rattle.std.proofs.Common.{[], ◌∙◌, rules, tests}
use Rattle.std.proofs.lemmas.Option.{unwrap_or-slice_get}
use Rattle.std.proofs.lemmas.Iterator.Consumers.{nth_from_yields_List}
use Rattle.model.specs.Table.{split}
use Rattle.lines.proofs.Cells.{values-of, or-none}
use Rattle.lines.proofs.value.Goals as goal

pub returns : goal.returns
returns c =
    or-none _ _ _ c.unwrap_or_default.ensures (nth_from_yields_List c.nth.result _ c.args.j c.nth.ensures.ran
    (values-of _ c.args.line.now c.split.ensures.rest c.split.ensures.done c.split.ensures.closure (λ x r q k. search (rules, tests))))
    ∙ unwrap_or-slice_get (split c.args.line.now) c.args.j []
