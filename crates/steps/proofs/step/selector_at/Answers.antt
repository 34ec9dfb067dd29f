use Rattle.model.specs.Base.{text}
use Rattle.model.specs.Paths.{equals, is_in, operator_text, read_environment, read_list, read_selector}
use Rattle.steps.proofs.StepReaders.{either-step}
use borrow.Author.Rules.{rules}
use Rattle.steps.proofs.step.selector_at.Goals as goal

-- The first that reads something decides.

pub or_else-requires : goal.or_else-requires
unfolding operator_text text
or_else-requires c = search rules

pub or_else-requires-2 : goal.or_else-requires-2
unfolding operator_text text
or_else-requires-2 c = search rules

pub returns : goal.returns
unfolding read_selector
returns c =
    let equal = either-step _ (read_environment equals) _ _ _ c.or_else.result c.wildcard_at.ensures (search rules) in
    let inside = either-step _ (read_environment is_in) _ _ _ c.or_else-2.result equal (search rules) in
    either-step _ read_list _ _ _ _ inside (search rules)
