use mathlib.Core.Path.{sym, ap, ◌∙◌}
use mathlib.Core.List.{List, []}
use borrow.Author.Rules.{rules}
use lib.ListN.{get_or}
use Rattle.model.specs.Limits.{max_listed}
use Rattle.model.specs.Base.{Bytes}
use Rattle.layout.specs.Layout.{key_row, name_in}
use Rattle.steps.specs.Steps.{names_in}
use Rattle.layout.proofs.Counts.{counted-at, counted-over}
use Rattle.steps.proofs.policy.first_name.Goals as goal

-- Where there is a name, the first row has it; else the names are none.

pub returns-then-count-gt0 : goal.returns-then-count-gt0
unfolding names_in
returns-then-count-gt0 c = c.key_at.ensures ∙ sym (counted-at name_in key_row max_listed _ 0 _ (search rules))

pub returns : goal.returns
unfolding names_in
returns c = sym (ap (λ (l : List Bytes). get_or l 0 []) (counted-over name_in key_row max_listed _ 0 (search rules)))
