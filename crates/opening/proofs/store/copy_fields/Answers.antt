use borrow.Author.Rules.{rules}
use Rattle.opening.proofs.store.copy_fields.Goals as goal

-- The rows of fields.

pub copy_rows-requires : goal.copy_rows-requires
copy_rows-requires c = (search rules, search rules, c.requires.0)

pub returns : goal.returns
returns c = c.copy_rows.ensures
