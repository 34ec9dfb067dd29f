use mathlib.Core.Path.{refl, sym}
use Rattle.rows.proofs.Positions.{run-within}
use Rattle.record.proofs.Canonical.{none-canonical}
use Rattle.loader.proofs.Loading.{unread, many-fields, few-fields}
use borrow.Author.Rules.{rules}
use Rattle.loader.proofs.read_record.Goals as goal

-- A table is written only where the text is a record without a key twice and with at most 256 fields; what `load_top` puts there is all of them.

pub returns-in_err-n-clause-holds_or_keeps : goal.returns-in_err-n-clause-holds_or_keeps
returns-in_err-n-clause-holds_or_keeps c = rw (unread _ _ c.in_err-n.ensures) refl

pub returns-in_err-n-clause-canonical_fields : goal.returns-in_err-n-clause-canonical_fields
returns-in_err-n-clause-canonical_fields c = λ zeros. rw zeros none-canonical

pub load_top-requires : goal.load_top-requires
load_top-requires c = ((run-within _ _ _ _ c.run-at.ensures (search rules)).1, search rules)

pub returns-then-n-le-SLOTS-clause-holds_or_keeps : goal.returns-then-n-le-SLOTS-clause-holds_or_keeps
returns-then-n-le-SLOTS-clause-holds_or_keeps c =
    rw (few-fields _ _ (sym c.in_ok-n.ensures) c.if-n-le-SLOTS.true _ c.run-at.ensures _ c.load_top.result c.load_top.ensures.result_after) refl

pub returns-else-n-le-SLOTS-clause-holds_or_keeps : goal.returns-else-n-le-SLOTS-clause-holds_or_keeps
returns-else-n-le-SLOTS-clause-holds_or_keeps c = rw (many-fields _ _ (sym c.in_ok-n.ensures) c.if-n-le-SLOTS.false) refl

pub returns-else-n-le-SLOTS-clause-canonical_fields : goal.returns-else-n-le-SLOTS-clause-canonical_fields
returns-else-n-le-SLOTS-clause-canonical_fields c = λ zeros. rw zeros none-canonical
