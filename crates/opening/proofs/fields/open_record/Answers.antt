use mathlib.Core.Path.{◌≡◌, sym}
use mathlib.Core.Bool.{Bool}
use native.Mathlib.Omega.{arith}
use Rattle.model.specs.Refusals.{done, ◌>>◌, refuse◌if◌}
use Rattle.model.specs.Opening.{fault, open_record}
use Rattle.record.specs.Slots.{fields_in, CanonicalFields}
use Rattle.tables.specs.Memory.{tables_in}
use Rattle.opening.proofs.Opened.{opened-refused, opened-many, opened-few}
use Rattle.opening.proofs.fields.open_record.Goals.{After-has_conflicting_field, After-read_record}
use Rattle.opening.proofs.fields.open_record.Goals as goal

-- Each return answers what `open_record` says, in its order: the reader's refusals, too many fields, a conflict, and the fields that the table holds.

-- where there is room, a conflict decides
conflicting : (c : After-has_conflicting_field) {v : Bool} → c.has_conflicting_field.result ≡ v
    → let a = c.args in
    ((refuse fault 5 4 0 if v) >> done (fields_in c.read_record.new.table)) ≡ open_record (tables_in a.tables.now) a.s.now
conflicting c e =
    let read = c.read_record in
    let a = c.args in
    let is = sym c.in-Ok.ensures.result_value in
    opened-few _ _ _ is (omega arith) a.table.now read.new.table read.ensures.holds_or_keeps c.policy_of.ensures.0 c.has_conflicting_field.ensures e

-- the table, which was of zeros, is written as its fields are
written : (c : After-read_record) → CanonicalFields c.read_record.new.table
written c = c.read_record.ensures.canonical_fields c.requires.1

pub returns-in-Err-NotRecord : goal.returns-in-Err-NotRecord
returns-in-Err-NotRecord c =
    record { table_after = rw c.in_record.ensures (opened-refused _ _ 8 (sym (rw c.in-Err-NotRecord.field-0-is at c.in-Err-NotRecord.ensures.result_value))); canonical_fields = written (goal.at.returns-in-Err-NotRecord c).After-read_record }

pub returns-in-Err-KeyTwice : goal.returns-in-Err-KeyTwice
returns-in-Err-KeyTwice c =
    record { table_after = rw c.in_record-in-Err-KeyTwice.ensures (opened-refused _ _ 6 (sym (rw c.in-Err-KeyTwice.field-0-is at c.in-Err-KeyTwice.ensures.result_value))); canonical_fields = written (goal.at.returns-in-Err-KeyTwice c).After-read_record }

pub returns-then-n-gt-SLOTS : goal.returns-then-n-gt-SLOTS
returns-then-n-gt-SLOTS c =
    record { table_after = rw c.in_record-then-n-gt-SLOTS.ensures (opened-many _ _ _ (sym c.in-Ok.ensures.result_value) (omega arith)); canonical_fields = written (goal.at.returns-then-n-gt-SLOTS c).After-read_record }

pub returns-then-n-all_quotas : goal.returns-then-n-all_quotas
returns-then-n-all_quotas c =
    record { table_after = rw c.in_record-then-n-all_quotas.ensures (opened-many _ _ _ (sym c.in-Ok.ensures.result_value) (omega arith)); canonical_fields = written (goal.at.returns-then-n-all_quotas c).After-read_record }

pub returns-then-has_conflicting_field : goal.returns-then-has_conflicting_field
unfolding ◌>>◌ refuse◌if◌
returns-then-has_conflicting_field c = record { table_after = rw c.in_record-then-has_conflicting_field.ensures (conflicting (goal.at.returns-then-has_conflicting_field c).After-has_conflicting_field c.if-has_conflicting_field.true); canonical_fields = written (goal.at.returns-then-has_conflicting_field c).After-read_record }

pub returns : goal.returns
unfolding ◌>>◌ refuse◌if◌
returns c = record { table_after = conflicting (goal.at.returns c).After-has_conflicting_field c.if-has_conflicting_field.false; canonical_fields = written (goal.at.returns c).After-read_record }
