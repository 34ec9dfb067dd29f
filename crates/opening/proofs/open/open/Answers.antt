use mathlib.Core.Path.{refl}
use Rattle.std.proofs.lemmas.Result.{err_from_is_err_and}
use Rattle.opening.specs.Memory.{arrays}
use Rattle.opening.proofs.AllOpened.{users-long, environments-long, policy-long, record-long, lengths, tables-refused, record-refused, opened-done, refusal, acceptance}
use Rattle.opening.proofs.open.open.Goals as goal

-- A refusal returns before the lent arrays are written; an opening that nothing refuses writes all three at its end.

pub returns-in_err-check_length : goal.returns-in_err-check_length
returns-in_err-check_length c =
    let a = c.args in
    let p = err_from_is_err_and _ c.from_residual.ensures.1 in
    refusal _ (arrays a.tables.now a.logins.now a.fields.now) p.1 p.2
    (users-long _ _ _ _ _ c.check_length.ensures c.in_err-check_length.was)

pub returns-in_err-check_length-2 : goal.returns-in_err-check_length-2
returns-in_err-check_length-2 c =
    let a = c.args in
    let p = err_from_is_err_and _ c.from_residual-in_err-check_length-2.ensures.1 in
    refusal _ (arrays a.tables.now a.logins.now a.fields.now) p.1 p.2
    (environments-long _ _ _ _ _ c.check_length.ensures c.in_ok-check_length.was _ c.check_length-2.ensures c.in_err-check_length-2.was)

pub returns-in_err-check_length-3 : goal.returns-in_err-check_length-3
returns-in_err-check_length-3 c =
    let a = c.args in
    let p = err_from_is_err_and _ c.from_residual-in_err-check_length-3.ensures.1 in
    refusal _ (arrays a.tables.now a.logins.now a.fields.now) p.1 p.2
    (policy-long _ _ _ _ _ c.check_length.ensures c.in_ok-check_length.was _ c.check_length-2.ensures c.in_ok-check_length-2.was _ c.check_length-3.ensures c.in_err-check_length-3.was)

pub returns-in_err-check_length-4 : goal.returns-in_err-check_length-4
returns-in_err-check_length-4 c =
    let a = c.args in
    let p = err_from_is_err_and _ c.from_residual-in_err-check_length-4.ensures.1 in
    refusal _ (arrays a.tables.now a.logins.now a.fields.now) p.1 p.2
    (record-long _ _ _ _ _ c.check_length.ensures c.in_ok-check_length.was _ c.check_length-2.ensures c.in_ok-check_length-2.was _ c.check_length-3.ensures c.in_ok-check_length-3.was _ c.check_length-4.ensures c.in_err-check_length-4.was)

pub open_tables-requires : goal.open_tables-requires
open_tables-requires c =
    let (u, e, p, r) = lengths _ _ _ _ _ c.check_length.ensures c.in_ok-check_length.was _ c.check_length-2.ensures c.in_ok-check_length-2.was _ c.check_length-3.ensures c.in_ok-check_length-3.was _ c.check_length-4.ensures c.in_ok-check_length-4.was in
    record { users_len_bound = (u, e, p); tables_value = refl }

pub returns-in_err-open_tables : goal.returns-in_err-open_tables
returns-in_err-open_tables c =
    let a = c.args in
    let p = err_from_is_err_and _ c.from_residual-in_err-open_tables.ensures.1 in
    refusal _ (arrays a.tables.now a.logins.now a.fields.now) p.1 p.2
    (tables-refused _ _ _ _ _ c.check_length.ensures c.in_ok-check_length.was _ c.check_length-2.ensures c.in_ok-check_length-2.was _ c.check_length-3.ensures c.in_ok-check_length-3.was _ c.check_length-4.ensures c.in_ok-check_length-4.was _ _ c.open_tables.ensures.tables_after c.in_err-open_tables.was)

pub open_record-requires : goal.open_record-requires
open_record-requires c =
    ((lengths _ _ _ _ _ c.check_length.ensures c.in_ok-check_length.was _ c.check_length-2.ensures c.in_ok-check_length-2.was _ c.check_length-3.ensures c.in_ok-check_length-3.was _ c.check_length-4.ensures c.in_ok-check_length-4.was).3, refl)

pub returns-in_err-open_record : goal.returns-in_err-open_record
returns-in_err-open_record c =
    let a = c.args in
    let p = err_from_is_err_and _ c.from_residual-in_err-open_record.ensures.1 in
    refusal _ (arrays a.tables.now a.logins.now a.fields.now) p.1 p.2
    (record-refused _ _ _ _ _ c.check_length.ensures c.in_ok-check_length.was _ c.check_length-2.ensures c.in_ok-check_length-2.was _ c.check_length-3.ensures c.in_ok-check_length-3.was _ c.check_length-4.ensures c.in_ok-check_length-4.was _ _ c.open_tables.ensures.tables_after c.in_ok-open_tables.was _ _ c.open_record.ensures.table_after c.in_err-open_record.was)

pub returns : goal.returns
returns c =
    let same = c.set_masks.ensures.table_unchanged in
    let done = opened-done _ _ _ _ _ c.check_length.ensures c.in_ok-check_length.was _ c.check_length-2.ensures c.in_ok-check_length-2.was _ c.check_length-3.ensures c.in_ok-check_length-3.was _ c.check_length-4.ensures c.in_ok-check_length-4.was
    _ _ c.open_tables.ensures.tables_after c.in_ok-open_tables.was _ _ c.open_record.ensures.table_after c.in_ok-open_record.was in
    rw (c.copy_tables.ensures, c.copy_fields.ensures)
    (acceptance _ _ _ _ (rw (← same) at done) c.open_tables.ensures.canonical_tables (c.set_masks.ensures.keeps c.open_record.ensures.canonical_fields) (rw (← same) at c.set_masks.ensures.agreed))
