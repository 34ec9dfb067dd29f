use mathlib.Core.Path.{◌≡◌}
use Rattle.std.proofs.lemmas.Result.{err_from_is_err_and}
use Rattle.tables.specs.Memory.{tables_in}
use Rattle.tables.proofs.Encoded.{tables-none}
use Rattle.opening.proofs.Zeros.{no-tables}
use Rattle.opening.proofs.TablesOpened.{no_tables, users-refused, environments-refused, policy-refused, in-conflict, accepted}
use Rattle.opening.proofs.texts.open_tables.Goals.{After-read_table}
use Rattle.opening.proofs.texts.open_tables.Goals as goal

-- Each return answers what `open_tables` says, in its order: the first text that is refused, a conflict in the policy, and the tables that the memory holds.
-- Memory of zeros is written as the tables that it holds, and each text keeps it so.

-- memory of zeros holds no tables
start : (c : After-read_table) → tables_in c.args.tables.now ≡ no_tables
start c = rw c.requires.tables_value no-tables

pub returns-in_err-in_text : goal.returns-in_err-in_text
returns-in_err-in_text c =
    let zeros = start (goal.at.returns-in_err-in_text c).After-read_table in
    let p = err_from_is_err_and c.from_residual.result c.from_residual.ensures.1 in
    record {
      tables_after = rw (p.1, p.2) (users-refused _ _ _ zeros _ c.read_table.ensures.reads_table _ c.in_text.ensures c.in_err-in_text.was);
      canonical_tables = c.read_table.ensures.keeps (tables-none c.requires.tables_value);
    }

pub returns-in_err-in_text-2 : goal.returns-in_err-in_text-2
returns-in_err-in_text-2 c =
    let zeros = start (goal.at.returns-in_err-in_text-2 c).After-read_table in
    let p = err_from_is_err_and c.from_residual-in_err-in_text-2.result c.from_residual-in_err-in_text-2.ensures.1 in
    record {
      tables_after = rw (p.1, p.2) (environments-refused _ _ _ zeros _ c.read_table.ensures.reads_table _ c.in_text.ensures c.in_ok-in_text.was _ c.read_table-2.ensures.reads_table _ c.in_text-2.ensures c.in_err-in_text-2.was);
      canonical_tables = c.read_table-2.ensures.keeps (c.read_table.ensures.keeps (tables-none c.requires.tables_value));
    }

pub returns-in_err-in_text-3 : goal.returns-in_err-in_text-3
returns-in_err-in_text-3 c =
    let zeros = start (goal.at.returns-in_err-in_text-3 c).After-read_table in
    let p = err_from_is_err_and c.from_residual-in_err-in_text-3.result c.from_residual-in_err-in_text-3.ensures.1 in
    record {
      tables_after = rw (p.1, p.2) (policy-refused _ _ _ zeros _ c.read_table.ensures.reads_table _ c.in_text.ensures c.in_ok-in_text.was _ c.read_table-2.ensures.reads_table _ c.in_text-2.ensures c.in_ok-in_text-2.was _ _ c.read_table-3.ensures.reads_table _ c.in_text-3.ensures c.in_err-in_text-3.was);
      canonical_tables = c.read_table-3.ensures.keeps (c.read_table-2.ensures.keeps (c.read_table.ensures.keeps (tables-none c.requires.tables_value)));
    }

pub returns-in-Some : goal.returns-in-Some
returns-in-Some c =
    let zeros = start (goal.at.returns-in-Some c).After-read_table in
    record {
      tables_after = in-conflict _ _ _ zeros _ c.read_table.ensures.reads_table _ c.in_text.ensures c.in_ok-in_text.was _ c.read_table-2.ensures.reads_table _ c.in_text-2.ensures c.in_ok-in_text-2.was _ _ c.read_table-3.ensures.reads_table _ c.in_text-3.ensures c.in_ok-in_text-3.was c.conflict_in.ensures c.in-Some.is;
      canonical_tables = c.read_table-3.ensures.keeps (c.read_table-2.ensures.keeps (c.read_table.ensures.keeps (tables-none c.requires.tables_value)));
    }

pub returns : goal.returns
returns c =
    let zeros = start (goal.at.returns c).After-read_table in
    record {
      tables_after = accepted _ _ _ zeros _ c.read_table.ensures.reads_table _ c.in_text.ensures c.in_ok-in_text.was _ c.read_table-2.ensures.reads_table _ c.in_text-2.ensures c.in_ok-in_text-2.was _ _ c.read_table-3.ensures.reads_table _ c.in_text-3.ensures c.in_ok-in_text-3.was c.conflict_in.ensures c.in_default.is;
      canonical_tables = c.read_table-3.ensures.keeps (c.read_table-2.ensures.keeps (c.read_table.ensures.keeps (tables-none c.requires.tables_value)));
    }
