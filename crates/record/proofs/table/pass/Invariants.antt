use Rattle.std.proofs.Common.{true}
use Rattle.std.specs.Fn.{FnReturnsAt}
use Rattle.model.specs.Fields.{Keys}
use Rattle.record.specs.Slots.{fields_in}
use Rattle.record.specs.Search.{PutsBehind, SearchedTo}
use Rattle.record.proofs.table.pass.Given as goal

abbrev pub invariant-loop-i : goal.invariant-loop-i
invariant-loop-i g l = (p : Keys) → PutsBehind (λ k. FnReturnsAt g.F.Fn l.is_before k true) p → SearchedTo l.fn.from p (fields_in l.table) → SearchedTo l.i p (fields_in l.table)
