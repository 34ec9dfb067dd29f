use mathlib.Core.Path.{◌≡◌, sym, ◌∙◌}
use native.Mathlib.Omega.{arith}
use borrow.Author.Rules.{rules}
use Rattle.model.specs.Limits.{max_fields}
use Rattle.record.proofs.Search.{searched-on}
use Rattle.record.proofs.Stores.{fields_fit}
use Rattle.record.proofs.table.pass.Goals as goal

-- Each slot whose first key passes stands before the path, and leaves the search from the next slot on.

pub loop-i-preserved : goal.loop-i-preserved
loop-i-preserved g c = λ p before start.
    let l = c.loop-i in
    let come = l.invariant p before start in
    let full = sym c.is_empty.ensures ∙ c.if-is_empty.false in
    searched-on _ l.i c.slot_at-slot.ensures.0 (search rules) come.0 p full (before c.slot_at-slot.result.now full (search rules)) come.1

pub returns : goal.returns
returns g c = λ p before start.
    let come = c.loop-i.invariant p before start in
    let end : c.loop-i.i ≡ max_fields = omega (arith, come.0, fields_fit c.args.table.now) in
    rw end at come
