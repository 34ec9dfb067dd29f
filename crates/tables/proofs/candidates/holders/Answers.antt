use mathlib.Core.Path.{◌∙◌}
use borrow.Author.Rules.{rules}
use Rattle.model.specs.Limits.{max_users}
use Rattle.masks.proofs.Bits.{below-start, marked-now, marked-not}
use Rattle.layout.proofs.Used.{counted-fit}
use Rattle.tables.specs.Memory.{user_row}
use Rattle.tables.proofs.Users.{user-inside}
use Rattle.tables.proofs.Held.{holder-next, holders-end}
use Rattle.tables.proofs.candidates.holders.Goals.{then-has_value, else-has_value}
use Rattle.tables.proofs.candidates.holders.Goals as goal

-- Each turn asks one user more.

pub loop-j-init : goal.loop-j-init
loop-j-init c = below-start _

pub row_at-requires : goal.row_at-requires
row_at-requires c = user-inside _ c.requires c.loop-j.j c.loop-j-test.true (search rules)

pub with_bit-held-requires : goal.with_bit-held-requires
with_bit-held-requires c =
    let fit = counted-fit user_row max_users c.args.tables.now c.requires in
    search rules

pub returns : goal.returns
returns c =
    let l = c.loop-j in
    holders-end _ _ c.requires l.j l.held l.invariant (search rules)

pub loop-j-preserved : goal.loop-j-preserved
loop-j-preserved c =
    let l = c.loop-j in
    let count = c.requires in
    let test = c.loop-j-test.true in
    let said = rw c.bindings.ensures.result_value at c.has_value.ensures in
    let next = holder-next _ _ count l.j l.held l.invariant test c.row_at.ensures.0 said in
    elim c.if-has_value.branch [
      | then-has_value w ↦ rw w.held-is (next _ (λ i. w.with_bit-held.ensures i ∙ marked-now _ _ i _ w.if-has_value.true))
      | else-has_value w ↦ rw w.held-is (next _ (λ i. marked-not _ _ i _ w.if-has_value.false))
    ]
