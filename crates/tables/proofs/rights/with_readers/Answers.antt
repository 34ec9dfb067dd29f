use mathlib.Core.Path.{refl, sym, ◌∙◌}
use mathlib.Core.Bool.{not}
use borrow.Author.Rules.{rules}
use lib.Dec.{eqb}
use Rattle.model.proofs.Lists.{and_both}
use Rattle.masks.specs.Bits.{bit_at}
use Rattle.masks.proofs.Bits.{asked-end, marked-now, marked-not}
use Rattle.tables.proofs.Users.{user-inside, user-below}
use Rattle.tables.proofs.Given.{readers-able, readers-next}
use Rattle.tables.proofs.rights.with_readers.Goals.{then-gives_read, else-gives_read}
use Rattle.tables.proofs.rights.with_readers.Goals as goal

-- Each turn asks one user of the mask, who is then no longer left.

pub loop-rest-init : goal.loop-rest-init
loop-rest-init c =
    let covers = c.requires.covers in
    let rest = c.difference-rest.ensures in (
      λ k is. covers.users k (and_both (bit_at c.args.able k) (not (bit_at c.args.mask k)) (sym (rest k) ∙ is)).0,
      readers-able _ _ _ _ _ _ covers rest,
    )

pub row_at-requires : goal.row_at-requires
row_at-requires c =
    let f = c.first_bit-j in
    user-inside _ refl f.result (user-below _ _ (c.loop-rest.invariant.0 _ f.ensures.1)) (search rules)

pub gives_read-requires : goal.gives_read-requires
gives_read-requires c = record { rule_len = search rules; path_value = c.requires.path_value }

pub without_bit-rest-requires : goal.without_bit-rest-requires
without_bit-rest-requires c = let f = c.first_bit-j in (f.ensures.0, f.ensures.1)

pub loop-rest-smaller : goal.loop-rest-smaller
loop-rest-smaller c = c.without_bit-rest.ensures.0

pub returns : goal.returns
returns c = let l = c.loop-rest in asked-end _ _ l.rest l.marked l.invariant.1 (search rules)

pub loop-rest-preserved : goal.loop-rest-preserved
loop-rest-preserved c =
    let f = c.first_bit-j in
    let l = c.loop-rest in
    let below = l.invariant.0 _ f.ensures.1 in
    let told = c.gives_read.ensures in
    let next = readers-next _ _ _ _ l.rest l.marked l.invariant.1 f.result below c.row_at.ensures.0 _ f.ensures.1 c.without_bit-rest.ensures.1 in (
      λ i is. l.invariant.0 i (and_both (not (eqb i f.result)) (bit_at l.rest i) (sym (c.without_bit-rest.ensures.1 i) ∙ is)).1,
      elim c.if-gives_read.branch [
        | then-gives_read w ↦ rw w.marked-is (next _ (λ i. w.with_bit-marked.ensures i ∙ marked-now _ _ i _ (sym told ∙ w.if-gives_read.true)))
        | else-gives_read w ↦ rw w.marked-is (next _ (λ i. marked-not _ _ i _ (sym told ∙ w.if-gives_read.false)))
      ],
    )
