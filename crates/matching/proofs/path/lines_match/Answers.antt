use native.Mathlib.Omega.{arith}
use Rattle.matching.proofs.path.lines_match.Goals.{After-count-n}
use Prim.Native.Nat.{min}
use lib.ListN.{get_or}
use Rattle.model.specs.Limits.{max_depth}
use mathlib.Core.Path.{◌≡◌, sym, ◌∙◌}
use borrow.Author.Rules.{rules}
use Rattle.matching.specs.Parts.{may_match}
use Rattle.matching.proofs.Matched.{paired-counts, paired-step, paired-end, matches-parts}
use Rattle.matching.proofs.path.lines_match.Goals as goal

-- Both paths are equally long, since the one may match the other; each turn leaves the question for what stands behind a step that is met.

equal : (c : After-count-n) → c.count-n.result ≡ min (get_or c.args.slot.now 0 0) max_depth
unfolding may_match
equal c = c.count-n.ensures ∙ sym (paired-counts _ _ _ c.requires.slot_value)

pub loop-i-init : goal.loop-i-init
loop-i-init c = matches-parts _ _ _ ∙ rw c.requires.slot_value

pub is_met-requires : goal.is_met-requires
is_met-requires c = (search rules, c.row_at.ensures.1)

pub key_at-requires : goal.key_at-requires
key_at-requires c = let even = equal (goal.at.key_at-requires c).After-count-n in omega arith

pub returns-then-not-is_met : goal.returns-then-not-is_met
returns-then-not-is_met c =
    let l = c.loop-i in
    let even = equal (goal.at.returns-then-not-is_met c).After-count-n in
    sym (l.invariant ∙ paired-step _ _ _ l.i (search rules) (omega arith) c.row_at.ensures.0 c.key_at.ensures c.is_met.ensures ∙ rw c.if-not-is_met.true)

pub loop-i-preserved : goal.loop-i-preserved
loop-i-preserved c =
    let l = c.loop-i in
    let even = equal (goal.at.loop-i-preserved c).After-count-n in
    l.invariant ∙ paired-step _ _ _ l.i (search rules) (omega arith) c.row_at.ensures.0 c.key_at.ensures c.is_met.ensures ∙ rw c.if-not-is_met.false

pub returns : goal.returns
returns c =
    let l = c.loop-i in
    let even = equal (goal.at.returns c).After-count-n in
    sym (l.invariant ∙ paired-end _ _ _ l.i (search rules) (omega arith))
