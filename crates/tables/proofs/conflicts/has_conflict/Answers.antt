use Prim.Native.Nat.{◌+◌, ◌-◌}
use mathlib.Core.Path.{◌≡◌, sym, ◌∙◌}
use mathlib.Core.Bool.{◌&&◌, ◌||◌}
use native.Mathlib.Omega.{arith}
use lib.ListN.{take, drop}
use lib.Seq.{take-nil}
use lib.Dec.{ltb}
use borrow.Author.Tests.{ltb-true, ltb-false}
use borrow.Author.Rules.{rules}
use Rattle.model.proofs.Lists.{by_cases}
use Rattle.model.specs.Base.{any}
use Rattle.model.specs.Rights.{conflict, conflicts_with}
use Rattle.steps.specs.Steps.{steps_in}
use Rattle.tables.specs.Memory.{rule_in, policy_in}
use Rattle.tables.proofs.Policy.{rule-inside, conflict-rule, rules-over}
use Rattle.tables.proofs.conflicts.has_conflict.Goals.{After-is_write, else-is_write-via-then-is_write+else-conflict, else-is_write-via-else-is_write}
use Rattle.tables.proofs.conflicts.has_conflict.Goals as goal

-- Each turn leaves the question for the lines behind the one that it asked, as many fewer of the first n.

-- a turn: the line in the row at i is in conflict with the path, or a later one is
turn : (c : After-is_write)
    → let i = c.loop-i.i in
    let a = c.args in
    let row = c.row_at-rule.result.now in
    any (conflicts_with (steps_in a.steps.now)) (take a.n (policy_in a.policy.now))
    ≡ ((c.is_write.result && conflict (steps_in a.steps.now) (rule_in row).path)
    || any (conflicts_with (steps_in a.steps.now)) (take (a.n - (i + 1)) (drop (i + 1) (policy_in a.policy.now))))
turn c =
    let l = c.loop-i in
    l.invariant
    ∙ conflict-rule _ c.row_count.ensures l.i (omega arith) c.row_at-rule.ensures.0 c.is_write.ensures _ _
    (search rules)

pub row_at-rule-requires : goal.row_at-rule-requires
row_at-rule-requires c = rule-inside _ c.row_count.ensures c.loop-i.i (omega arith) (search rules)

pub returns-then-conflict : goal.returns-then-conflict
returns-then-conflict c =
    sym (turn (goal.at.returns-then-conflict c).After-is_write ∙ rw (c.if-is_write.true, ← c.rule_path.ensures.result_value, ← c.conflict.ensures, c.if-conflict.true))

pub loop-i-preserved : goal.loop-i-preserved
loop-i-preserved c =
    turn (goal.at.loop-i-preserved c).After-is_write ∙ elim c.else-is_write.branch [
      | else-is_write-via-then-is_write+else-conflict w ↦ rw (w.if-is_write.true, ← w.rule_path.ensures.result_value, ← w.conflict.ensures, w.if-conflict.false)
      | else-is_write-via-else-is_write w ↦ rw w.if-is_write.false
    ]

-- either the first n lines are asked, or all
pub returns : goal.returns
unfolding any
returns c =
    let l = c.loop-i in
    let n = c.args.n in
    sym (l.invariant ∙ by_cases (ltb l.i n)
    (λ t. let below = ltb-true l.i n t in rw (rules-over _ c.row_count.ensures l.i (omega arith), take-nil))
    (λ f. let past = ltb-false l.i n f in let e : n - l.i ≡ 0 = omega arith in rw e))
