use Rattle.std.specs.Prelude.{if◌then◌else◌}
use Prim.Native.Nat.{◌+◌}
use mathlib.Core.Path.{◌≡◌, ◌∙◌}
use mathlib.Core.Bool.{◌&&◌}
use Rattle.std.specs.Prelude.{Some}
use mathlib.Core.List.{[]}
use native.Mathlib.Omega.{arith}
use lib.ListN.{take, drop}
use borrow.Author.Rules.{rules}
use Rattle.model.specs.Base.{any}
use Rattle.model.specs.Rights.{conflicts_with}
use Rattle.model.specs.Opening.{conflict_from}
use Rattle.tables.specs.Memory.{rule_in, policy_in}
use Rattle.tables.proofs.Policy.{rule-inside, conflict-from, rules-over}
use Rattle.tables.proofs.conflicts.first_conflict.Goals.{After-is_write, else-is_write-via-then-is_write+else-has_conflict, else-is_write-via-else-is_write}
use Rattle.tables.proofs.conflicts.first_conflict.Goals as goal

-- Each turn leaves the question for the lines behind the one that it asked, with the lines up to there before them.

-- a turn: the line in the row at i is the first, or a later one is
turn : (c : After-is_write)
    → let i = c.loop-i.i in
    let p = policy_in c.args.policy.now in
    let row = c.row_at-rule.result.now in
    conflict_from 2 [] p
    ≡ (if c.is_write.result && any (conflicts_with (rule_in row).path) (take i p) then Some (i + 2)
    else conflict_from (i + 1 + 2) (take (i + 1) p) (drop (i + 1) p))
turn c =
    let l = c.loop-i in
    l.invariant
    ∙ conflict-from _ c.row_count-n.ensures l.i c.loop-i-test.true c.row_at-rule.ensures.0 c.is_write.ensures

pub row_at-rule-requires : goal.row_at-rule-requires
row_at-rule-requires c = rule-inside _ c.row_count-n.ensures c.loop-i.i c.loop-i-test.true (search rules)

pub overflow_add-result : goal.overflow_add-result
overflow_add-result c =
    omega (arith, rule-inside _ c.row_count-n.ensures c.loop-i.i c.loop-i-test.true (search rules))

pub returns-then-has_conflict : goal.returns-then-has_conflict
returns-then-has_conflict c =
    rw (turn (goal.at.returns-then-has_conflict c).After-is_write, c.if-is_write.true, ← c.rule_path.ensures.result_value, ← c.has_conflict.ensures, c.if-has_conflict.true)

pub returns : goal.returns
unfolding conflict_from
returns c = let l = c.loop-i in rw (l.invariant, rules-over _ c.row_count-n.ensures l.i (search rules))

pub loop-i-preserved : goal.loop-i-preserved
loop-i-preserved c =
    turn (goal.at.loop-i-preserved c).After-is_write ∙ elim c.else-is_write.branch [
      | else-is_write-via-then-is_write+else-has_conflict w ↦ rw (w.if-is_write.true, ← w.rule_path.ensures.result_value, ← w.has_conflict.ensures, w.if-has_conflict.false)
      | else-is_write-via-else-is_write w ↦ rw w.if-is_write.false
    ]
