use Prim.Native.Nat.{◌+◌}
use borrow.Author.Rules.{rules}
use Rattle.tables.proofs.Policy.{rule-inside}
use Rattle.tables.proofs.Given.{readers-start, readers-end, readers-on, readers-more}
use Rattle.tables.proofs.rights.readers_by.Goals as goal

-- Each turn leaves, for the users whose bit is not set, the question for the lines behind the one that it asked, up to the next that may match.

pub next_line-i-requires : goal.next_line-i-requires
next_line-i-requires c = (search rules, search rules, c.row_count-n.ensures, search rules)

pub loop-i-init : goal.loop-i-init
loop-i-init c =
    let next = c.next_line-i.ensures in (
      c.next_line-i.ensures.lower_bound.1,
      search rules,
      c.requires.found,
      readers-on _ _ _ c.row_count-n.ensures 0 0 (readers-start _ _ _ c.policy_of-policy.ensures.0) _ c.next_line-i.ensures.path_value_2,
      c.next_line-i.ensures.path_value,
    )

pub row_at-rule-requires : goal.row_at-rule-requires
row_at-rule-requires c = rule-inside _ c.row_count-n.ensures c.loop-i.i c.loop-i-test.true (search rules)

pub candidates-able-requires : goal.candidates-able-requires
candidates-able-requires c =
    let may = c.loop-i.invariant.4 c.loop-i-test.true in
    record { steps_slot_in_bounds = (search rules, c.requires.path_slot_in_bounds, c.row_count-users.ensures); path_value = rw (c.rule_path.ensures.result_value, c.row_at-rule.ensures.0) may; found = c.loop-i.invariant.2 }

pub with_readers-mask-requires : goal.with_readers-mask-requires
with_readers-mask-requires c =
    let may = c.loop-i.invariant.4 c.loop-i-test.true in
    record { rule_len = (c.row_at-rule.ensures.1, c.requires.path_slot_in_bounds); path_value = rw c.row_at-rule.ensures.0 may; covers = rw c.rule_path.ensures.result_value at c.candidates-able.ensures.covers }

pub next_line-i-requires-in-loop-i : goal.next_line-i-requires-in-loop-i
next_line-i-requires-in-loop-i c = (search rules, search rules, c.row_count-n.ensures, search rules)

pub loop-i-preserved : goal.loop-i-preserved
loop-i-preserved c =
    let next = c.next_line-i-in-loop-i.ensures in
    let l = c.loop-i in
    let count = c.row_count-n.ensures in
    let asked = readers-more _ _ _ count l.i l.mask l.invariant.3 c.loop-i-test.true c.row_at-rule.ensures.0 _ c.with_readers-mask.ensures in
    (c.next_line-i-in-loop-i.ensures.lower_bound.1, search rules, c.candidates-able.ensures.found_2, readers-on _ _ _ count (l.i + 1) _ asked _ c.next_line-i-in-loop-i.ensures.path_value_2, c.next_line-i-in-loop-i.ensures.path_value)

pub returns : goal.returns
returns c =
    let l = c.loop-i in
    record { value = readers-end _ _ _ c.row_count-n.ensures l.i l.mask l.invariant.3 (search rules) (search rules); found_2 = l.invariant.2 }
