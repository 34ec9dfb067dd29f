use mathlib.Core.Path.{◌∙◌}
use Rattle.model.specs.Limits.{max_rules}
use Rattle.layout.specs.Layout.{Canonical}
use Rattle.layout.proofs.Changed.{table-pushed}
use Rattle.layout.proofs.Canonical.{canonical-pushed}
use Rattle.tables.specs.Memory.{rule_row, rule_in, policy_in, encode_rule}
use Rattle.tables.proofs.Pushed.{rule-read, rule-canonical, rule-full}
use borrow.Author.Rules.{rules}
use Rattle.tables.proofs.push.push_rule.Goals as goal

-- The line's row is written, and put behind those in use.

pub push_row-requires : goal.push_row-requires
push_row-requires c =
    (search rules, search rules, rw c.put_rule.ensures (rule-full c.args.role.now c.args.access c.args.steps.now c.requires.1))

pub returns : goal.returns
unfolding policy_in
returns c =
    let push = c.push_row in
    let s = c.args in
    let row = c.put_rule in record {
      policy_after = table-pushed rule_in rule_row max_rules s.policy.now _ _ push.ensures.t_after ∙ rw (row.ensures, rule-read s.role.now s.access s.steps.now);
      keeps = λ steps access.
          let is : Canonical encode_rule rule_in row.new.row = rw row.ensures (rule-canonical s.role.now s.access s.steps.now steps access) in
          canonical-pushed (Canonical encode_rule rule_in) rule_row max_rules is push.ensures.t_after push.ensures.keeps;
    }
