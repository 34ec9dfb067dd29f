use Prim.Native.Nat.{◌+◌, ◌*◌, ◌≤◌}
use mathlib.Core.Path.{◌≡◌}
use lib.ListN.{length}
use Rattle.copies.specs.Heads.{rule_text}
use Rattle.tables.specs.Memory.{user_in}
use Rattle.writer.proofs.Remains.{Remains}
use Rattle.copies.proofs.Lines.{rules_from}
use Rattle.copies.proofs.put_rules.Given as goal

abbrev pub invariant-loop-i : goal.invariant-loop-i
invariant-loop-i l =
    (l.to ≤ l.at + rule_text * l.i) × (length l.out ≡ length l.initial.out)
    × Remains l.at (rules_from (user_in l.user) l.policy 0) l.initial.out l.to (rules_from (user_in l.user) l.policy l.i) l.out
