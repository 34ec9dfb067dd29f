use Prim.Native.Nat.{◌+◌, ◌≤◌}
use mathlib.Core.Path.{◌≡◌, ◌∙◌}
use mathlib.Core.List.{◌++◌}
use native.Mathlib.Omega.{arith}
use lib.ListN.{length, length-take}
use borrow.Author.Rules.{rules}
use Rattle.rows.specs.Rows.{Wrote}
use Rattle.model.specs.Base.{text}
use Rattle.buffers.proofs.Writers.{wrote-both}
use Rattle.layout.proofs.Named.{name-length}
use Rattle.tables.specs.Memory.{user_in, rule_in}
use Rattle.copies.proofs.Lines.{access_part, rule-line, access-part}
use Rattle.model.specs.Limits.{max_name}
use Rattle.copies.proofs.put_rule_line.Goals.{Joined-is_write, then-is_write, else-is_write}
use Rattle.copies.proofs.put_rule_line.Goals as goal

-- The user's role, the access between two `;`, the path and the end of the line are written one behind the other.

-- where the ways meet, the role and the access are written
met : (c : Joined-is_write)
    → let a = c.args in
    (c.if-is_write.to ≤ a.at + 7 + max_name) × (length c.if-is_write.out ≡ length a.out.now)
    × Wrote a.at ((user_in a.user.now).role ++ access_part (rule_in a.rule.now).access) a.out.now c.if-is_write.to c.if-is_write.out
unfolding user_in text
met c =
    let a = c.args in
    let name = c.name_from.ensures in
    let k = name-length max_name _ name (simp length-take (omega arith)) in
    let put = c.put-to in
    let role = rw name at put.ensures in
    let part = access-part (rule_in a.rule.now) c.is_write.ensures in
    elim c.if-is_write.branch [
      | then-is_write w ↦ let access = w.put-to-then-is_write in
          rw (w.to-is, w.out-is, part, w.if-is_write.true) (omega (arith, access.ensures.0, put.ensures.0), access.auto.out ∙ put.auto.out, wrote-both _ _ _ _ _ _ _ _ role access.ensures)
      | else-is_write w ↦ let access = w.put-to-else-is_write in
          rw (w.to-is, w.out-is, part, w.if-is_write.false) (omega (arith, access.ensures.0, put.ensures.0), access.auto.out ∙ put.auto.out, wrote-both _ _ _ _ _ _ _ _ role access.ensures)
    ]

pub put-to-requires : goal.put-to-requires
put-to-requires c = let k = name-length max_name _ c.name_from.ensures (simp length-take (omega arith)) in omega arith

pub put-to-requires-then-is_write : goal.put-to-requires-then-is_write
put-to-requires-then-is_write c = let k = name-length max_name _ c.name_from.ensures (simp length-take (omega arith)) in omega arith

pub put-to-requires-else-is_write : goal.put-to-requires-else-is_write
put-to-requires-else-is_write c = let k = name-length max_name _ c.name_from.ensures (simp length-take (omega arith)) in omega arith

pub put_steps-to-requires : goal.put_steps-to-requires
put_steps-to-requires c = let m = met (goal.at.put_steps-to-requires c).Joined-is_write in search rules

pub put_byte-requires : goal.put_byte-requires
put_byte-requires c = let m = met (goal.at.put_byte-requires c).Joined-is_write in omega arith

pub shape_of-out : goal.shape_of-out
shape_of-out c = let m = met (goal.at.shape_of-out c).Joined-is_write in search rules

pub returns : goal.returns
unfolding rule_in text
returns c =
    let m = met (goal.at.returns c).Joined-is_write in
    let steps = rw c.rule_path.ensures.result_value at c.put_steps-to.ensures.wrote in
    let end = wrote-both _ _ _ _ _ _ _ _ steps c.put_byte.ensures in
    record { wrote = rw rule-line (wrote-both _ _ _ _ _ _ _ _ m.2 end); upper_bound = omega arith }
