-- The lines of a policy in memory: what a loop over their rows has left to ask at each.
use Rattle.std.specs.Prelude.{if◌then◌else◌}
use Prim.Native.Nat.{ℕ, suc, ◌+◌, ◌*◌, ◌-◌, ◌≤◌, ◌<◌}
use mathlib.Core.Path.{◌≡◌}
use mathlib.Core.Bool.{Bool, ◌&&◌, ◌||◌}
use Rattle.std.specs.Prelude.{Some}
use mathlib.Core.List.{[], ◌∷◌}
use native.Mathlib.Omega.{arith}
use lib.ListN.{length, take, drop}
use Rattle.model.specs.Base.{Bytes, any}
use Rattle.model.specs.Limits.{max_rules}
use Rattle.model.specs.Paths.{Steps}
use Rattle.model.specs.Tables.{Rule}
use Rattle.model.specs.Rights.{is_write, conflict, conflicts_with}
use Rattle.model.specs.Opening.{conflict_from}
use Rattle.layout.specs.Layout.{in_use}
use Rattle.tables.specs.Memory.{rule_row, policy_bytes, rule_in, policy_in}
use Rattle.layout.proofs.Used.{used-fit, row-left, row_more, rows-over}

-- m rows were counted
module _ (s : Bytes) {m : ℕ} (counted : m ≡ length (in_use rule_row max_rules s)) (i : ℕ) where
  pub rules-over : m ≤ i → drop i (policy_in s) ≡ []
  unfolding policy_in
  rules-over h = rows-over rule_in rule_row max_rules s counted i h

  module _ (below : i < m) where
    pub rule-inside : length s ≡ policy_bytes → i * rule_row + rule_row ≤ length s
    rule-inside h = omega (arith, counted, used-fit rule_row max_rules s)

    -- the line in the row at i
    module _ {row : Bytes} (is : row ≡ take rule_row (drop (i * rule_row) s)) where
      pub rule-left : drop i (policy_in s) ≡ rule_in row ∷ drop (i + 1) (policy_in s)
      unfolding policy_in
      rule-left = row-left rule_in rule_row max_rules s counted i below is

      -- it passes a test, or a later line does
      pub any-rule : (p : Rule → Bool) {r : Bool} → r ≡ p (rule_in row)
          → any p (drop i (policy_in s)) ≡ (r || any p (drop (i + 1) (policy_in s)))
      unfolding any
      any-rule p t = rw (rule-left, t)

      -- w says whether it is of the kind WRITE
      module _ {w : Bool} (kind : w ≡ is_write (rule_in row)) where
        -- it is in conflict with the path q, or a later one of the first n lines is
        pub conflict-rule : (q : Steps) (n : ℕ) → i < n
            → any (conflicts_with q) (take (n - i) (drop i (policy_in s)))
            ≡ ((w && conflict q (rule_in row).path) || any (conflicts_with q) (take (n - (i + 1)) (drop (i + 1) (policy_in s))))
        unfolding any conflicts_with
        conflict-rule q n h =
            let e : n - i ≡ suc (n - (i + 1)) = omega arith in
            rw (kind, e, rule-left)

        -- it is the first that is in conflict with an earlier one, or a later line is
        pub conflict-from : conflict_from (i + 2) (take i (policy_in s)) (drop i (policy_in s))
            ≡ (if w && any (conflicts_with (rule_in row).path) (take i (policy_in s)) then Some (i + 2)
            else conflict_from (i + 1 + 2) (take (i + 1) (policy_in s)) (drop (i + 1) (policy_in s)))
        unfolding conflict_from policy_in
        conflict-from =
            let e : suc (i + 2) ≡ i + 1 + 2 = omega arith in
            rw (kind, rule-left, e, row_more rule_in rule_row max_rules s counted i below is)
