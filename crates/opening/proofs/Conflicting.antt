-- Fields in conflict with a policy: what a loop over the slots has left to ask at each.
use Prim.Native.Nat.{ℕ, ◌+◌, ◌*◌, ◌≤◌, ◌<◌}
use mathlib.Core.Path.{◌≡◌, ◌∙◌}
use mathlib.Core.Bool.{Bool, ◌||◌}
use mathlib.Core.List.{List, []}
use lib.ListN.{length, take, drop}
use lib.Seq.{take_all}
use Rattle.layout.proofs.Used.{table-fit, length-table, row-left, rows-over}
use Rattle.model.specs.Base.{Bytes, any}
use Rattle.model.specs.Limits.{max_fields, max_rules}
use Rattle.model.specs.Fields.{Field}
use Rattle.model.specs.Paths.{Steps, as_steps}
use Rattle.model.specs.Tables.{Rule}
use Rattle.model.specs.Rights.{conflicts_with}
use Rattle.paths.specs.Layout.{path_in}
use Rattle.record.specs.Slots.{slot_bytes, field_in, fields_in}
use Rattle.layout.specs.Layout.{in_use}
use Rattle.tables.specs.Memory.{rule_row, rule_in, policy_in}

-- a field is in conflict with a WRITE line of the policy
abbrev pub conflicts : List Rule → Field → Bool
conflicts rs f = any (conflicts_with (as_steps f.path)) rs

-- a policy in memory has at most 64 lines
all-rules : (s : Bytes) → take max_rules (policy_in s) ≡ policy_in s
unfolding policy_in
all-rules s = take_all max_rules (policy_in s) (table-fit rule_in rule_row max_rules s)

-- n fields were counted
module _ (s : Bytes) {n : ℕ} (counted : n ≡ length (fields_in s)) (i : ℕ) where
  in_use_lem : n ≡ length (in_use slot_bytes max_fields s)
  unfolding fields_in
  in_use_lem = counted ∙ length-table field_in slot_bytes max_fields s

  pub fields-over : n ≤ i → drop i (fields_in s) ≡ []
  unfolding fields_in
  fields-over h = rows-over field_in slot_bytes max_fields s in_use_lem i h

  module _ (below : i < n) where
    -- the field in the slot at i, whose path has the steps q, is in conflict with a policy, or a later one is
    pub conflicts-left : (policy : Bytes) {slot : Bytes} {q : Steps} {r : Bool} → slot ≡ take slot_bytes (drop (i * slot_bytes) s) → q ≡ as_steps (path_in slot)
        → r ≡ any (conflicts_with q) (take max_rules (policy_in policy))
        → any (conflicts (policy_in policy)) (drop i (fields_in s)) ≡ (r || any (conflicts (policy_in policy)) (drop (i + 1) (fields_in s)))
    unfolding any field_in fields_in
    conflicts-left policy is steps t =
        rw (row-left field_in slot_bytes max_fields s in_use_lem i below is, t, all-rules policy, steps)
