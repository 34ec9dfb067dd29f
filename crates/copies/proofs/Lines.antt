-- The lines of a copy: how each is written piece by piece, and what a loop over them has left to write.
use Rattle.std.specs.Prelude.{if◌then◌else◌}
use Prim.Native.Nat.{ℕ, ◌+◌, ◌*◌, ◌≤◌, ◌<◌}
use mathlib.Core.Path.{◌≡◌, refl}
use mathlib.Core.Bool.{Bool, true, false}
use mathlib.Core.List.{List, [], ◌++◌, map, append_assoc, append-nil}
use native.Mathlib.Omega.{arith}
use lib.ListN.{length, take, drop}
use lib.Seq.{take-take}
use Rattle.rows.proofs.Parts.{part-part}
use Rattle.model.specs.Base.{Bytes, text, keep, joined, between}
use Rattle.model.specs.Limits.{max_rules, max_bindings}
use Rattle.model.specs.Fields.{Fields}
use Rattle.model.specs.SavedText.{saved}
use Rattle.model.specs.Paths.{steps_text}
use Rattle.model.specs.Tables.{User, Access, READ, WRITE, Rule}
use Rattle.model.specs.Rights.{is_writing, is_write, is_for}
use Rattle.model.specs.Serving.{access_text, table_line, rule_line, binding_line, copy_of}
use Rattle.model.proofs.Lists.{keep-yes, keep-no}
use Rattle.layout.specs.Layout.{in_use, name_row, key_row, name_in}
use Rattle.steps.specs.Environments.{binding_row, binding_in, bindings_in}
use Rattle.tables.specs.Memory.{rule_row, rule_in, policy_in}
use Rattle.copies.specs.Heads.{head_of}
use Rattle.layout.proofs.Used.{row-left, rows-over}
use Rattle.tables.proofs.Policy.{rule-left, rules-over}

-- ── A policy line ──
-- what stands between the role and the path
unfoldable pub access_part : Access → Bytes
access_part a = text ";" ++ (access_text a ++ text ";")

access-told : (a : Access) → access_part a ≡ (if is_writing a then text ";WRITE;" else text ";READ;")
unfolding access_part access_text is_writing text
access-told READ = refl
access-told WRITE = refl

module _ (r : Rule) where
  -- w says whether the line is of the kind WRITE
  pub access-part : {w : Bool} → w ≡ is_write r → access_part r.access ≡ (if w then text ";WRITE;" else text ";READ;")
  unfolding is_write
  access-part e = rw e (access-told r.access)

  pub rule-line : (u : User) → rule_line u r ≡ (u.role ++ access_part r.access) ++ (steps_text r.path ++ text "\n")
  unfolding rule_line table_line between access_part
  rule-line u = simp append_assoc

-- ── The policy lines of a user, from the row i on ──
abbrev pub rules_from : User → Bytes → ℕ → Bytes
rules_from u s i = joined (map (rule_line u) (keep (is_for u) (drop i (policy_in s))))

-- m rows were counted
module _ (u : User) (s : Bytes) {m : ℕ} (counted : m ≡ length (in_use rule_row max_rules s)) (i : ℕ) where
  -- the line in the row at i is the user's, or it is not
  module _ (below : i < m) {row : Bytes} (is : row ≡ take rule_row (drop (i * rule_row) s)) where
    pub rules-yes : is_for u (rule_in row) ≡ true → rules_from u s i ≡ rule_line u (rule_in row) ++ rules_from u s (i + 1)
    unfolding joined
    rules-yes y = rw (rule-left s counted i below is, keep-yes (is_for u) (rule_in row) (drop (i + 1) (policy_in s)) y)

    pub rules-no : is_for u (rule_in row) ≡ false → rules_from u s i ≡ rules_from u s (i + 1)
    rules-no n = rw (rule-left s counted i below is, keep-no (is_for u) (rule_in row) (drop (i + 1) (policy_in s)) n)

  -- behind the last nothing is left
  pub rules-end : m ≤ i → rules_from u s i ≡ []
  unfolding joined keep
  rules-end h = rw (rules-over s counted i h)

-- ── The environment lines, from the row i on ──
abbrev pub bindings_from : Bytes → ℕ → Bytes
bindings_from s i = joined (map binding_line (drop i (bindings_in s)))

-- m rows were counted
module _ (s : Bytes) {m : ℕ} (counted : m ≡ length (in_use binding_row max_bindings s)) (i : ℕ) where
  -- a line more, with the name and the value in the row at i
  pub bindings-next : {name value : Bytes} → i < m → name ≡ name_in (take name_row (drop (i * binding_row) s)) → value ≡ name_in (take key_row (drop (i * binding_row + name_row) s))
      → bindings_from s i ≡ name ++ (text ";" ++ (value ++ (text "\n" ++ bindings_from s (i + 1))))
  unfolding joined bindings_in binding_in binding_line table_line between
  bindings-next h n v =
      rw (row-left binding_in binding_row max_bindings s counted i h refl, take-take name_row binding_row (drop (i * binding_row) s) (omega arith), part-part (i * binding_row) binding_row s name_row key_row (omega arith), ← n, ← v)
      (simp append_assoc)

  -- behind the last nothing is left
  pub bindings-end : m ≤ i → bindings_from s i ≡ []
  unfolding joined bindings_in
  bindings-end h = rw (rows-over binding_in binding_row max_bindings s counted i h)

-- ── The copy: its parts one behind the other ──
module _ (rs : List Rule) (u : User) where
  pub head-text : head_of rs u
      ≡ text "role;access;path\n" ++ (joined (map (rule_line u) (keep (is_for u) rs)) ++ (text "name;value\n" ++ joined (map binding_line u.environment)))
  unfolding head_of joined table_line between text
  head-text = rw append-nil

  pub copy-text : (fs : Fields) → copy_of rs u fs ≡ head_of rs u ++ (saved fs ++ text "\n")
  unfolding head_of copy_of joined
  copy-text fs = simp (append_assoc, append-nil)
