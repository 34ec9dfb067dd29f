-- The part of a copy that does not depend on the record, and how long the parts of a copy are at most, whatever memory holds.
use Rattle.std.specs.Prelude.{ℕ, ◌+◌, ◌*◌, List, [], ◌∷◌, map}
use Rattle.model.specs.Base.{Bytes, text, keep, joined}
use Rattle.model.specs.Limits.{max_name, max_rules}
use Rattle.model.specs.Tables.{User, Rule}
use Rattle.model.specs.Rights.{is_for}
use Rattle.model.specs.Serving.{table_line, rule_line, binding_line}
use Rattle.steps.specs.Steps.{spelled_steps}
use Rattle.steps.specs.Environments.{bindings_bytes}
use Rattle.writer.specs.Selected.{most_saved}

-- ── How long texts are at most ──
-- a policy line: the role, `;WRITE;`, the path and the end of the line
abbrev pub rule_text : ℕ
rule_text = max_name + 7 + spelled_steps + 1

abbrev pub rules_text : ℕ
rules_text = max_rules * rule_text

-- the lines `role;access;path` and `name;value`, and what stands under each: an environment line is no longer than its row
abbrev pub head_text : ℕ
head_text = 17 + rules_text + 11 + bindings_bytes

abbrev pub copy_text : ℕ
copy_text = head_text + most_saved + 1

-- ── Meanings ──
-- what stands before the fields: the user's policy lines and environment lines, each under its head
unfoldable pub head_of : List Rule → User → Bytes
head_of rs u = joined (
    table_line (text "role" ∷ text "access" ∷ text "path" ∷ []) ∷
    joined (map (rule_line u) (keep (is_for u) rs)) ∷
    table_line (text "name" ∷ text "value" ∷ []) ∷
    joined (map binding_line u.environment) ∷ [])
