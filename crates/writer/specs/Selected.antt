-- Fields that are shown: all, or those that one user may read.
use Rattle.std.specs.Prelude.{ℕ, suc, ◌+◌, ◌*◌, ◌<◌, Bool, true, List, [], ◌∷◌, map, if◌then◌else◌, Option, None, Some}
use Rattle.model.specs.Base.{Bytes, keep}
use Rattle.model.specs.Limits.{max_key, max_depth, max_fields, max_users}
use Rattle.model.specs.Fields.{Fields}
use Rattle.layout.specs.Layout.{in_use}
use Rattle.masks.specs.Bits.{bit_at}
use Rattle.record.specs.Slots.{value_room, slot_bytes, field_in, mask_in}
use Rattle.writer.specs.declared.saved.Shown.{Shown}
use Rattle.writer.specs.declared.saved.Shown.TheVariants.{All, To}

-- ── How long texts are at most ──
-- the keys of a path, each in quotes with a colon and a brace
abbrev pub descent_text : ℕ
descent_text = (max_key + 4) * max_depth

-- from one field to the next: braces besides
abbrev pub turn_text : ℕ
turn_text = (max_key + 5) * max_depth

-- a field behind another
abbrev pub saved_field : ℕ
saved_field = turn_text + value_room

-- all slots, whatever they hold
abbrev pub most_saved : ℕ
most_saved = max_fields * (saved_field + 1)

-- ── Meanings ──
-- the user's place, where the fields of one user are shown, is one that a mask has a bit for
abbrev pub Placed : Shown → Type 0
Placed All = Unit
Placed (To i) = i < max_users

-- the field in a slot is shown
unfoldable pub is_shown : Shown → Bytes → Bool
is_shown All slot = true
is_shown (To i) slot = bit_at (mask_in slot) i

-- the fields of the slots in use that are shown
unfoldable pub shown_in : Shown → Bytes → Fields
shown_in v s = map field_in (keep (is_shown v) (in_use slot_bytes max_fields s))

-- the place, counted from i, of the first slot that is shown, if there is one
unfoldable pub shown_from : Shown → ℕ → List Bytes → Option ℕ
shown_from v i [] = None
shown_from v i (slot ∷ rest) = let r = shown_from v (suc i) rest in if is_shown v slot then Some i else r
