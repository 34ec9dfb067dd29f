-- What the bytes of a slot mean, whatever they are: counts and lengths are read as at most what there is room for; and the bytes of a path.
use Rattle.std.specs.Prelude.{ℕ, ◌+◌, ◌*◌}
use Rattle.model.specs.Base.{Bytes}
use Rattle.model.specs.Limits.{max_depth}
use Rattle.model.specs.Fields.{Keys}
use Rattle.layout.specs.Layout.{key_row, name_in, counted, encode_keys, Canonical}

-- ── Sizes, in bytes ──
-- a slot of a field's path: how many keys, and a row for each
abbrev pub path_slot : ℕ
path_slot = 1 + max_depth * key_row

-- ── Meanings ──
-- a field's path
unfoldable pub path_in : Bytes → Keys
path_in s = counted name_in key_row max_depth s

-- ── Every byte ──
unfoldable pub encode_path : Keys → Bytes
encode_path p = encode_keys max_depth p

abbrev pub CanonicalPath : Bytes → Type 0
CanonicalPath s = Canonical encode_path path_in s
