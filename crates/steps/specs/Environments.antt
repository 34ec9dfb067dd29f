-- What a user's environment lines in memory mean; and their bytes.
use Rattle.std.specs.Prelude.{ℕ, ◌+◌, ◌*◌, List, ◌++◌, take, drop}
use Rattle.layout.specs.Layout.{table, name_row, key_row, name_in, encode_name, encode_table, Canonical, CanonicalTable}
use Rattle.model.specs.Base.{Bytes}
use Rattle.model.specs.Limits.{max_bindings}
use Rattle.model.specs.Tables.{Binding}

-- ── Sizes, in bytes ──
-- an environment line: rows of a name and a value
abbrev pub binding_row : ℕ
binding_row = name_row + key_row

abbrev pub bindings_bytes : ℕ
bindings_bytes = max_bindings * binding_row

-- ── Meanings ──
-- a row of a name and a value
unfoldable pub binding_in : Bytes → Binding
binding_in row = record { name = name_in (take name_row row); value = name_in (take key_row (drop name_row row)) }

-- up to the first row whose name is empty
unfoldable pub bindings_in : Bytes → List Binding
bindings_in s = table binding_in binding_row max_bindings s

-- ── Every byte ──
unfoldable pub encode_binding : Binding → Bytes
encode_binding b = encode_name name_row b.name ++ encode_name key_row b.value

unfoldable pub encode_bindings : List Binding → Bytes
encode_bindings bs = encode_table encode_binding binding_row max_bindings bs

abbrev pub CanonicalBindings : Bytes → Type 0
CanonicalBindings s = CanonicalTable (Canonical encode_binding binding_in) binding_row max_bindings s
