-- The fields of a record's text, and the table after reading it.
use Rattle.std.specs.Prelude.{◌≡◌, not, ◌&&◌, [], leb}
use Rattle.std.specs.Prelude.{Option, None, Some}
use Rattle.model.specs.Base.{Bytes, ◌>>=◌, ◌>>◌, check}
use Rattle.model.specs.Limits.{max_fields}
use Rattle.model.specs.Fields.{Keys, Fields}
use Rattle.model.specs.RecordText.{Members, tree_of, twice, count, store_members}
use Rattle.record.specs.Slots.{fields_in}

-- the fields of an object at the path p, put into fs
unfoldable pub loaded : Keys → Fields → Members → Fields
loaded p fs m = store_members p m fs

-- the fields of a text that is accepted, where a table has room for them
unfoldable pub fields_of : Bytes → Option Fields
fields_of s = do
  m ← tree_of s
  check (not (twice m) && leb (count m) max_fields)
  Some (store_members [] m [])

-- a table holds the fields of a text, or else keeps its bytes
abbrev pub HoldsOrKeeps : Option Fields → Bytes → Bytes → Type 0
HoldsOrKeeps None before now = now ≡ before
HoldsOrKeeps (Some fs) before now = fields_in now ≡ fs
