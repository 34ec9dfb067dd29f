-- What the three arrays mean, whatever they hold; and the bytes of a state that was opened.
use Rattle.std.specs.Prelude.{ℕ, List, replicate}
use Rattle.model.specs.Base.{Bytes}
use Rattle.model.specs.Opening.{State}
use Rattle.masks.specs.Readers.{readers_of, Agreed}
use Rattle.tables.specs.Memory.{tables_in, encode_tables}
use Rattle.record.specs.Slots.{fields_in, masks_in, encode_fields}
use Rattle.sessions.specs.Logins.{login_numbers, logins_in}

-- the three arrays that a caller lends
pub record Arrays : Type 0 where
  pub tables : Bytes
  pub logins : List ℕ
  pub fields : Bytes

abbrev pub arrays : Bytes → List ℕ → Bytes → Arrays
arrays t l f = record { tables = t; logins = l; fields = f }

-- the state that they mean
unfoldable pub state_in : Bytes → List ℕ → Bytes → State
state_in tables logins fields = record { tables = tables_in tables; login_states = logins_in logins; fields = fields_in fields }

abbrev pub state_of : Arrays → State
state_of a = state_in a.tables a.logins a.fields

-- the masks beside the fields, which are no part of the meaning
abbrev pub masks_of : Arrays → List ℕ
masks_of a = masks_in a.fields

-- "they agree with the policy" (02, 2): each mask has the bits of those who may read its field, and no others
abbrev pub Agree : Arrays → Type 0
Agree a = Agreed (tables_in a.tables) (fields_in a.fields) (masks_in a.fields)

-- the arrays of a state in which nobody has logged in yet: tables, fields and masks byte for byte, with zeros wherever nothing is said
unfoldable pub encode_opened : State → Arrays
encode_opened s = arrays (encode_tables s.tables) (replicate login_numbers 0) (encode_fields (readers_of s.tables) s.fields)
