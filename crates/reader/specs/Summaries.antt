-- What is asked of a record's text before a field of it is stored, and what the answers say.
use Rattle.std.specs.Prelude.{ℕ, ◌+◌, ◌*◌, ◌≤◌, Bool, List, length, drop}
use Rattle.std.specs.Prelude.{Option, None, Some}
use Rattle.std.specs.Prelude as std
use Rattle.model.specs.Base.{Bytes, any, is_some, after}
use Rattle.model.specs.RecordText.{Members, tree_of, twice, count}
use Rattle.model.specs.Refusals.{Result, refused, done, ◌>>=◌, ◌>>◌, refuse◌if◌, ◌or◌}
use Rattle.reader.specs.declared.grammar.Object.{Object}
use Rattle.reader.specs.declared.grammar.RecordError.{RecordError}
use Rattle.reader.specs.declared.grammar.RecordError.TheVariants.{NotRecord, KeyTwice}

-- ── Keys of a text ──
-- a key, its quotes and its colon take at least these bytes
abbrev pub member_bytes : ℕ
member_bytes = 4

-- so the keys of a text s have room in a table
abbrev pub HaveRoom : Bytes → List ℕ → Type 0
HaveRoom s keys = length s ≤ member_bytes * length keys

-- ── Meanings ──
-- the word w stands in s at one of the positions
unfoldable pub stands_at_one : Bytes → Bytes → List ℕ → Bool
stands_at_one w s at = any (λ i. is_some (after w (drop i s))) at

-- of an object: how many fields it has, and whether a key stands in it, or in an object in it, twice
unfoldable pub summary : Members → ℕ × Bool
summary m = (count m, twice m)

-- what an answer says of it, and where it ends
abbrev pub object_answer : Object → (ℕ × Bool) × ℕ
object_answer o = ((o.fields, o.twice), o.end)

-- "8 not in the grammar; 6 a key twice in one object", else how many fields
unfoldable pub reading_of : Bytes → Result ℕ ℕ
reading_of s = do
  m ← tree_of s or 8
  refuse 6 if twice m
  done (count m)

-- the number of each refusal
abbrev pub error_number : RecordError → ℕ
error_number NotRecord = 8
error_number KeyTwice = 6

-- an answer as the model has it
abbrev pub read_answer : std.Result ℕ RecordError → Result ℕ ℕ
read_answer (std.Ok n) = done n
read_answer (std.Err e) = refused (error_number e)
