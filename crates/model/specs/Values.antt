-- Document 01, "Record, names and paths": the values that a field may have, read and spelled.
use Rattle.std.specs.Prelude.{ℕ, suc, ◌-◌, [], ◌++◌, Bool, true, false, not, ◌&&◌, ◌||◌, leb, eqb, length, ℤ, pos, negsuc, if◌then◌else◌}
use Rattle.std.specs.Prelude.{Option, Some}
use Rattle.model.specs.Base.{Bytes, text, all, ◌≐◌, ◌>>=◌, ◌>>◌, ◌<|>◌, check, after, span, within, is_digit, is_decimal, worth, decimal}
use Rattle.model.specs.Limits.{max_string, max_positive, max_negative}
use Rattle.model.specs.Names

-- "`true`, `false`, a string .., or a whole number"
pub data Value : Type 0 where
  truth : Bool → Value
  string : Bytes → Value
  whole : ℤ → Value

-- "bytes from 20 to 7E without 22 and 5C"
unfoldable pub string_byte : ℕ → Bool
string_byte x = within 0x20 0x7E x && not (eqb x 0x22 || eqb x 0x5C)

-- "a string of 0 to 32 bytes from 20 to 7E without 22 and 5C, or a whole number from −2,147,483,648 to 2,147,483,647"
unfoldable pub valid_value : Value → Bool
valid_value (truth b) = true
valid_value (string s) = leb (length s) max_string && all string_byte s
valid_value (whole (pos n)) = leb n max_positive
valid_value (whole (negsuc n)) = leb (suc n) max_negative

-- ── A value at a text's start ──
unfoldable pub read_truth : Bytes → Option (Value × Bytes)
read_truth s = (after (text "true") s >>= λ r. Some (truth true, r)) <|> (after (text "false") s >>= λ r. Some (truth false, r))

-- "a string of 0 to 32 bytes"
unfoldable pub read_string : Bytes → Option (Value × Bytes)
read_string s = do
  s₁ ← after (text "\"") s
  let (b, r) = span string_byte s₁
  check (leb (length b) max_string)
  r₁ ← after (text "\"") r
  Some (string b, r₁)

-- a number of 0 and more
unfoldable pub read_pos : Bytes → Option (Value × Bytes)
read_pos s = do
  let (d, r) = span is_digit s
  check (is_decimal d && leb (worth 0 d) max_positive)
  Some (whole (pos (worth 0 d)), r)

-- a number below 0: "`-0`" is "not in this grammar"
unfoldable pub read_neg : Bytes → Option (Value × Bytes)
read_neg s = do
  s₁ ← after (text "-") s
  let (d, r) = span is_digit s₁
  check (is_decimal d && within 1 max_negative (worth 0 d))
  Some (whole (negsuc (worth 0 d - 1)), r)

unfoldable pub read_value : Bytes → Option (Value × Bytes)
read_value s = read_truth s <|> read_string s <|> read_pos s <|> read_neg s

-- a value that is the whole text
unfoldable pub value_of : Bytes → Option Value
value_of s = do
  (v, r) ← read_value s
  check (r ≐ [])
  Some v

-- ── Its one spelling ──
unfoldable pub quoted : Bytes → Bytes
quoted s = text "\"" ++ (s ++ text "\"")

unfoldable pub value_text : Value → Bytes
value_text (truth b) = if b then text "true" else text "false"
value_text (string s) = quoted s
value_text (whole (pos n)) = decimal n
value_text (whole (negsuc n)) = text "-" ++ decimal (suc n)

unfoldable pub Opened : Unit {0}
unfolding Names.Opened string_byte valid_value read_truth read_string read_pos read_neg read_value value_of quoted value_text
Opened = tt
