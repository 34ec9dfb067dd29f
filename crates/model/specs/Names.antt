-- Document 01, "Record, names and paths": bytes and names.
use Rattle.std.specs.Prelude.{ℕ, Bool, not, ◌&&◌, ◌||◌, eqb, length}
use Rattle.model.specs.Base.{Bytes, all, within, is_digit}
use Rattle.model.specs.Limits.{max_name, max_key}
use Rattle.model.specs.Base

-- "Name bytes are hexadecimal 20 to 7E except 22 ("), 27 ('), 3B (;) and 5C (\)"
unfoldable pub name_byte : ℕ → Bool
name_byte x = within 0x20 0x7E x && not (eqb x 0x22 || eqb x 0x27 || eqb x 0x3B || eqb x 0x5C)

-- "A name is 1 to 16 of them"; `most` is the limit
unfoldable pub is_name_of : ℕ → Bytes → Bool
is_name_of most n = within 1 most (length n) && all name_byte n

unfoldable pub is_name : Bytes → Bool
is_name n = is_name_of max_name n

unfoldable pub is_key : Bytes → Bool
is_key k = is_name_of max_key k

unfoldable pub is_letter : ℕ → Bool
is_letter x = within 0x41 0x5A x || within 0x61 0x7A x

-- "A plain name has only ASCII letters, digits, `-` and `_`"
unfoldable pub plain_byte : ℕ → Bool
plain_byte x = is_letter x || is_digit x || eqb x 0x2D || eqb x 0x5F

unfoldable pub is_plain : Bytes → Bool
is_plain n = is_name n && all plain_byte n

unfoldable pub Opened : Unit {0}
unfolding Base.Opened name_byte is_name_of is_name is_key is_letter plain_byte is_plain
Opened = tt
