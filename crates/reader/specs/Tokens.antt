-- Tokens of record text: their readers, and what the answers say.
use Rattle.std.specs.Prelude.{ℕ, ◌+◌, ◌-◌, ◌≤◌, ◌<◌, ◌≡◌, Bool, ◌||◌, [], ◌∷◌, eqb, length, take, drop, if◌then◌else◌}
use Rattle.std.specs.Prelude.{Option, None, Some}
use Rattle.rows.specs.Positions.{Reader}
use Rattle.model.specs.Base.{Bytes, text, ◌>>=◌, ◌<|>◌}
use Rattle.model.specs.Limits.{max_depth}
use Rattle.model.specs.Values.{Value, read_value}
use Rattle.model.specs.RecordText.{Members, skip, token, read_key, read_object, read_empty}
use Rattle.reader.specs.declared.tokens.Key.{Key}
use Rattle.reader.specs.declared.tokens.Token.{Token}
use Rattle.reader.specs.declared.tokens.Token.TheVariants.{Open, Close, Colon, Comma}

-- RFC 8259's structural characters, of which the grammar has these: each is a token of one byte
unfoldable pub is_structural : ℕ → Bool
is_structural b = eqb b 0x7B || eqb b 0x7D || eqb b 0x3A || eqb b 0x2C

-- any of them, with the blanks behind it
unfoldable pub read_structural : Bytes → Option (ℕ × Bytes)
read_structural [] = None
read_structural (b ∷ s) = if is_structural b then Some (b, skip s) else None

-- a token's byte
abbrev pub token_byte : Token → ℕ
token_byte Open = 0x7B
token_byte Close = 0x7D
token_byte Colon = 0x3A
token_byte Comma = 0x2C

-- which one was read, and where the next token stands
abbrev pub token_answer : Token × ℕ → ℕ × ℕ
token_answer t = (token_byte t.0, t.1)

-- a given token of one byte
unfoldable pub read_token : ℕ → Bytes → Option (Unit {0} × Bytes)
read_token b s = token (b ∷ []) s >>= λ r. Some (tt, r)

-- a value, with the blanks behind it
unfoldable pub read_scalar : Bytes → Option (Value × Bytes)
read_scalar s = read_value s >>= λ t. Some (t.0, skip t.1)

-- a key's bytes, and where the next token stands
abbrev pub key_answer : Bytes → Key → Bytes × ℕ
key_answer s k = (take (k.to - k.from) (drop k.from s), k.next)

-- a key's part lies in the text, between two quotes
abbrev pub KeyInText : ℕ → Key → Bytes → Type 0
KeyInText at k s = (k.from ≡ at + 1) × (k.from < k.to) × (k.to < k.next) × (k.next ≤ length s)

-- a key and the colon behind it
unfoldable pub read_member : Bytes → Option (Bytes × Bytes)
read_member s = do
  (k, s₁) ← read_key s
  s₂ ← token (text ":") s₁
  Some (k, s₂)

-- the same of a member, which takes a byte more
abbrev pub MemberInText : ℕ → Key → Bytes → Type 0
MemberInText at k s = (k.from ≡ at + 1) × (k.from < k.to) × (k.to + 1 < k.next) × (k.next ≤ length s)

-- what is read, as g has it
unfoldable pub mapped : {A B : Type 0} → (A → B) → Reader ℕ A → Reader ℕ B
mapped g f s = f s >>= λ t. Some (g t.0, t.1)

-- the object of a record
unfoldable pub read_top : Bytes → Option (Members × Bytes)
read_top s = read_empty s <|> read_object max_depth s
