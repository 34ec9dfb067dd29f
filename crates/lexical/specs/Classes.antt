-- The byte classes by their names, and what stands between quotes.
use Rattle.std.specs.Prelude.{ℕ, ◌+◌, ◌-◌, [], ◌∷◌, Bool, not, eqb, length, take, drop, if◌then◌else◌}
use Rattle.std.specs.Prelude.{Option, None, Some, option_map}
use Rattle.rows.specs.Positions.{run_end}
use Rattle.model.specs.Base.{Bytes, ◌>>=◌, ◌>>◌, check, after, span, within, is_digit}
use Rattle.model.specs.Names.{name_byte, plain_byte}
use Rattle.model.specs.Values.{string_byte}
use Rattle.model.specs.Paths.{identifier_byte}
use Rattle.model.specs.RecordText.{is_blank}
use Rattle.lexical.specs.declared.class.Class.{Class}
use Rattle.lexical.specs.declared.class.Class.TheVariants.{Name, Plain, Text, Digit, Identifier, Blank}

abbrev pub in_class : Class → ℕ → Bool
in_class Name = name_byte
in_class Plain = plain_byte
in_class Text = string_byte
in_class Digit = is_digit
in_class Identifier = identifier_byte
in_class Blank = is_blank

-- bytes other than b
unfoldable pub is_not : ℕ → ℕ → Bool
is_not b x = not (eqb x b)

-- from `least` to `most` bytes of a class, from `at` on: where they end
unfoldable pub scan_end : Class → ℕ → ℕ → Bytes → ℕ → Option ℕ
scan_end class least most s at =
    let to = run_end (in_class class) s at in
    if within least most (to - at) then Some to else None

-- from `least` to `most` bytes of a class between two quotes
unfoldable pub read_between : Class → ℕ → ℕ → ℕ → Bytes → Option (Bytes × Bytes)
read_between class quote least most s = do
  s₁ ← after (quote ∷ []) s
  let (b, r) = span (in_class class) s₁
  check (within least most (length b))
  r₁ ← after (quote ∷ []) r
  Some (b, r₁)

-- an answer of a text in quotes that begin at `at`
unfoldable pub text_answer : Bytes → ℕ → Option ℕ → Option (Bytes × ℕ)
text_answer s at r = option_map (λ e. (take (e - 2 - at) (drop (at + 1) s), e)) r
