-- What a value of the code means, given the text that its string is a part of.
use Rattle.std.specs.Prelude.{ℕ, ◌-◌, ◌≤◌, ◌≡◌, true, false, length, take, drop}
use Rattle.std.specs.Prelude.{Option, Some, option_map, IfSome}
use Rattle.rows.specs.Positions.{Reader, placed}
use Rattle.model.specs.Base.{Bytes, ◌>>=◌, after}
use Rattle.model.specs.Values.{Value, truth, string, whole}
use Rattle.values.specs.declared.value.Scalar.{Scalar}
use Rattle.values.specs.declared.value.Scalar.TheVariants.{True, False, Text, Whole}

abbrev pub value_in : Bytes → Scalar → Value
value_in s True = truth true
value_in s False = truth false
value_in s (Text a e) = string (take (e - a) (drop a s))
value_in s (Whole z) = whole z

-- a word that is a value
unfoldable pub read_word : Bytes → Value → Bytes → Option (Value × Bytes)
read_word w v s = after w s >>= λ r. Some (v, r)

-- what an answer says: the value, and the position behind it
abbrev pub value_answer : Bytes → Option (Scalar × ℕ) → Option (Value × ℕ)
value_answer s r = option_map (λ p. (value_in s p.0, p.1)) r

-- a string's part lies in the text
abbrev pub InText : Scalar → Bytes → Type 0
InText True s = Unit {0}
InText False s = Unit {0}
InText (Text a e) s = (a ≤ e) × (e ≤ length s)
InText (Whole z) s = Unit {0}

-- the same of what was answered
abbrev pub AnswerInText : Option (Scalar × ℕ) → Bytes → Type 0
AnswerInText r s = IfSome r (λ p. InText p.0 s)

-- an answer is right of the reader f: what f reads at the position, in the text
abbrev pub Answered : Reader ℕ Value → Bytes → ℕ → Option (Scalar × ℕ) → Type 0
Answered f s at r = (value_answer s r ≡ placed f s at) × AnswerInText r s
