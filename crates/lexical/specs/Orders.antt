-- The order of slices as the code answers it, and first bytes as one number.
use Prim.Native.Nat.{ℕ, zero, suc, ◌+◌, ◌*◌, ◌^◌, ◌<◌, Ordering}
use Rattle.std.specs.Prelude.{Bool, true, false, ◌&&◌, ltb, leb, length, get_or, drop, if◌then◌else◌}
use Rattle.model.specs.Base.{Bytes}
use Rattle.model.specs.Fields.{by_order}
use Rattle.std.specs.declared.cmp.Ordering as answer
use Rattle.std.specs.declared.cmp.Ordering.TheVariants.{Less, Equal, Greater}

abbrev pub order_of : Ordering → answer.Ordering
order_of Ordering.lt = Less
order_of Ordering.eq = Equal
order_of Ordering.gt = Greater

-- whether it is the third
abbrev pub is_greater : Ordering → Bool
is_greater o = by_order o false false true

-- bytes that are compared at once
abbrev pub word_bytes : ℕ
word_bytes = 8

-- the first n bytes as one number, in which the first byte counts most
unfoldable pub big_endian : ℕ → Bytes → ℕ
big_endian zero s = 0
big_endian (suc n) s = 256 ^ n * get_or s 0 0 + big_endian n (drop 1 s)

-- each is less than 256
abbrev pub AreBytes : Bytes → Type 0
AreBytes s = (i : ℕ) → get_or s i 0 < 256

-- the first word of a text; 0 where it has none
unfoldable pub first_word : Bytes → ℕ
first_word s = if leb word_bytes (length s) then big_endian word_bytes s else 0

-- whether a text has a first word, which is less than x
unfoldable pub begins_before : Bytes → ℕ → Bool
begins_before s x = leb word_bytes (length s) && ltb (big_endian word_bytes s) x
