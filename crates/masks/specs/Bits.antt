-- A mask: a number with a bit for each user place, and the bytes that it is kept in.
use Rattle.std.specs.Prelude.{ℕ, zero, suc, ◌+◌, ◌*◌, ◌/◌, ◌%◌, ◌^◌, Bool, [], ◌∷◌, eqb, get_or, drop, if◌then◌else◌}
use Rattle.model.specs.Base.{Bytes}
use Rattle.model.specs.Limits.{max_users}

-- the bit of the place j is set
unfoldable pub bit_at : ℕ → ℕ → Bool
bit_at m j = eqb (m / 2 ^ j % 2) 1

-- no bit is set from the place j on
abbrev pub none_from : ℕ → ℕ → Bool
none_from m j = eqb (m / 2 ^ j) 0

-- the number whose bits are set below n where the test holds, and nowhere else
unfoldable pub mask_of : (ℕ → Bool) → ℕ → ℕ
mask_of test zero = 0
mask_of test (suc n) = mask_of test n + (if test n then 2 ^ n else 0)

-- ── In bytes, the one that counts least first ──
abbrev pub byte_bits : ℕ
byte_bits = 8

-- how many bytes: a bit for each user place
abbrev pub mask_bytes : ℕ
mask_bytes = max_users / byte_bits

-- the first n bytes as one number
unfoldable pub little_endian : ℕ → Bytes → ℕ
little_endian zero s = 0
little_endian (suc n) s = get_or s 0 0 + 2 ^ byte_bits * little_endian n (drop 1 s)

-- and a number as n bytes
unfoldable pub bytes_of : ℕ → ℕ → Bytes
bytes_of zero m = []
bytes_of (suc n) m = m % 2 ^ byte_bits ∷ bytes_of n (m / 2 ^ byte_bits)

-- a mask, out of its bytes and in them
unfoldable pub decode_mask : Bytes → ℕ
decode_mask s = little_endian mask_bytes s

unfoldable pub encode_mask : ℕ → Bytes
encode_mask m = bytes_of mask_bytes m
