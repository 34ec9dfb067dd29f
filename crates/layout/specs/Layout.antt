-- Rows of one size in memory, whatever the bytes are: which are in use, and what they mean; and the bytes that a meaning is written as.
use Rattle.std.specs.Prelude.{ℕ, ◌+◌, ◌*◌, ◌-◌, ◌≤◌, ◌<◌, min, Bool, ◌≡◌, List, ◌∷◌, ◌++◌, map, eqb, length, get_or, take, drop, replicate}
use Rattle.rows.specs.Rows.{rows, up_to, replaced}
use Rattle.model.specs.Base.{Bytes, joined, All}
use Rattle.model.specs.Limits.{max_name, max_key}

-- ── Rows up to the first that is empty ──
-- a row whose first byte is 0
unfoldable pub is_empty : Bytes → Bool
is_empty row = eqb (get_or row 0 0) 0

-- of the first n rows of k bytes, those before the first that is empty
abbrev pub in_use : ℕ → ℕ → Bytes → List Bytes
in_use k n s = up_to is_empty (rows k n s)

-- what they mean
unfoldable pub table : {A : Type 0} → (Bytes → A) → ℕ → ℕ → Bytes → List A
table decode k n s = map decode (in_use k n s)

-- n rows of k bytes lie in s
abbrev pub Holds : ℕ → ℕ → Bytes → Type 0
Holds k n s = (0 < k) × (n * k ≤ length s)

-- ── A row stored, byte for byte ──
-- over the i-th
abbrev pub over_row : ℕ → ℕ → Bytes → Bytes → Bytes
over_row k i row s = replaced (i * k) k row s

-- where the rows in use end, with one more and the empty row behind them
abbrev pub moved_end : ℕ → ℕ → Bytes → ℕ
moved_end k n s = min (length (in_use k n s) + 2) n * k

-- before the i-th: what stands from there on up to that end is one row later, and its last row falls off
unfoldable pub inserted_row : ℕ → ℕ → ℕ → Bytes → Bytes → Bytes
inserted_row k n i row s =
    let m = moved_end k n s - i * k in
    replaced (i * k) m (row ++ take (m - k) (drop (i * k) s)) s

-- ── Rows behind a byte that says how many they are ──
-- how many they are, at most n
abbrev pub slot_count : ℕ → Bytes → ℕ
slot_count n s = min (get_or s 0 0) n

-- of k bytes
abbrev pub counted_rows : ℕ → ℕ → Bytes → List Bytes
counted_rows k n s = take (slot_count n s) (rows k n (drop 1 s))

-- what they mean
unfoldable pub counted : {A : Type 0} → (Bytes → A) → ℕ → ℕ → Bytes → List A
counted decode k n s = map decode (counted_rows k n s)

-- ── A name in a row ──
-- rows of a name and of a key: how long it is, and room for the longest
abbrev pub name_row : ℕ
name_row = 1 + max_name

abbrev pub key_row : ℕ
key_row = 1 + max_key

-- how many bytes, and the bytes, as many as the row has
unfoldable pub name_in : Bytes → Bytes
name_in row = take (get_or row 0 0) (drop 1 row)

-- ── Every byte: what a meaning is written as, with zeros wherever nothing is said ──
-- xs, and zeros behind them up to n bytes
abbrev pub padded : ℕ → Bytes → Bytes
padded n xs = xs ++ replicate (n - length xs) 0

-- a name in a row of k bytes
unfoldable pub encode_name : ℕ → Bytes → Bytes
encode_name k name = padded k (length name ∷ name)

-- rows behind a byte that says how many they are, room for n
unfoldable pub encode_counted : {A : Type 0} → (A → Bytes) → ℕ → ℕ → List A → Bytes
encode_counted encode k n xs = padded (1 + n * k) (length xs ∷ joined (map encode xs))

-- rows one behind the other, room for n
unfoldable pub encode_table : {A : Type 0} → (A → Bytes) → ℕ → ℕ → List A → Bytes
encode_table encode k n xs = padded (n * k) (joined (map encode xs))

-- bytes are written as their meaning is: no other bytes written so mean the same
abbrev pub Canonical : {A : Type 0} → (A → Bytes) → (Bytes → A) → Bytes → Type 0
Canonical encode decode s = s ≡ encode (decode s)

abbrev pub CanonicalName : ℕ → Bytes → Type 0
CanonicalName k row = Canonical (encode_name k) name_in row

-- what is so before is so afterwards
abbrev pub Keeps : (Bytes → Type 0) → Bytes → Bytes → Type 0
Keeps P before after = P before → P after

-- the rows alone, and zeros behind them
abbrev pub Tight : ℕ → ℕ → Bytes → Type 0
Tight k n s = s ≡ padded (n * k) (joined (in_use k n s))

abbrev pub TightCounted : ℕ → ℕ → Bytes → Type 0
TightCounted k n s = let rs = counted_rows k n s in s ≡ padded (1 + n * k) (length rs ∷ joined rs)

-- such a table, each row of which has P
abbrev pub CanonicalTable : (Bytes → Type 0) → ℕ → ℕ → Bytes → Type 0
CanonicalTable P k n s = Tight k n s × All P (in_use k n s)

abbrev pub CanonicalCounted : (Bytes → Type 0) → ℕ → ℕ → Bytes → Type 0
CanonicalCounted P k n s = TightCounted k n s × All P (counted_rows k n s)

-- keys in rows behind a byte that says how many they are, room for n
abbrev pub encode_keys : ℕ → List Bytes → Bytes
encode_keys n keys = encode_counted (encode_name key_row) key_row n keys

abbrev pub CanonicalKeys : ℕ → Bytes → Type 0
CanonicalKeys n s = CanonicalCounted (CanonicalName key_row) key_row n s
