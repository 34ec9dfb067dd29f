-- Bytes written as their meaning is: a name, rows behind a count, rows in use; and what keeps them so.
use Prim.Native.Nat.{ℕ, zero, suc, ◌+◌, ◌*◌, ◌-◌, ◌≤◌, ◌<◌, min}
use mathlib.Core.Path.{◌≡◌, refl, sym, ap, ◌∙◌}
use mathlib.Core.Bool.{false}
use mathlib.Core.List.{List, [], ◌∷◌, ◌++◌, map}
use native.Mathlib.Nat.{zero-add, zero-min}
use native.Mathlib.Omega.{arith}
use lib.ListN.{length, take, drop, length-take, length-map, length-replicate}
use lib.Seq.{take_all}
use Rattle.rows.specs.Rows.{replaced, written}
use Rattle.rows.proofs.Writing.{written-clipped}
use Rattle.model.specs.Base.{Bytes, joined, All}
use Rattle.model.proofs.Lists.{all_append, all_take, all_set}
use Rattle.layout.specs.Layout.{is_empty, in_use, table, Holds, inserted_row, counted_rows, counted}
use Rattle.layout.specs.Layout.{padded, encode_name, encode_counted, encode_table, Canonical, CanonicalName, Keeps, Tight, TightCounted, CanonicalTable, CanonicalCounted}
use Rattle.layout.proofs.Used.{used-none}
use Rattle.layout.proofs.Changed.{used-set, inserted-used}
use Rattle.layout.proofs.Named.{named}
use Rattle.layout.proofs.Tight.{zeros, zero-at, drop-zeros, tight-none, tight-set, tight-inserted, none-counted}

-- ── A name written into a row of zeros ──
module _ (w : ℕ) (name old : Bytes) {row : Bytes} (clean : old ≡ zeros (1 + w))
    (put : row ≡ written 0 (min (length name) (length old - 1) ∷ take (length old - 1) name) old) where
  long : length old ≡ 1 + w
  long = ap length clean ∙ length-replicate (1 + w) 0

  pub name-encoded : row ≡ encode_name (1 + w) (take w name)
  unfolding encode_name
  name-encoded =
      let room : length old - 1 ≡ w = omega (arith, long) in
      let n : min (length name) w ≡ length (take w name) = simp length-take (omega arith) in
      let xs = length (take w name) ∷ take w name in
      let all : take (length old - 0) xs ≡ xs = take_all (length old - 0) xs (simp length-take (omega (arith, long))) in
      let rest : drop (0 + length xs) old ≡ zeros (1 + w - length xs) = rw clean (rw zero-add (drop-zeros (length xs) (1 + w))) in
      put ∙ rw (room, n, written-clipped 0 xs old, all, rest)

  pub name-canonical : CanonicalName (1 + w) row
  name-canonical = name-encoded ∙ rw (named w name old long put).is

-- ── Rows each written as its meaning is ──
module _ {A : Type 0} (encode : A → Bytes) (decode : Bytes → A) where
  all-encoded : (rs : List Bytes) → All (Canonical encode decode) rs → map encode (map decode rs) ≡ rs
  all-encoded [] h = refl
  all-encoded (r ∷ rs) h = rw (← h.0, all-encoded rs h.1)

  module _ (k n : ℕ) (s : Bytes) where
    pub table-encoded : CanonicalTable (Canonical encode decode) k n s → Canonical (encode_table encode k n) (table decode k n) s
    unfolding encode_table table
    table-encoded h = h.0 ∙ ap (λ (rs : List Bytes). padded (n * k) (joined rs)) (sym (all-encoded (in_use k n s) h.1))

    pub counted-encoded : CanonicalCounted (Canonical encode decode) k n s → Canonical (encode_counted encode k n) (counted decode k n) s
    unfolding encode_counted counted
    counted-encoded h =
        let rs = counted_rows k n s in
        h.0 ∙ rw (all-encoded rs h.1, length-map)

-- ── What keeps a table so ──
pub all_drop : {A : Type 0} (P : A → Type 0) (i : ℕ) (xs : List A) → All P xs → All P (drop i xs)
all_drop P zero xs h = h
all_drop P (suc i) [] h = h
all_drop P (suc i) (x ∷ xs) h = all_drop P i xs h.1

module _ (P : Bytes → Type 0) (k n : ℕ) where
  -- no row in use
  pub canonical-none : 0 < k → CanonicalTable P k n (zeros (n * k))
  canonical-none size = (tight-none k n size, rw (used-none k n (zeros (n * k)) size (zero-at (n * k) 0)) tt)

  module _ {s t row : Bytes} (is : P row) where
    -- a row more
    pub canonical-pushed : in_use k n t ≡ take n (in_use k n s ++ row ∷ []) → Keeps (Tight k n) s t → Keeps (CanonicalTable P k n) s t
    canonical-pushed e tight h = (tight h.0, rw e (all_take P n _ (all_append P (in_use k n s) (row ∷ []) h.1 (is, tt))))

  module _ (s row : Bytes) (fits : Holds k n s) (long : length row ≡ k) (kept : is_empty row ≡ false) (is : P row) (h : CanonicalTable P k n s) (i : ℕ) where
    -- a row over another
    pub canonical-set : i < length (in_use k n s) → CanonicalTable P k n (replaced (i * k) k row s)
    canonical-set below = (
      tight-set k n s fits h.0 i row long kept below,
      rw (used-set k n i row s fits long kept below) (all_set P (in_use k n s) i row is h.1),
    )

    -- a row before another
    pub canonical-inserted : i < n → i ≤ length (in_use k n s) → CanonicalTable P k n (inserted_row k n i row s)
    canonical-inserted below within =
        let used = inserted-used k n i row s fits long kept below within in (
          tight-inserted k n s fits h.0 i row long below within used,
          rw used (all_take P n _ (all_append P (take i (in_use k n s)) (row ∷ drop i (in_use k n s)) (all_take P i _ h.1) (is, all_drop P i _ h.1))),
        )

  -- rows behind a count: none, and one more
  pub canonical-uncounted : CanonicalCounted P k n (0 ∷ zeros (n * k))
  canonical-uncounted = (none-counted k n, rw zero-min tt)

  pub canonical-counted : {s t row : Bytes} → P row → counted_rows k n t ≡ take n (counted_rows k n s ++ row ∷ []) → Keeps (TightCounted k n) s t
      → Keeps (CanonicalCounted P k n) s t
  canonical-counted {s} is e tight h = (tight h.0, rw e (all_take P n _ (all_append P (counted_rows k n s) _ h.1 (is, tt))))
