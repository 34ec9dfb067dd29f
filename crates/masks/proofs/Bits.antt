-- Bits set, taken out and tested; the number with given bits; the lowest bit; a loop that sets bits by a test; and a number's bytes.
use Rattle.std.specs.Prelude.{if◌then◌else◌}
use Prim.Native.Nat.{ℕ, zero, suc, ◌+◌, ◌-◌, ◌*◌, ◌/◌, ◌%◌, ◌^◌, ◌≤◌, ◌<◌, min, max}
use mathlib.Core.Path.{◌≡◌, refl, sym, ap, ap₂, ◌∙◌}
use mathlib.Core.Bool.{Bool, true, false, not, ◌&&◌, ◌||◌, xor, and-true, and-false, or-false, or_comm}
use native.Mathlib.Nat.{div-eq_of_lt, div-one, one-mul, suc-mul, add-zero, pow-suc}
use native.Mathlib.Numerals.{add-one, one-add}
use native.Mathlib.Omega.{arith}
use borrow.Author.Tests.{eq-eqb, ne_eqb, ltb-true, ltb-false, lt-ltb, le-ltb, eqb-true, eqb-false}
use lib.Bits.{bit_and, bit_or, bit_xor, differ, and_step, or_step, xor_step, and_shr, or_shr, xor_shr, and_high, xor_add_and, or_shifted, or_shifted_r}
use lib.Count.{count_trailing_zeros}
use lib.Dec.{eqb, ltb}
use lib.Pow.{pow-add, pow-lt, pow_pos, shl-shr, shr-shr, shr_lt, shl_exact}
use mathlib.Core.List.{◌++◌}
use lib.ListN.{length}
use Rattle.model.specs.Base.{Bytes}
use Rattle.model.specs.Limits.{max_users}
use Rattle.model.proofs.Lists.{by_cases}
use Rattle.masks.specs.Bits.{bit_at, mask_of, byte_bits, mask_bytes, little_endian, bytes_of, decode_mask, encode_mask}

-- the number has no more than n bits
mask_below : (f : ℕ → Bool) (n : ℕ) → mask_of f n < 2 ^ n
unfolding mask_of
mask_below f zero = omega arith
mask_below f (suc n) =
    let two : 2 ^ suc n ≡ 2 ^ n * 2 = pow-suc 2 n in
    by_cases (f n) (λ e. rw (e, two) (omega (arith, mask_below f n))) (λ e. rw (e, two) (omega (arith, mask_below f n)))

-- ── `a & b`, `a | b`, `a ^ b`: an operation that goes digit by digit, by f, has the bits that t makes of the two numbers' bits ──
abbrev digit_of : Bool → ℕ
digit_of b = if b then 1 else 0

digit : (m : ℕ) → m % 2 ≡ digit_of (eqb (m % 2) 1)
digit m = by_cases (eqb (m % 2) 1)
    (λ e. rw e (eqb-true (m % 2) 1 e))
    (λ e. let d = eqb-false (m % 2) 1 e in rw e (omega arith))

digit-back : (n : ℕ) (b : Bool) → eqb ((n * 2 + digit_of b) % 2) 1 ≡ b
digit-back n true = eq-eqb ((n * 2 + 1) % 2) 1 (omega arith)
digit-back n false = ne_eqb ((n * 2 + 0) % 2) 1 (λ e. omega arith)

module _ (op f : ℕ → ℕ → ℕ) (t : Bool → Bool → Bool)
    (shr : (a b k : ℕ) → op a b / 2 ^ k ≡ op (a / 2 ^ k) (b / 2 ^ k))
    (step : (a b : ℕ) → op a b ≡ op (a / 2) (b / 2) * 2 + f (a % 2) (b % 2))
    (e₀₀ : f 0 0 ≡ digit_of (t false false)) (e₀₁ : f 0 1 ≡ digit_of (t false true))
    (e₁₀ : f 1 0 ≡ digit_of (t true false)) (e₁₁ : f 1 1 ≡ digit_of (t true true)) where
  digits : (x y : Bool) → f (digit_of x) (digit_of y) ≡ digit_of (t x y)
  digits false false = e₀₀
  digits false true = e₀₁
  digits true false = e₁₀
  digits true true = e₁₁

  op-bit : (a b j : ℕ) → bit_at (op a b) j ≡ t (bit_at a j) (bit_at b j)
  unfolding bit_at
  op-bit a b j =
      let x = a / 2 ^ j in
      let y = b / 2 ^ j in
      let low : f (x % 2) (y % 2) ≡ digit_of (t (bit_at a j) (bit_at b j)) = ap₂ f (digit x) (digit y) ∙ digits _ _ in
      rw (shr a b j, step x y, low) (digit-back (op (x / 2) (y / 2)) (t (bit_at a j) (bit_at b j)))

pub and-bit : (a b j : ℕ) → bit_at (bit_and a b) j ≡ (bit_at a j && bit_at b j)
and-bit = op-bit bit_and min ◌&&◌ and_shr and_step refl refl refl refl

pub or-bit : (a b j : ℕ) → bit_at (bit_or a b) j ≡ (bit_at a j || bit_at b j)
or-bit = op-bit bit_or max ◌||◌ or_shr or_step refl refl refl refl

pub xor-bit : (a b j : ℕ) → bit_at (bit_xor a b) j ≡ xor (bit_at a j) (bit_at b j)
unfolding xor
xor-bit = op-bit bit_xor differ xor xor_shr xor_step refl refl refl refl

-- set in the one, and not set in the other
pub difference-bit : (a b j : ℕ) → bit_at (bit_and a (bit_xor a b)) j ≡ (bit_at a j && not (bit_at b j))
unfolding xor
difference-bit a b j = rw (and-bit a (bit_xor a b) j, xor-bit a b j) (by_cases (bit_at a j) (λ e. by_cases (bit_at b j) (λ d. rw (e, d)) (λ d. rw (e, d))) (λ e. rw e))

-- a power of two has one bit
pub pow-bit : (i j : ℕ) → bit_at (2 ^ i) j ≡ eqb j i
unfolding bit_at
pow-bit i j = by_cases (eqb j i)
    (λ e. let q : j ≡ i = eqb-true j i e in let p : 2 ^ i / 2 ^ i ≡ 1 = rw one-mul at (shl-shr 1 i) in rw (e, q, p))
    (λ e. rw e (by_cases (ltb j i)
    (λ l. let d = i - j - 1 in
    let q : i ≡ d + 1 + j = omega (arith, ltb-true j i l) in
    let p : 2 ^ i ≡ 2 ^ d * 2 * 2 ^ j = ap (λ (k : ℕ). 2 ^ k) q ∙ pow-add 2 (d + 1) j ∙ ap (◌* 2 ^ j) (pow-add 2 d 1) in
    ne_eqb (2 ^ i / 2 ^ j % 2) 1 (λ z. omega (arith, ap (λ (x : ℕ). x / 2 ^ j) p, shl-shr (2 ^ d * 2) j)))
    (λ l. ne_eqb (2 ^ i / 2 ^ j % 2) 1 (λ z. omega (arith, div-eq_of_lt {n = 2 ^ i} {m = 2 ^ j} (pow-lt (omega (arith, ltb-false j i l, eqb-false j i e))))))))

-- a number with its bit at n set where it had none from there on
bit-more : (m n j : ℕ) → m < 2 ^ n → bit_at (m + 2 ^ n) j ≡ (eqb j n || bit_at m j)
bit-more m n j h =
    let e : m + 2 ^ n ≡ bit_or m (2 ^ n) = omega (arith, rw one-mul at (or_shifted_r 1 n m h)) in
    rw (e, or-bit m (2 ^ n) j, pow-bit n j) (or_comm (bit_at m j) (eqb j n))

pub bit-none : (j : ℕ) → bit_at 0 j ≡ false
unfolding bit_at
bit-none j = rw (div-eq_of_lt {n = 0} {m = 2 ^ j} (pow_pos j))

-- those below n + 1 who pass a test: those below n, and n where it does
below_suc : (f : ℕ → Bool) (n j : ℕ) → (ltb j (suc n) && f j) ≡ ((eqb j n && f n) || (ltb j n && f j))
below_suc f n j = by_cases (eqb j n)
    (λ q. let s : j ≡ n = eqb-true j n q in rw (q, s, le-ltb n n (omega arith), lt-ltb n (suc n) (omega arith)) (sym (or-false (f n))))
    (λ q. let d = eqb-false j n q in by_cases (ltb j n)
    (λ l. rw (q, l, lt-ltb j (suc n) (omega (arith, ltb-true j n l))))
    (λ l. rw (q, l, le-ltb j (suc n) (omega (arith, ltb-false j n l)))))

pub mask-bits : (f : ℕ → Bool) (n j : ℕ) → bit_at (mask_of f n) j ≡ (ltb j n && f j)
unfolding mask_of
mask-bits f zero j = bit-none j ∙ rw (le-ltb j 0 (omega arith))
mask-bits f (suc n) j = rw (below_suc f n j) (by_cases (f n)
    (λ e. rw (e, bit-more (mask_of f n) n j (mask_below f n), mask-bits f n j, and-true))
    (λ e. rw (e, add-zero, mask-bits f n j, and-false)))

-- ── Two numbers with the same bits are equal: what a u32 needs to be the mask of a test ──
bit-half : (m j : ℕ) → bit_at (m / 2) j ≡ bit_at m (suc j)
unfolding bit_at
bit-half m j = rw (shr-shr m 1 j, one-add j)

bit-first : (m : ℕ) → bit_at m 0 ≡ eqb (m % 2) 1
unfolding bit_at
bit-first m = rw (div-one m)

pub bits-same : (k m n : ℕ) → m < 2 ^ k → n < 2 ^ k → ((j : ℕ) → bit_at m j ≡ bit_at n j) → m ≡ n
bits-same zero m n h l e = omega arith
bits-same (suc k) m n h l e =
    let two : 2 ^ suc k ≡ 2 ^ k * 2 = pow-suc 2 k in
    let halves = bits-same k (m / 2) (n / 2) (omega arith) (omega arith) (λ j. bit-half m j ∙ e (suc j) ∙ sym (bit-half n j)) in
    let first = digit m ∙ ap digit_of (sym (bit-first m) ∙ e 0 ∙ bit-first n) ∙ sym (digit n) in
    omega arith

-- where nothing is left of a number that is shifted down, it has no bit from there on
pub none-set : (m j k : ℕ) → m / 2 ^ j ≡ 0 → j ≤ k → bit_at m k ≡ false
unfolding bit_at
none-set m j k e h =
    let q : k ≡ j + (k - j) = omega arith in
    rw (q, ← shr-shr m j (k - j), e, div-eq_of_lt {n = 0} {m = 2 ^ (k - j)} (pow_pos (k - j)))

-- a number of n bits that are those of a test
pub mask_is : (f : ℕ → Bool) (n m : ℕ) → m < 2 ^ n → ((j : ℕ) → bit_at m j ≡ f j) → m ≡ mask_of f n
mask_is f n m h e =
    bits-same n m (mask_of f n) h (mask_below f n)
    (λ j. by_cases (ltb j n)
    (λ l. e j ∙ sym (mask-bits f n j ∙ rw l))
    (λ l. none-set m n j (div-eq_of_lt h) (ltb-false j n l) ∙ sym (mask-bits f n j ∙ rw l)))

-- ── `high << k | low`, in w bits: nothing is lost, and nothing is in the way ──
pub shifted-or : (j k w high low : ℕ) → high < 2 ^ j → j + k ≤ w → low < 2 ^ k → bit_or (high * 2 ^ k % 2 ^ w) low ≡ low + 2 ^ k * high
shifted-or j k w high low h room l = rw (shl_exact {a = high} j k w h room, or_shifted high k low l) (omega arith)

-- ── `m | 1 << i`, and `m ^ 1 << i` where the bit is set: in w bits ──
pub one_shifted : (w i : ℕ) → i < w → 1 * 2 ^ i % 2 ^ w ≡ 2 ^ i
one_shifted w i h = shl_exact {a = 1} 1 i w (omega arith) (omega arith) ∙ one-mul (2 ^ i)

pub with-set : (w m i j : ℕ) → i < w → bit_at (bit_or m (1 * 2 ^ i % 2 ^ w)) j ≡ (eqb j i || bit_at m j)
with-set w m i j h = rw (one_shifted w i h, or-bit m (2 ^ i) j, pow-bit i j) (or_comm (bit_at m j) (eqb j i))

module _ (w m i : ℕ) (h : i < w) (b : bit_at m i ≡ true) where
  pub without-less : bit_xor m (1 * 2 ^ i % 2 ^ w) < m
  unfolding bit_at
  without-less =
      let one : 2 ^ (1 + i) - 2 ^ i ≡ 2 ^ i = omega (arith, pow-add 2 1 i) in
      let both : bit_and m (2 ^ i) ≡ 2 ^ i = (rw one at (and_high m 1 i)) ∙ rw (eqb-true (m / 2 ^ i % 2) 1 b) (one-mul (2 ^ i)) in
      rw (one_shifted w i h) (omega (arith, both, xor_add_and m (2 ^ i), pow_pos i))

  pub without-set : (j : ℕ) → bit_at (bit_xor m (1 * 2 ^ i % 2 ^ w)) j ≡ (not (eqb j i) && bit_at m j)
  unfolding xor
  without-set j =
      rw (one_shifted w i h, xor-bit m (2 ^ i) j, pow-bit i j)
      (by_cases (eqb j i)
      (λ e. let same : bit_at m j ≡ true = rw (eqb-true j i e) b in rw (e, same))
      (λ e. rw e (by_cases (bit_at m j) (λ s. rw s) (λ s. rw s))))

-- ── `(1 << n) - 1`: the first n bits ──
all_set : (n : ℕ) → mask_of (λ _. true) n ≡ 2 ^ n - 1
unfolding mask_of
all_set zero = refl
all_set (suc n) = omega (arith, all_set n, pow_pos n, pow-suc 2 n)

pub ones_bit : (n j : ℕ) → bit_at (2 ^ n - 1) j ≡ ltb j n
ones_bit n j = rw (← all_set n) (mask-bits (λ _. true) n j ∙ and-true (ltb j n))

-- ── The lowest bit that is set, of w bits ──
lower-none : (m r : ℕ) → m % 2 ≡ 0 → ((k : ℕ) → k < r → bit_at (m / 2) k ≡ false) → (k : ℕ) → k < suc r → bit_at m k ≡ false
lower-none m r e h zero l = bit-first m ∙ rw e
lower-none m r e h (suc k) l = sym (bit-half m k) ∙ h k (omega arith)

pub first-set : (w m : ℕ) → 0 < m → m < 2 ^ w
    → (count_trailing_zeros w m < w) × (bit_at m (count_trailing_zeros w m) ≡ true) × ((k : ℕ) → k < count_trailing_zeros w m → bit_at m k ≡ false)
unfolding count_trailing_zeros
first-set zero m h l = absurd (omega arith)
first-set (suc w) m h l = by_cases (eqb (m % 2) 1)
    (λ e. rw (eqb-true (m % 2) 1 e) (omega arith, bit-first m ∙ e, λ k n. absurd (omega arith)))
    (λ e.
    let even : m % 2 ≡ 0 = (let d = eqb-false (m % 2) 1 e in omega arith) in
    let two : 2 ^ suc w ≡ 2 ^ w * 2 = pow-suc 2 w in
    let r = count_trailing_zeros w (m / 2) in
    let rest = first-set w (m / 2) (omega arith) (omega arith) in
    rw even (omega (arith, rest.0), sym (bit-half m r) ∙ rest.1, lower-none m r even rest.2))

-- ── The bit of the place j, set where b says so ──
module _ (m j k : ℕ) (b : Bool) where
  pub marked-not : b ≡ false → bit_at m k ≡ (bit_at m k || (eqb k j && b))
  marked-not h = rw (h, and-false (eqb k j)) (sym (or-false (bit_at m k)))

  pub marked-now : b ≡ true → (eqb k j || bit_at m k) ≡ (bit_at m k || (eqb k j && b))
  marked-now h = rw (h, and-true (eqb k j)) (or_comm (eqb k j) (bit_at m k))

-- ── A loop that sets the bits of those who pass a test g: the ones below j were asked ──
unfoldable pub SetBelow : (ℕ → Bool) → ℕ → ℕ → Type 0
SetBelow g j m = (k : ℕ) → bit_at m k ≡ (ltb k j && g k)

pub below-start : (g : ℕ → Bool) → SetBelow g 0 0
unfolding SetBelow
below-start g k = bit-none k ∙ rw (le-ltb k 0 (omega arith))

module _ (g : ℕ → Bool) (j m : ℕ) (h : SetBelow g j m) where
  pub below_next : (n : ℕ) → ((k : ℕ) → bit_at n k ≡ (bit_at m k || (eqb k j && g j))) → SetBelow g (j + 1) n
  unfolding SetBelow
  below_next n e k = rw (add-one j, e k, h k, below_suc g j k) (or_comm (ltb k j && g k) (eqb k j && g j))

  pub below_end : ((k : ℕ) → j ≤ k → g k ≡ false) → (k : ℕ) → bit_at m k ≡ g k
  unfolding SetBelow
  below_end None k = h k ∙ by_cases (ltb k j) (λ l. rw l) (λ l. rw (l, None k (ltb-false k j l)))

-- ── A loop from bit to bit, that sets the bits of those of a mask who pass a test g: those of `rest` were not asked yet ──
unfoldable pub AskedBut : (ℕ → Bool) → ℕ → ℕ → ℕ → Type 0
AskedBut g m₀ rest m = (k : ℕ) → (bit_at m₀ k || g k) ≡ (bit_at m k || (bit_at rest k && g k))

module _ (g : ℕ → Bool) (m₀ : ℕ) where
  -- nobody passes who is left out, and nobody is asked whose bit is set
  pub asked-start : (able rest : ℕ) → ((k : ℕ) → bit_at able k ≡ false → g k ≡ false) → ((k : ℕ) → bit_at rest k ≡ (bit_at able k && not (bit_at m₀ k))) → AskedBut g m₀ rest m₀
  unfolding AskedBut
  asked-start able rest out is k = rw (is k) (by_cases (bit_at m₀ k) (λ e. rw e) (λ e. by_cases (bit_at able k) (λ a. rw (e, a)) (λ a. rw (e, a, out k a))))

  module _ (rest m : ℕ) (left : AskedBut g m₀ rest m) where
    pub asked-next : (j new cut : ℕ) → bit_at rest j ≡ true → ((k : ℕ) → bit_at new k ≡ (bit_at m k || (eqb k j && g j)))
        → ((k : ℕ) → bit_at cut k ≡ (not (eqb k j) && bit_at rest k)) → AskedBut g m₀ cut new
    unfolding AskedBut
    asked-next j new cut is set without k = left k ∙ by_cases (eqb k j)
        (λ e. let q : k ≡ j = eqb-true k j e in rw (set k, without k, e, q, is) (sym (or-false _)))
        (λ e. rw (set k, without k, e, or-false (bit_at m k)))

    pub asked-end : rest ≡ 0 → (k : ℕ) → bit_at m k ≡ (bit_at m₀ k || g k)
    unfolding AskedBut
    asked-end over k = sym (left k ∙ rw (over, bit-none k) (or-false (bit_at m k)))

-- ── Bytes ──
bytes-long : (n m : ℕ) → length (bytes_of n m) ≡ n
unfolding bytes_of
bytes-long zero m = refl
bytes-long (suc n) m = ap suc (bytes-long n (m / 2 ^ byte_bits))

pub mask-long : (m : ℕ) → length (encode_mask m) ≡ mask_bytes
unfolding encode_mask
mask-long m = bytes-long mask_bytes m

bytes_back : (n m : ℕ) (rest : Bytes) → m < 2 ^ (n * byte_bits) → little_endian n (bytes_of n m ++ rest) ≡ m
unfolding little_endian bytes_of
bytes_back zero m rest h = omega arith
bytes_back (suc n) m rest h =
    let less = shr_lt (n * byte_bits) byte_bits (rw suc-mul at h) in
    rw (bytes_back n (m / 2 ^ byte_bits) rest less) (omega arith)

-- a mask in its bytes is read back, whatever stands behind them
pub mask-back : (m : ℕ) (rest : Bytes) → m < 2 ^ max_users → decode_mask (encode_mask m ++ rest) ≡ m
unfolding decode_mask encode_mask
mask-back m rest h = bytes_back mask_bytes m rest h
