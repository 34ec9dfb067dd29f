-- First bytes as one number: numbers in order are texts in order.
use Prim.Native.Nat.{ℕ, zero, suc, ◌+◌, ◌*◌, ◌^◌, ◌≤◌, ◌<◌, compare, Ordering}
use mathlib.Core.Path.{◌≡◌, refl, sym, ap, ◌∙◌}
use mathlib.Core.Bool.{true}
use mathlib.Core.List.{[], ◌∷◌}
use native.Mathlib.Nat.{mul-suc, pow-zero, pow-suc, mul-le-mul_left, le_of_suc-le-suc}
use native.Mathlib.Omega.{arith}
use borrow.Author.Tests.{leb-true, ltb-true, ltb-false, eqb-true, eqb-false, le-ltb, lt-ltb}
use lib.Dec.{leb, ltb, eqb}
use lib.ListN.{length, get_or, drop, length-drop}
use lib.Seq.{get_or-drop, drop-drop}
use Rattle.model.specs.Base.{Bytes, ◌≐◌}
use Rattle.model.specs.Fields.{and_then, lex, order_key, by_order}
use Rattle.model.proofs.Lists.{by_cases, and_both, bytes-refl}
use Rattle.model.proofs.Order.{key-orders}
use Rattle.lexical.specs.Orders.{is_greater, word_bytes, big_endian, AreBytes, first_word, begins_before}
use Rattle.lexical.proofs.Slices.{same_not, lex-end, compare-less, compare_same, compare-more}

-- what holds in each of the three orders of two numbers
by-order : {C : Type 0} (x y : ℕ) → (x < y → C) → (x ≡ y → C) → (y < x → C) → C
by-order x y f g h = by_cases (ltb x y)
    (λ l. f (ltb-true x y l))
    (λ l. by_cases (eqb x y) (λ e. g (eqb-true x y e)) (λ e. h (omega (arith, ltb-false x y l, eqb-false x y e))))

-- x and y count p times as much as what is added, and that is less than p
compare-scaled : (p x y m n : ℕ) → m < p → n < p → compare (p * x + m) (p * y + n) ≡ and_then (compare x y) (compare m n)
unfolding and_then
compare-scaled p x y m n h k = by-order x y
    (λ l. rw (compare-less x y l, compare-less (p * x + m) (p * y + n) (omega (arith, mul-le-mul_left p l, mul-suc p x))))
    (λ e. rw (compare_same x y e, e) (by-order m n
    (λ l. rw (compare-less m n l, compare-less (p * y + m) (p * y + n) (omega arith)))
    (λ l. rw (compare_same m n l, compare_same (p * y + m) (p * y + n) (omega arith)))
    (λ l. rw (compare-more m n l, compare-more (p * y + m) (p * y + n) (omega arith)))))
    (λ l. rw (compare-more x y l, compare-more (p * x + m) (p * y + n) (omega (arith, mul-le-mul_left p l, mul-suc p y))))

-- so equal numbers have equal parts
scaled-same : (p x y m n : ℕ) → m < p → n < p → p * x + m ≡ p * y + n → (x ≡ y) × (m ≡ n)
scaled-same p x y m n h k e = by-order x y
    (λ l. absurd (omega (arith, mul-le-mul_left p l, mul-suc p x)))
    (λ f. (f, omega (arith, ap (λ (z : ℕ). p * z) f)))
    (λ l. absurd (omega (arith, mul-le-mul_left p l, mul-suc p y)))

later-bytes : (k : ℕ) (s : Bytes) → AreBytes s → AreBytes (drop k s)
later-bytes k s h i = rw get_or-drop (h (k + i))

word_small : (n : ℕ) (s : Bytes) → AreBytes s → big_endian n s < 256 ^ n
unfolding big_endian
word_small zero s h = rw pow-zero (omega arith)
word_small (suc n) s h =
    let first : 256 ^ n * get_or s 0 0 ≤ 256 ^ n * 255 = mul-le-mul_left (256 ^ n) (omega (arith, h 0)) in
    rw pow-suc (omega (arith, word_small n (drop 1 s) (later-bytes 1 s h)))

and-then : (o p q : Ordering) → and_then o (and_then p q) ≡ and_then (and_then o p) q
unfolding and_then
and-then Ordering.lt p q = refl
and-then Ordering.eq p q = refl
and-then Ordering.gt p q = refl

-- the first n bytes decide, or what stands behind them
pub order-words : (n : ℕ) (s t : Bytes) → n ≤ length s → n ≤ length t → AreBytes s → AreBytes t
    → lex compare s t ≡ and_then (compare (big_endian n s) (big_endian n t)) (lex compare (drop n s) (drop n t))
unfolding big_endian and_then lex
order-words zero s t p q b c = refl
order-words (suc n) [] t p q b c = absurd (omega arith)
order-words (suc n) (x ∷ s) [] p q b c = absurd (omega arith)
order-words (suc n) (x ∷ s) (y ∷ t) p q b c =
    let later = order-words n s t (le_of_suc-le-suc p) (le_of_suc-le-suc q) (λ i. b (suc i)) (λ i. c (suc i)) in
    let scaled = compare-scaled (256 ^ n) x y (big_endian n s) (big_endian n t) (word_small n s (λ i. b (suc i))) (word_small n t (λ i. c (suc i))) in
    rw (later, scaled) (and-then (compare x y) (compare (big_endian n s) (big_endian n t)) (lex compare (drop n s) (drop n t)))

-- equal words begin with equal words
front_same : (j n : ℕ) (s t : Bytes) → j ≤ n → AreBytes s → AreBytes t → big_endian n s ≡ big_endian n t → big_endian j s ≡ big_endian j t
unfolding big_endian
front_same zero n s t h b c e = refl
front_same (suc j) zero s t h b c e = absurd (omega arith)
front_same (suc j) (suc n) s t h b c e =
    let (first, later) = scaled-same (256 ^ n) (get_or s 0 0) (get_or t 0 0) (big_endian n (drop 1 s)) (big_endian n (drop 1 t))
    (word_small n (drop 1 s) (later-bytes 1 s b)) (word_small n (drop 1 t) (later-bytes 1 t c)) e in
    rw (first, front_same j n (drop 1 s) (drop 1 t) (le_of_suc-le-suc h) (later-bytes 1 s b) (later-bytes 1 t c) later)

module _ (n : ℕ) (s t : Bytes) (p : n ≤ length s) (q : n ≤ length t) (b : AreBytes s) (c : AreBytes t) where
  -- where the words of n bytes are equal, what stands from within them on decides
  pub order-within : (at : ℕ) → at ≤ n → big_endian n s ≡ big_endian n t → lex compare s t ≡ lex compare (drop at s) (drop at t)
  unfolding and_then
  order-within at h e = order-words at s t (omega arith) (omega arith) b c ∙ rw (compare_same (big_endian at s) (big_endian at t) (front_same at n s t h b c e))

  -- where they differ, they decide
  pub word-behind : (big_endian n s ≡ big_endian n t → ⊥) → ltb (big_endian n t) (big_endian n s) ≡ is_greater (lex compare s t)
  unfolding and_then by_order
  word-behind d = rw (order-words n s t p q b c) (by-order (big_endian n s) (big_endian n t)
      (λ l. rw (compare-less (big_endian n s) (big_endian n t) l, le-ltb (big_endian n t) (big_endian n s) (omega arith)))
      (λ e. absurd (d e))
      (λ l. rw (compare-more (big_endian n s) (big_endian n t) l, lt-ltb (big_endian n t) (big_endian n s) l)))

module _ (n : ℕ) (s t : Bytes) (p : n ≤ length s) (q : n ≤ length t) (b : AreBytes s) (c : AreBytes t) where
  -- where they are equal, the words from `at` within them on decide
  module _ (at : ℕ) (h : at ≤ n) (e : big_endian n s ≡ big_endian n t) (p2 : at + n ≤ length s) (q2 : at + n ≤ length t) where
    pub second-behind : (big_endian n (drop at s) ≡ big_endian n (drop at t) → ⊥)
        → ltb (big_endian n (drop at t)) (big_endian n (drop at s)) ≡ is_greater (lex compare s t)
    second-behind d = rw (order-within n s t p q b c at h e) (word-behind n (drop at s) (drop at t) (rw length-drop (omega arith)) (rw length-drop (omega arith)) (later-bytes at s b) (later-bytes at t c) d)

    pub second-same : big_endian n (drop at s) ≡ big_endian n (drop at t) → lex compare s t ≡ lex compare (drop (at + n) s) (drop (at + n) t)
    second-same f = order-within n s t p q b c at h e
        ∙ rw (order-within n (drop at s) (drop at t) (rw length-drop (omega arith)) (rw length-drop (omega arith)) (later-bytes at s b) (later-bytes at t c) n (omega arith) f, drop-drop n at s, drop-drop n at t)

  -- where both end with equal words from within the first ones on, these decide whether they are the same
  pub words_same : (at : ℕ) → at ≤ n → length s ≡ at + n → length t ≡ at + n → big_endian n (drop at s) ≡ big_endian n (drop at t)
      → eqb (big_endian n s) (big_endian n t) ≡ (s ≐ t)
  unfolding order_key
  words_same at h l m f = by_cases (eqb (big_endian n s) (big_endian n t))
      (λ e.
      let o = second-same at h (eqb-true (big_endian n s) (big_endian n t) e) (omega arith) (omega arith) f ∙ lex-end compare 0 s t (at + n) (omega arith) (omega arith) in
      rw (e, key-orders.same s t o, bytes-refl t))
      (λ e. rw (e, same_not s t (big_endian n) (eqb-false (big_endian n s) (big_endian n t) e)))

-- what begins with a lesser word than the first of s stands before s
pub begins-behind : (s t : Bytes) → AreBytes s → AreBytes t → begins_before t (first_word s) ≡ true → is_greater (order_key s t) ≡ true
unfolding order_key begins_before first_word
begins-behind s t b c h = by_cases (leb word_bytes (length s))
    (λ e.
    let (q, l) = and_both (leb word_bytes (length t)) _ h in
    let less = ltb-true (big_endian word_bytes t) (big_endian word_bytes s) (rw e at l) in
    sym (word-behind word_bytes s t (leb-true word_bytes (length s) e) (leb-true word_bytes (length t) q) b c (λ f. omega arith))
    ∙ lt-ltb (big_endian word_bytes t) (big_endian word_bytes s) less)
    (λ e. absurd (omega (arith, ltb-true (big_endian word_bytes t) 0 (rw e at (and_both (leb word_bytes (length t)) _ h).1))))
