-- Comparing texts from a position on: after two equal bytes what is left is the same comparison of what stands behind them.
use Prim.Native.Nat.{ℕ, ◌+◌, ◌-◌, ◌≤◌, ◌<◌, min, compare, Ordering}
use mathlib.Core.Path.{◌≡◌, refl, sym, ap, ◌∙◌}
use Rattle.std.specs.Prelude.{Option, None, Some}
use mathlib.Core.Bool.{true, false}
use mathlib.Core.List.{List}
use native.Mathlib.Omega.{arith}
use lib.Dec.{is_le, compare_is_eq}
use lib.ListN.{length, get_or, drop, length-append, length-drop}
use lib.Seq.{drop-append_seam, drop-drop}
use native.Mathlib.Nat.{add_assoc}
use borrow.Author.Tests.{eq-eqb, ne_eqb, eqb-true, leb-true, leb-false}
use Rattle.rows.proofs.Positions.{here, over}
use Rattle.model.specs.Base.{Bytes, ◌≐◌, after, is_some}
use Rattle.model.specs.Fields.{and_then, lex, by_order}
use Rattle.model.proofs.Lists.{by_cases, never, bytes_eq, bytes-refl}
use Rattle.model.proofs.Order.{by_three, compare-orders}
use Rattle.model.proofs.Reading.{after-some}
use Rattle.lexical.specs.Orders.{order_of, is_greater}
use Rattle.std.specs.declared.cmp.Ordering as answer
use Rattle.std.specs.declared.cmp.Ordering.TheVariants.{Less, Equal, Greater}
use Rattle.std.specs.Ordering.{MatchOrdering, nat_cmp, is_gt}
use Rattle.std.specs.Cmp.{ranks}

-- ── Whether two texts are the same ──
module _ (a b : Bytes) where
  -- texts of which something differs
  pub same_not : {A : Type 0} (f : Bytes → A) → (f a ≡ f b → ⊥) → (a ≐ b) ≡ false
  same_not f h = by_cases (a ≐ b) (λ e. absurd (h (ap f (bytes_eq a b e)))) (λ e. e)

  -- from the end back: nothing is left behind the last byte, one equal byte more before what is equal, and at the start all is
  module _ (i : ℕ) where
    pub same_end : length a ≤ i → length b ≤ i → drop i a ≡ drop i b
    same_end p q = over a i p ∙ sym (over b i q)

    pub same_back : 0 < i → i ≤ length a → i ≤ length b → get_or a (i - 1) 0 ≡ get_or b (i - 1) 0 → drop i a ≡ drop i b
        → drop (i - 1) a ≡ drop (i - 1) b
    same_back z p q h r =
        let e : i - 1 + 1 ≡ i = omega arith in
        rw (here 0 a (i - 1) (omega arith), here 0 b (i - 1) (omega arith), e, h, r)

    pub same_start : i ≤ 0 → drop i a ≡ drop i b → (a ≐ b) ≡ true
    same_start z r = let e : i ≡ 0 = omega arith in rw (rw e at r) (bytes-refl b)

-- ── The order of two lists, by an order o of their elements ──
module _ {A : Type 0} (o : A → A → Ordering) (z : A) (a b : List A) (i : ℕ) where
  pub lex-step : i < length a → i < length b
      → lex o (drop i a) (drop i b) ≡ and_then (o (get_or a i z) (get_or b i z)) (lex o (drop (i + 1) a) (drop (i + 1) b))
  unfolding lex
  lex-step p q = rw (here z a i p, here z b i q)

  pub lex-shorter : length a ≤ i → i < length b → lex o (drop i a) (drop i b) ≡ Ordering.lt
  unfolding lex
  lex-shorter p q = rw (over a i p, here z b i q)

  pub lex-longer : i < length a → length b ≤ i → lex o (drop i a) (drop i b) ≡ Ordering.gt
  unfolding lex
  lex-longer p q = rw (here z a i p, over b i q)

  pub lex-end : length a ≤ i → length b ≤ i → lex o (drop i a) (drop i b) ≡ Ordering.eq
  unfolding lex
  lex-end p q = rw (over a i p, over b i q)

-- ── The order of two numbers, and of two texts by the bytes at i ──
module _ (x y : ℕ) where
  pub compare-less : x < y → compare x y ≡ Ordering.lt
  compare-less h = by_three (compare x y)
      (λ e. e)
      (λ e. absurd (omega (arith, eqb-true x y (ap compare_is_eq e))))
      (λ e. absurd (omega (arith, leb-false x y (ap is_le e))))

  pub compare_same : x ≡ y → compare x y ≡ Ordering.eq
  compare_same h = rw h (compare-orders.self y)

  pub compare-more : y < x → compare x y ≡ Ordering.gt
  compare-more h = by_three (compare x y)
      (λ e. absurd (omega (arith, leb-true x y (ap is_le e))))
      (λ e. absurd (omega (arith, leb-true x y (ap is_le e))))
      (λ e. e)

-- two numbers that differ decide, whatever follows
pub different-first : (x y : ℕ) → (x ≡ y → ⊥) → (r : Ordering) → and_then (compare x y) r ≡ compare x y
unfolding and_then
different-first x y h r = go (compare x y) refl
  where
    go : (o : Ordering) → compare x y ≡ o → and_then o r ≡ o
    go Ordering.lt e = refl
    go Ordering.eq e = absurd (h (eqb-true x y (ap compare_is_eq e)))
    go Ordering.gt e = refl

module _ (a b : Bytes) (i : ℕ) (p : i < length a) (q : i < length b) where
  pub order-step : get_or a i 0 ≡ get_or b i 0 → lex compare (drop i a) (drop i b) ≡ lex compare (drop (i + 1) a) (drop (i + 1) b)
  unfolding and_then
  order-step h = lex-step compare 0 a b i p q ∙ rw (compare_same (get_or a i 0) (get_or b i 0) h)

  pub order-differs : (get_or a i 0 ≡ get_or b i 0 → ⊥) → lex compare (drop i a) (drop i b) ≡ compare (get_or a i 0) (get_or b i 0)
  order-differs h = lex-step compare 0 a b i p q ∙ different-first _ _ h _

-- where one ends, the lengths decide
pub order-ends : (a b : Bytes) (i : ℕ) → i ≡ min (length a) (length b) → lex compare (drop i a) (drop i b) ≡ compare (length a) (length b)
order-ends a b i e = go (nat_cmp (length a) (length b)) (ranks (length a) (length b))
  where
    go : (o : answer.Ordering) → MatchOrdering o (length a < length b) (length a ≡ length b) (length b < length a) → lex compare (drop i a) (drop i b) ≡ compare (length a) (length b)
    go Less h = lex-shorter compare 0 a b i (omega arith) (omega arith) ∙ sym (compare-less _ _ h)
    go Equal h = lex-end compare 0 a b i (omega arith) (omega arith) ∙ sym (compare_same _ _ h)
    go Greater h = lex-longer compare 0 a b i (omega arith) (omega arith) ∙ sym (compare-more _ _ h)

-- the library's order of two numbers, as the model's
pub cmp-order : (x y : ℕ) → nat_cmp x y ≡ order_of (compare x y)
cmp-order x y = go (nat_cmp x y) (ranks x y)
  where
    go : (o : answer.Ordering) → MatchOrdering o (x < y) (x ≡ y) (y < x) → o ≡ order_of (compare x y)
    go Less h = ap order_of (sym (compare-less x y h))
    go Equal h = ap order_of (sym (compare_same x y h))
    go Greater h = ap order_of (sym (compare-more x y h))

pub greater-told : (o : Ordering) → is_gt (order_of o) ≡ is_greater o
unfolding by_order
greater-told Ordering.lt = refl
greater-told Ordering.eq = refl
greater-told Ordering.gt = refl

pub behind-order : (o : Ordering) → is_greater o ≡ true → o ≡ Ordering.gt
unfolding by_order
behind-order Ordering.lt h = never (sym h)
behind-order Ordering.eq h = never (sym h)
behind-order Ordering.gt h = refl

-- ── A word at the position `at` of a text ──
module _ (w s : Bytes) (at i : ℕ) where
  pub after-step : i < length w → at + i < length s → get_or s (at + i) 0 ≡ get_or w i 0
      → after (drop i w) (drop (at + i) s) ≡ after (drop (i + 1) w) (drop (at + (i + 1)) s)
  unfolding after
  after-step p q h = rw (here 0 w i p, here 0 s (at + i) q, eq-eqb (get_or w i 0) (get_or s (at + i) 0) (sym h), add_assoc)

  pub after_stop : i < length w → at + i < length s → (get_or s (at + i) 0 ≡ get_or w i 0 → ⊥) → after (drop i w) (drop (at + i) s) ≡ None
  unfolding after
  after_stop p q h = rw (here 0 w i p, here 0 s (at + i) q, ne_eqb (get_or w i 0) (get_or s (at + i) 0) (λ e. h (sym e)))

  pub after-end : length w ≤ i → after (drop i w) (drop (at + i) s) ≡ Some (drop (at + i) s)
  unfolding after
  after-end p = rw (over w i p)

-- whether a word stands there says what is behind it
module _ (w s : Bytes) where
  pub after-yes : is_some (after w s) ≡ true → (after w s ≡ Some (drop (length w) s)) × (length w ≤ length s)
  after-yes h = go (after w s) refl h
    where
      go : (o : Option Bytes) → after w s ≡ o → is_some o ≡ true → (after w s ≡ Some (drop (length w) s)) × (length w ≤ length s)
      go None e h = never (unfold is_some in sym h)
      go (Some r) e h =
          let k = after-some w s r e in
          (e ∙ ap Some (sym (drop-append_seam w r) ∙ ap (drop (length w)) (sym k)), omega (arith, ap length k, length-append w r))

  pub after-no : is_some (after w s) ≡ false → after w s ≡ None
  after-no h = go (after w s) h
    where
      go : (o : Option Bytes) → is_some o ≡ false → o ≡ None
      go None h = refl
      go (Some r) h = never (unfold is_some in h)

  pub after-short : length s < length w → is_some (after w s) ≡ false
  after-short h = by_cases (is_some (after w s)) (λ e. absurd (omega (arith, (after-yes e).1))) (λ e. e)

-- the same by positions
pub after-at : (w s : Bytes) (at : ℕ) → at ≤ length s → is_some (after w (drop at s)) ≡ true
    → (after w (drop at s) ≡ Some (drop (at + length w) s)) × (at + length w ≤ length s)
after-at w s at p h =
    let (e, k) = after-yes w (drop at s) h in
    (e ∙ ap Some (drop-drop (length w) at s), omega (arith, length-drop at s))
