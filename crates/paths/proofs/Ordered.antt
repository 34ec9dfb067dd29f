-- The order of two slots' paths from the key i on: where both have one, the two keys decide, or what stands behind them; where one ends, the numbers of keys.
use Prim.Native.Nat.{Ordering, compare}
use Prim.Native.Nat.{ℕ, ◌+◌, ◌*◌, ◌<◌, min}
use mathlib.Core.Path.{◌≡◌, refl, sym, ap, ◌∙◌}
use mathlib.Core.Bool.{true, false}
use mathlib.Core.List.{[]}
use native.Mathlib.Omega.{arith}
use borrow.Author.Tests.{eqb-false}
use lib.ListN.{get_or, take, drop}
use Rattle.std.specs.declared.cmp.Ordering as answer
use Rattle.std.specs.declared.cmp.Ordering.TheVariants.{Less, Equal, Greater}
use Rattle.std.specs.Ordering.{MatchOrdering, nat_cmp}
use Rattle.std.specs.Cmp.{ranks}
use Rattle.model.specs.Limits.{max_depth}
use Rattle.model.specs.Base.{Bytes}
use Rattle.model.specs.Fields.{and_then, lex, order_key, order_path}
use Rattle.lexical.specs.Orders.{order_of, is_greater}
use Rattle.lexical.proofs.Slices.{lex-shorter, lex-longer, lex-end, compare-less, compare_same, compare-more, behind-order}
use Rattle.paths.specs.Layout.{path_in}
use Rattle.layout.specs.Layout.{key_row, name_in, is_empty, slot_count}
use Rattle.layout.proofs.Counts.{counted_step, length-counted}

module _ (a b : Bytes) (i : ℕ) where
  -- x and y are the keys at i
  module _ {x y : Bytes} (p : i < slot_count max_depth a) (q : i < slot_count max_depth b)
      (e : x ≡ name_in (take key_row (drop (i * key_row + 1) a))) (f : y ≡ name_in (take key_row (drop (i * key_row + 1) b))) where
    pub paths-step : lex order_key (drop i (path_in a)) (drop i (path_in b)) ≡ and_then (order_key x y) (lex order_key (drop (i + 1) (path_in a)) (drop (i + 1) (path_in b)))
    unfolding path_in lex
    paths-step = rw (counted_step name_in key_row max_depth a i p, counted_step name_in key_row max_depth b i q, ← e, ← f)

    -- their comparison answered r
    module _ {r : answer.Ordering} (is : r ≡ order_of (order_key x y)) where
      pub keys-same : r ≡ Equal → lex order_key (drop i (path_in a)) (drop i (path_in b)) ≡ lex order_key (drop (i + 1) (path_in a)) (drop (i + 1) (path_in b))
      unfolding and_then
      keys-same t = paths-step ∙ go (order_key x y) (sym is ∙ t) _
        where
          go : (o : Ordering) → order_of o ≡ Equal → (n : Ordering) → and_then o n ≡ n
          go Ordering.lt h n = cc
          go Ordering.eq h n = refl
          go Ordering.gt h n = cc

      pub keys-differ : (r ≡ Equal → ⊥) → r ≡ order_of (lex order_key (drop i (path_in a)) (drop i (path_in b)))
      unfolding and_then
      keys-differ f = is ∙ ap order_of (go (order_key x y) (λ h. f (is ∙ h)) _ ∙ sym paths-step)
        where
          go : (o : Ordering) → (order_of o ≡ Equal → ⊥) → (n : Ordering) → o ≡ and_then o n
          go Ordering.lt h n = refl
          go Ordering.eq h n = absurd (h refl)
          go Ordering.gt h n = refl

  pub paths-end : i ≡ min (slot_count max_depth a) (slot_count max_depth b)
      → lex order_key (drop i (path_in a)) (drop i (path_in b)) ≡ compare (slot_count max_depth a) (slot_count max_depth b)
  unfolding path_in
  paths-end e = go (nat_cmp m n) (ranks m n)
    where
      m : ℕ
      m = slot_count max_depth a

      n : ℕ
      n = slot_count max_depth b

      go : (o : answer.Ordering) → MatchOrdering o (m < n) (m ≡ n) (n < m) → lex order_key (drop i (path_in a)) (drop i (path_in b)) ≡ compare m n
      go Less h = lex-shorter order_key [] _ _ i (rw length-counted (omega arith)) (rw length-counted (omega arith)) ∙ sym (compare-less _ _ h)
      go Equal h = lex-end order_key [] _ _ i (rw length-counted (omega arith)) (rw length-counted (omega arith)) ∙ sym (compare_same _ _ h)
      go Greater h = lex-longer order_key [] _ _ i (rw length-counted (omega arith)) (rw length-counted (omega arith)) ∙ sym (compare-more _ _ h)

-- x and y are the first keys, and x is behind y
pub paths-behind : (a b : Bytes) {x y : Bytes} → is_empty a ≡ false → is_empty b ≡ false
    → x ≡ name_in (take key_row (drop (0 * key_row + 1) a)) → y ≡ name_in (take key_row (drop (0 * key_row + 1) b))
    → is_greater (order_key x y) ≡ true → order_path (path_in a) (path_in b) ≡ Ordering.gt
unfolding order_path and_then is_empty
paths-behind a b {x} {y} p q e f h =
    paths-step a b 0 (omega (arith, eqb-false (get_or a 0 0) 0 p)) (omega (arith, eqb-false (get_or b 0 0) 0 q)) e f
    ∙ rw (behind-order (order_key x y) h)
