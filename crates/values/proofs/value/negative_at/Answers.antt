use Prim.Native.Nat.{◌≤◌}
use mathlib.Core.Path.{◌≡◌, sym, ◌∙◌}
use mathlib.Core.Bool.{true}
use mathlib.Core.List.{[], ◌∷◌}
use lib.ListN.{drop}
use Rattle.rows.proofs.Positions.{run-within}
use Rattle.model.specs.Base.{after, is_some}
use Rattle.lexical.proofs.Runs.{byte-stands}
use Rattle.lexical.proofs.Decimals.{number-some}
use Rattle.values.proofs.Values.{big_fits, small_fits, minus-fits, minus_is, negative-unsigned, negative-bad, negative-zero, negative-is}
use Rattle.values.proofs.value.negative_at.Goals.{Else-not-is_at, Else-n-eq0}
use Rattle.values.proofs.value.negative_at.Goals as goal

-- Behind the sign the digits spell a number that is no zero; the smallest i32 is returned as it is, and any other is the negation of a cast number.

-- the sign stands there
signed : (c : Else-not-is_at) → let a = c.args in is_some (after (0x2D ∷ []) (drop a.at a.s.now)) ≡ true
signed c = sym c.is_at.ensures ∙ c.if-not-is_at.false

pub returns-then-not-is_at : goal.returns-then-not-is_at
returns-then-not-is_at c = (negative-unsigned _ _ (sym c.is_at.ensures ∙ c.if-not-is_at.true), tt)

pub run-to-requires : goal.run-to-requires
run-to-requires c = (byte-stands _ _ _ (signed c)).0

pub slice_bounds-number-count : goal.slice_bounds-number-count
slice_bounds-number-count c = (run-within _ _ _ _ c.run-to.ensures (run-to-requires (goal.at.slice_bounds-number-count c).Else-not-is_at)).0

pub slice_bounds-number-start : goal.slice_bounds-number-start
slice_bounds-number-start c = slice_bounds-number-count c

pub slice_bounds-number-end : goal.slice_bounds-number-end
slice_bounds-number-end c = (run-within _ _ _ _ c.run-to.ensures (run-to-requires (goal.at.slice_bounds-number-end c).Else-not-is_at)).1

pub returns-in_err-n : goal.returns-in_err-n
returns-in_err-n c = rw c.from_residual.ensures
    (negative-bad _ _ (signed (goal.at.returns-in_err-n c).Else-not-is_at) _ c.run-to.ensures (sym c.in_err-n.ensures), tt)

pub returns-then-n-eq0 : goal.returns-then-n-eq0
returns-then-n-eq0 c =
    (negative-zero _ _ (signed (goal.at.returns-then-n-eq0 c).Else-not-is_at) _ c.run-to.ensures _ c.if-n-eq0.true (sym c.in_ok-n.ensures), tt)

-- the size is that of an i32 below 0
small : (c : Else-n-eq0) → c.in_ok-n.n ≤ 2147483648
small c = (number-some _ _ _ (sym c.in_ok-n.ensures)).2

pub overflow_cast-result : goal.overflow_cast-result
overflow_cast-result c = big_fits _ c.if-n-eq0.false (small c)

pub overflow_sub-result : goal.overflow_sub-result
overflow_sub-result c = minus-fits _ c.if-n-eq0.false (small c)

pub overflow_cast-result-2 : goal.overflow_cast-result-2
overflow_cast-result-2 c = small_fits _ c.if-n-eq0.false (small c)

pub returns : goal.returns
returns c = (
  negative-is _ _ (signed (goal.at.returns c).Else-not-is_at) _ c.run-to.ensures _ _ c.if-n-eq0.false (minus_is _ c.if-n-eq0.false (small c)) (sym c.in_ok-n.ensures),
  tt,
)
