use native.Mathlib.Omega.{arith}
use Rattle.values.proofs.Values.{string-not, string-is, string-inside}
use borrow.Author.Rules.{rules}
use Rattle.values.proofs.value.text_at.Goals as goal

-- What stands between the quotes is the string, and a part of the text.

pub returns-in_err-e : goal.returns-in_err-e
returns-in_err-e c = rw c.from_residual.ensures (string-not _ _ _ c.between.ensures c.in_err-e.was, tt)

pub overflow_sub-result : goal.overflow_sub-result
overflow_sub-result c =
    omega (arith, (string-inside _ _ _ c.between.ensures (search rules) _ c.in_ok-e.was).0)

pub returns : goal.returns
returns c = (
  string-is _ _ _ c.between.ensures _ c.in_ok-e.was,
  string-inside _ _ _ c.between.ensures (search rules) _ c.in_ok-e.was,
)
