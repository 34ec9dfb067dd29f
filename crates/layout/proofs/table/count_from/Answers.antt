use borrow.Author.Rules.{rules}
use mathlib.Core.Path.{refl}
use native.Mathlib.Nat.{mul-lt-mul_of_pos_right}
use native.Mathlib.Omega.{arith}
use Rattle.layout.proofs.Used.{used-fit, used-last, used-more, byte-empty, byte_full}
use Rattle.layout.proofs.table.count_from.Goals as goal

-- The first rows are known to be in use, and each turn counts one more; the count ends at an empty row or behind the last.

pub overflow_mul-i : goal.overflow_mul-i
overflow_mul-i c = omega (arith, mul-lt-mul_of_pos_right c.loop-i-test.true c.requires.0.0)

pub bounds-t-i : goal.bounds-t-i
bounds-t-i c = omega (arith, mul-lt-mul_of_pos_right c.loop-i-test.true c.requires.0.0)

pub returns-then-t-i-eq0 : goal.returns-then-t-i-eq0
returns-then-t-i-eq0 c =
    let l = c.loop-i in
    let a = c.args in
    omega (arith, used-last a.size a.most a.t.now l.i (search rules) l.invariant refl (byte-empty a.size a.most a.t.now l.i c.requires.0.0 c.if-t-i-eq0.true))

pub loop-i-preserved : goal.loop-i-preserved
loop-i-preserved c =
    let l = c.loop-i in
    let a = c.args in
    let more = used-more a.size a.most a.t.now l.i (search rules) l.invariant refl (byte_full a.size a.most a.t.now l.i c.requires.0.0 c.if-t-i-eq0.false) in
    omega arith

pub returns : goal.returns
returns c = let a = c.args in omega (arith, used-fit a.size a.most a.t.now)
