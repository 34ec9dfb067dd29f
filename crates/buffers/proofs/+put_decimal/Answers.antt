use native.Mathlib.Omega.{arith}
use borrow.Author.Rules.{rules}
use Rattle.buffers.proofs.Writers.{wrote_one, wrote-more, digits-one, digits_more}
use Rattle.buffers.proofs.+put_decimal.Goals as goal

-- One digit, or the digits of the tenth part and then the last one.

pub put_byte-requires : goal.put_byte-requires
put_byte-requires t c = omega (arith, digits-one c.args.n (search rules))

pub returns-then-n-lt10 : goal.returns-then-n-lt10
returns-then-n-lt10 t c =
    wrote_one _ _ _ _ _ c.if-n-lt10.true c.put_byte.ensures

pub put_decimal-to-requires : goal.put_decimal-to-requires
put_decimal-to-requires t c =
    (search rules, omega (arith, digits_more c.args.n (search rules)))

pub put_byte-requires-2 : goal.put_byte-requires-2
put_byte-requires-2 t c =
    omega (arith, digits_more c.args.n (search rules))

pub returns : goal.returns
returns t c =
    wrote-more _ _ _ _ _ _ _ c.if-n-lt10.false
    c.put_decimal-to.ensures
    c.put_byte-2.ensures
