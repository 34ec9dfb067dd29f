use native.Mathlib.Omega.{arith}
use mathlib.Core.Path.{refl}
use Rattle.rows.proofs.Positions.{run-within}
use Rattle.model.specs.RecordText.{is_blank}
use Rattle.lexical.specs.declared.class.Class.TheVariants.{Name}
use Rattle.lexical.proofs.Between.{Stands, between-bad, between-at}
use Rattle.reader.proofs.Spaced.{key-spaced, key-is, spaced-none}
use borrow.Author.Rules.{rules}
use Rattle.model.specs.Limits.{max_key}
use Rattle.reader.proofs.tokens.key_at.Goals.{In_ok-e}
use Rattle.reader.proofs.tokens.key_at.Goals as goal

-- What `between` answers is the key, and the run of the blanks behind its quote is where the next token stands.

-- a key stands where `between` says
stands : (c : In_ok-e)
    → let a = c.args in Stands Name 0x22 1 max_key a.s.now a.at c.in_ok-e.e
stands c = between-at Name 0x22 1 max_key _ _ _ c.between.ensures (search rules) _ c.in_ok-e.was

pub returns-in_err-e : goal.returns-in_err-e
returns-in_err-e c =
    rw c.from_residual.ensures (record { result_value = spaced-none _ _ key-spaced _ _ (between-bad Name 0x22 1 max_key _ _ _ c.between.ensures c.in_err-e.was); key_in_text = tt })

pub run-next-requires : goal.run-next-requires
run-next-requires c = (stands c).reads.to

pub overflow_sub-result : goal.overflow_sub-result
overflow_sub-result c = omega (arith, stands (goal.at.overflow_sub-result c).In_ok-e)

pub returns : goal.returns
returns c =
    let k = stands (goal.at.returns c).In_ok-e in
    let w = run-within is_blank _ _ _ c.run-next.ensures k.reads.to in
    record { result_value = key-is _ _ _ k _ c.run-next.ensures; key_in_text = (refl, omega (arith, k), omega (arith, k, w), w.1) }
