use Rattle.values.proofs.Values.{value-bad, value-reads}
use Rattle.reader.proofs.Spaced.{scalar-spaced, spaced-none, spaced-reads}
use borrow.Author.Rules.{rules}
use Rattle.reader.proofs.tokens.leaf_at.Goals as goal

-- What `value_at` answers is the value, and the run of the blanks behind it is where the next token stands.

pub returns-in_err-value : goal.returns-in_err-value
returns-in_err-value c =
    rw c.from_residual.ensures (record { result_value = spaced-none _ _ scalar-spaced _ _ (value-bad _ _ _ c.value_at.ensures.result_value c.in_err-value.was); answer_in_text = tt })

pub run-requires : goal.run-requires
run-requires c = (value-reads _ _ _ c.value_at.ensures.result_value (search rules) _ _ c.in_ok-value.was).to

pub returns : goal.returns
returns c = record {
  result_value = spaced-reads _ _ scalar-spaced _ _ _ _ (value-reads _ _ _ c.value_at.ensures.result_value (search rules) _ _ c.in_ok-value.was) _ c.run.ensures;
  answer_in_text = c.in_ok-value.ensures.answer_in_text;
}
