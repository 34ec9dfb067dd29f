use mathlib.Core.Path.{◌∙◌}
use native.Mathlib.Omega.{arith}
use Rattle.rows.specs.Positions.{behind, placed}
use Rattle.std.specs.Prelude.{None}
use Rattle.model.specs.Base.{text, is_digit}
use Rattle.model.specs.Values.{read_string, read_pos, read_neg}
use Rattle.model.proofs.Reading.{within-yes}
use Rattle.lexical.proofs.Runs.{within-below, within-above}
use Rattle.values.proofs.Values.{value-over, value-is, true-first, false-first, quote-first, minus-first, digit-first, other-first}
use Rattle.values.proofs.value.value_at.Goals as goal

-- The first byte says which reader reads the value, and what that one answers is the answer.

pub returns-then-s-at-clause-result_value : goal.returns-then-s-at-clause-result_value
returns-then-s-at-clause-result_value c = value-over _ _ c.if-s-at.true

pub returns-in-116-clause-result_value : goal.returns-in-116-clause-result_value
unfolding text
returns-in-116-clause-result_value c = c.word_at.ensures.0 ∙ value-is _ _ c.if-s-at.false _ (λ r. rw c.in-116.is (true-first r))

pub returns-in-102-clause-result_value : goal.returns-in-102-clause-result_value
unfolding text
returns-in-102-clause-result_value c = c.word_at-in-102.ensures.0 ∙ value-is _ _ c.if-s-at.false _ (λ r. rw c.in-102.is (false-first r))

pub returns-in-34-clause-result_value : goal.returns-in-34-clause-result_value
returns-in-34-clause-result_value c = c.text_at.ensures.0 ∙ value-is _ _ c.if-s-at.false read_string (λ r. rw c.in-34.is (quote-first r))

pub returns-in-45-clause-result_value : goal.returns-in-45-clause-result_value
returns-in-45-clause-result_value c = c.negative_at.ensures.0 ∙ value-is _ _ c.if-s-at.false read_neg (λ r. rw c.in-45.is (minus-first r))

pub returns-in-48-to-57-clause-result_value : goal.returns-in-48-to-57-clause-result_value
unfolding is_digit
returns-in-48-to-57-clause-result_value c = c.positive_at.ensures.0 ∙ value-is _ _ c.if-s-at.false read_pos (λ r. digit-first _ r (within-yes 48 57 _ (omega arith) (omega arith)))

pub returns-in_default-clause-result_value : goal.returns-in_default-clause-result_value
unfolding is_digit placed behind
returns-in_default-clause-result_value c =
    value-is _ _ c.if-s-at.false (λ s. None) (other-first _ (omega arith) (omega arith) (omega arith) (omega arith) (within-below 48 57 _ (omega arith)))

pub returns-in_default-2-clause-result_value : goal.returns-in_default-2-clause-result_value
unfolding is_digit placed behind
returns-in_default-2-clause-result_value c =
    value-is _ _ c.if-s-at.false (λ s. None) (other-first _ (omega arith) (omega arith) (omega arith) (omega arith) (within-above 48 57 _ (omega arith)))
