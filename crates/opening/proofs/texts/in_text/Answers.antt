use Prim.Native.Nat.{ℕ}
use mathlib.Core.Path.{◌≡◌}
use Rattle.std.specs.Prelude as std
use Rattle.std.specs.Prelude.{Ok, Err}
use Rattle.std.specs.Result.{MatchResult, IsErrAnd}
use borrow.Author.Rules.{rules}
use Rattle.model.specs.Opening.{from}
use Rattle.refusals.specs.Numbers.{answer_by}
use Rattle.tabletext.specs.Reading.{in_line_of}
use Rattle.tabletext.specs.declared.read.TableFault.{TableFault}
use Rattle.opening.specs.declared.answer.Fault as code
use Rattle.opening.specs.Answers.{fault_of}
use Rattle.opening.proofs.texts.in_text.Goals as goal

-- A refusal gets the text's number beside its own and its line.

told : (k : ℕ) (P : TableFault → code.Fault → Type 0) → ((e : TableFault) (f : code.Fault) → P e f → f ≡ record { refusal = e.refusal; text = k; line = e.line })
    → (r : std.Result (Unit {0}) TableFault) (m : std.Result (Unit {0}) code.Fault) → MatchResult r (λ x. m ≡ Ok x) (λ e. IsErrAnd m (P e))
    → answer_by fault_of m ≡ from k (answer_by in_line_of r)
unfolding from
told k P is (Ok x) m h = rw h
told k P is (Err e) (Ok x) h = elim h [ ]
told k P is (Err e) (Err f) h = rw (is e f h)

pub returns : goal.returns
returns c = told _ _ (λ e f h. search rules) _ _ c.map_err.ensures.cases
