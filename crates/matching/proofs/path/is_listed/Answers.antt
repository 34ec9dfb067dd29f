use mathlib.Core.Path.{◌≡◌, refl, sym, ◌∙◌}
use Rattle.std.specs.Prelude.{Some, None}
use borrow.Author.Rules.{rules}
use Rattle.model.specs.Base.{◌≐◌}
use Rattle.model.specs.Rights.{listed}
use Rattle.model.proofs.Lists.{by_cases}
use Rattle.steps.specs.Steps.{operator_of}
use Rattle.matching.specs.Parts.{decides}
use Rattle.matching.proofs.Matched.{asked, admits-listed, asked-none, said-listed, other-listed, left-listed}
use Rattle.matching.proofs.path.is_listed.Goals as goal

-- A line that does not decide leaves the question for the values that are listed behind it.

pub returns : goal.returns
returns c =
    let k = c.args.key.now in
    let n = c.args.n.now in
    let op = operator_of c.args.operator in
    c.first_said.ensures (λ bs. asked op k (listed bs n)) (record {
      none = asked-none op n k refl;
      first = λ b bs o says. by_cases (decides op (k ≐ b.value))
          (λ d. by_cases (b.name ≐ n)
          (λ y. let e : o ≡ Some (k ≐ b.value) = search rules in said-listed b bs n k op _ refl y d ∙ rw e)
          (λ z. let e : o ≡ None = search rules in other-listed b bs n k op z ∙ rw e))
          (λ l. let e : o ≡ None = search rules in left-listed b bs n k op _ refl l ∙ rw e);
    }) ∙ sym (admits-listed _ op n k)
