use mathlib.Core.Path.{◌≡◌, refl}
use Rattle.std.specs.Prelude.{true, Some, None}
use borrow.Author.Rules.{rules}
use Rattle.model.specs.Base.{any, ◌≐◌}
use Rattle.model.proofs.Lists.{by_cases}
use Rattle.matching.specs.Parts.{has_value}
use Rattle.matching.proofs.path.has_value.Goals as goal

-- A line with another value leaves the question for the lines behind it.

pub returns : goal.returns
unfolding has_value any
returns c =
    let k = c.args.key.now in
    c.first_said.ensures (λ bs. has_value bs k) (record {
      none = refl;
      first = λ b bs o says. by_cases (k ≐ b.value)
          (λ y. let e : o ≡ Some true = search rules in rw (y, e))
          (λ n. let e : o ≡ None = search rules in rw (n, e));
    })
