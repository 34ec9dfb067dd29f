use mathlib.Core.Path.{sym, ap, ◌∙◌}
use Rattle.refusals.specs.Numbers.{answer_by}
use Rattle.opening.specs.Answers.{fault_of}
use Rattle.exports.proofs.Numbered.{done-as, refused_as, opens_as}
use Rattle.exports.proofs.jesovanga_open.Goals as goal

-- What is answered is read off the opening, in either case.

pub returns-in-Ok : goal.returns-in-Ok
returns-in-Ok c =
    let o = c.open.ensures in
    opens_as o (done-as _ (sym (ap (answer_by fault_of) c.in-Ok.is) ∙ o.answered))

pub returns-in-Err : goal.returns-in-Err
returns-in-Err c =
    let o = c.open.ensures in
    rw c.number.ensures (opens_as o (refused_as _ _ (sym (ap (answer_by fault_of) c.in-Err.is) ∙ o.answered)))
