use Rattle.std.proofs.Common.{◌&&◌, ltb, length, drop, rules, tests, ◌∙◌}
use Rattle.std.proofs.lemmas.Iterator.{YieldsList-from_slice}
use Rattle.std.proofs.lemmas.Iterator.Search.{any_from_yields_List}
use Rattle.model.specs.Base.{is_some, after}
use Rattle.reader.proofs.Standing.{stands-listed}
use Rattle.reader.proofs.keys.stands_at_one.Goals as goal

-- A position at or behind the end of the text is none at which a word stands.

pub returns : goal.returns
returns c =
    let w = c.args.w.now in
    let s = c.args.s.now in
    any_from_yields_List (λ i. ltb i (length s) && is_some (after w (drop i s))) _ _ _ c.any.ensures.ran (YieldsList-from_slice c.args.at.now cc) (λ x b q k. search (rules, tests)) ∙ stands-listed w s c.requires c.args.at.now
