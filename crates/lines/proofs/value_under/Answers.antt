use Rattle.std.proofs.Common.{◌≡◌, Option, Some, None, Bor, ap, ◌∙◌, rules, tests}
use Rattle.std.specs.Option.{MatchOption, IsSomeAnd, option_map}
use Rattle.std.proofs.lemmas.Iterator.{YieldsList-from_zip}
use Rattle.std.proofs.lemmas.Iterator.Consumers.{YieldsList-at}
use Rattle.std.proofs.lemmas.Iterator.Search.{find_from_yields_List}
use Rattle.model.specs.Base.{Bytes, ◌≐◌}
use Rattle.lines.proofs.Cells.{values-of, under-is, or-none}
use Rattle.lines.proofs.value_under.Goals as goal

-- the value of the pair that was found, if one was
second-is : (P : Bor Bytes × Bor Bytes → Bor Bytes → Type 0) (o : Option (Bor Bytes × Bor Bytes)) (r : Option (Bor Bytes)) (q : Option (Bytes × Bytes)) → MatchOption o (r ≡ None) (λ p. IsSomeAnd r (P p)) → ((p : Bor Bytes × Bor Bytes) (x : Bor Bytes) → P p x → x ≡ p.1) → option_map (λ p. (p.0.now, p.1.now)) o ≡ q → option_map (λ x. x.now) r ≡ option_map (λ (p : Bytes × Bytes). p.1) q
second-is P None r q h k e = rw h (ap (option_map (λ (p : Bytes × Bytes). p.1)) e)
second-is P (Some p) None q h k e = absurd h
second-is P (Some p) (Some x) q h k e = rw (k p x h) (ap (option_map (λ (p : Bytes × Bytes). p.1)) e)

pub returns : goal.returns
returns c =
    let found = find_from_yields_List (λ p. p.0 ≐ c.args.name.now) c.find.new.self _ c.find.result c.find.ensures.ran
    (YieldsList-from_zip
    (YieldsList-at c.zip.ensures.first (values-of _ _ c.split-columns.ensures.rest c.split-columns.ensures.done c.split-columns.ensures.closure (λ x b q k. search (rules, tests))))
    (YieldsList-at c.zip.ensures.second (values-of _ _ c.split-values.ensures.rest c.split-values.ensures.done c.split-values.ensures.closure (λ x b q k. search (rules, tests)))))
    (λ x b q k. search (rules, tests)) in
    or-none _ _ _ c.unwrap_or_default.ensures (second-is _ c.find.result c.map.result _ c.map.ensures.cases (λ p x k. search (rules, tests)) found)
    ∙ under-is _ _ _
