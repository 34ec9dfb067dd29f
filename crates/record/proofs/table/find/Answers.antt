use Prim.Native.Nat.{◌+◌}
use mathlib.Core.Path.{◌≡◌, sym, ap, ◌∙◌}
use native.Mathlib.Omega.{arith}
use Rattle.model.specs.Limits.{max_fields}
use lib.ListN.{drop}
use Rattle.rows.proofs.Positions.{over}
use borrow.Author.Rules.{rules}
use Rattle.model.specs.Fields.{by_order}
use Rattle.std.specs.declared.cmp.Ordering as answer
use Rattle.paths.specs.Layout.{path_in}
use Rattle.record.specs.declared.table.Place.TheVariants.{At, Before}
use Rattle.record.specs.Slots.{fields_in}
use Rattle.record.specs.Search.{place_in}
use Rattle.record.proofs.Stores.{fields_fit}
use Rattle.record.proofs.Search.{order_in, fields-last, fields-more, place-step}
use Rattle.record.proofs.table.find.Goals.{After-compare_paths}
use Rattle.record.proofs.table.find.Goals as goal

-- The first slot whose path is not before the path decides, or the end of the fields; each turn leaves the search from the next slot on.

-- a turn: the slot's path decides, or what stands behind it
turn : (c : After-compare_paths) {v : answer.Ordering} → c.compare_paths.result ≡ v
    → let i = c.loop-i.i in
    let a = c.args in
    place_in 0 (path_in a.path.now) (fields_in a.table.now)
    ≡ by_order (order_in v) (Before i) (At i) (place_in (i + 1) (path_in a.path.now) (drop (i + 1) (fields_in a.table.now)))
turn c told =
    let l = c.loop-i in
    let full = sym c.is_empty.ensures ∙ c.if-is_empty.false in
    l.invariant.1 ∙ place-step _ l.i c.slot_at-slot.ensures.0 (search rules) l.invariant.0 _ full c.compare_paths.ensures told

pub loop-i-init : goal.loop-i-init
loop-i-init c = c.passed-i.ensures

pub returns-then-is_empty : goal.returns-then-is_empty
unfolding place_in
returns-then-is_empty c =
    let l = c.loop-i in
    let last = fields-last _ l.i c.slot_at-slot.ensures.0 (search rules) l.invariant.0 (sym c.is_empty.ensures ∙ c.if-is_empty.true) in
    sym (l.invariant.1 ∙ ap (place_in l.i _) (over _ l.i last))

pub returns-in-Less : goal.returns-in-Less
unfolding by_order
returns-in-Less c = sym (turn (goal.at.returns-in-Less c).After-compare_paths c.in-Less.is)

pub returns-in-Equal : goal.returns-in-Equal
unfolding by_order
returns-in-Equal c = sym (turn (goal.at.returns-in-Equal c).After-compare_paths c.in-Equal.is)

pub loop-i-preserved : goal.loop-i-preserved
unfolding by_order
loop-i-preserved c =
    let l = c.loop-i in
    let full = sym c.is_empty.ensures ∙ c.if-is_empty.false in
    let more = fields-more _ l.i c.slot_at-slot.ensures.0 (search rules) l.invariant.0 full in
    (omega arith, turn (goal.at.loop-i-preserved c).After-compare_paths c.in-Greater.is)

pub returns : goal.returns
unfolding place_in
returns c =
    let l = c.loop-i in
    let end : l.i ≡ max_fields = omega (arith, fields_fit c.args.table.now) in
    sym (rw end at l.invariant.1 ∙ ap (place_in max_fields _) (over _ max_fields (fields_fit c.args.table.now)))
