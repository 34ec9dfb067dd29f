use mathlib.Core.Path.{refl}
use native.Mathlib.Omega.{arith}
use Prim.Native.Nat.{◌≤◌}
use lib.ListN.{length, length-take}
use borrow.Author.Rules.{rules}
use Rattle.model.specs.Base.{text}
use Rattle.buffers.proofs.Writers.{wrote_none}
use Rattle.layout.proofs.Named.{name-length}
use Rattle.layout.proofs.Used.{counted-fit}
use Rattle.writer.proofs.Remains.{remains-step, remains-end}
use Rattle.copies.proofs.Lines.{bindings-next, bindings-end}
use Rattle.model.specs.Limits.{max_name, max_bindings, max_key}
use Rattle.steps.specs.Environments.{binding_row}
use Rattle.copies.proofs.put_bindings.Goals.{After-name_from, After-name_from-in-loop-i}
use Rattle.copies.proofs.put_bindings.Goals as goal

-- Each turn writes the name and the value of one line, no longer than its row; the later lines remain to be written.

pub loop-i-init : goal.loop-i-init
loop-i-init c = (counted-fit binding_row max_bindings _ c.row_count-n.ensures, search rules, refl, (refl, refl))

-- a name and a key are no longer than they may be
name : (c : After-name_from) → length c.name_from.result.now ≤ max_name
name c = name-length max_name _ c.name_from.ensures (simp length-take (omega arith))

key : (c : After-name_from-in-loop-i) → length c.name_from-in-loop-i.result.now ≤ max_key
key c = name-length max_key _ c.name_from-in-loop-i.ensures (simp length-take (omega arith))

pub put-to-requires : goal.put-to-requires
put-to-requires c = omega (arith, name c)

pub put_byte-to-requires : goal.put_byte-to-requires
put_byte-to-requires c = omega (arith, name (goal.at.put_byte-to-requires c).After-name_from)

pub put-to-requires-in-loop-i : goal.put-to-requires-in-loop-i
put-to-requires-in-loop-i c = omega (arith, name (goal.at.put-to-requires-in-loop-i c).After-name_from, key c)

pub put_byte-to-requires-in-loop-i : goal.put_byte-to-requires-in-loop-i
put_byte-to-requires-in-loop-i c =
    let at = goal.at.put_byte-to-requires-in-loop-i c in
    omega (arith, name at.After-name_from, key at.After-name_from-in-loop-i)

pub loop-i-preserved : goal.loop-i-preserved
unfolding text
loop-i-preserved c =
    let l = c.loop-i in
    let at = goal.at.loop-i-preserved c in
    let j = name at.After-name_from in
    let k = key at.After-name_from-in-loop-i in
    let next = bindings-next _ c.row_count-n.ensures l.i c.loop-i-test.true c.name_from.ensures c.name_from-in-loop-i.ensures in
    let put = c.put-to.ensures in
    let named = remains-step _ _ _ _ _ _ _ _ _ (rw next at l.invariant.3) put in
    let apart = remains-step _ _ _ _ _ _ _ _ _ named c.put_byte-to.ensures in
    let valued = remains-step _ _ _ _ _ _ _ _ _ apart c.put-to-in-loop-i.ensures in
    (search rules, omega (arith, l.invariant.1), search rules, remains-step _ _ _ _ _ _ _ _ _ valued c.put_byte-to-in-loop-i.ensures)

pub returns : goal.returns
returns c =
    let l = c.loop-i in
    let e = bindings-end _ c.row_count-n.ensures l.i (search rules) in
    record { wrote = remains-end _ _ _ _ _ _ _ _ (rw e at l.invariant.3) (wrote_none _ _); upper_bound = search rules }
