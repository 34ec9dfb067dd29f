use Prim.Native.Nat.{◌≤◌}
use mathlib.Core.Path.{◌≡◌}
use mathlib.Core.List.{◌++◌}
use native.Mathlib.Omega.{arith}
use borrow.Author.Rules.{rules}
use lib.ListN.{length, drop, length-take}
use Rattle.model.specs.Base.{Bytes, text}
use Rattle.model.specs.SavedText.{descend}
use Rattle.paths.specs.Layout.{path_in}
use Rattle.buffers.proofs.Writers.{wrote_none}
use Rattle.layout.proofs.Named.{name-length}
use Rattle.writer.proofs.Remains.{remains-step, remains-end}
use Rattle.writer.proofs.Turns.{descend-more, descend-last, descend-over}
use Rattle.model.specs.Limits.{max_key}
use Rattle.writer.proofs.turn.put_descent.Goals.{After-key_at, then-i-n, else-i-n}
use Rattle.writer.proofs.turn.put_descent.Goals as goal

-- Each turn writes the next key in quotes, a colon and, before a further key, a brace: at most 20 bytes of what remains.

-- a key is no longer than a key may be
key : (c : After-key_at) → length c.key_at.result.now ≤ max_key
key c = name-length max_key _ c.key_at.ensures (simp length-take (omega arith))

pub put-to-requires : goal.put-to-requires
put-to-requires c = omega (arith, key c)

pub put_byte-to-requires-in-loop-i : goal.put_byte-to-requires-in-loop-i
put_byte-to-requires-in-loop-i c = omega (arith, key (goal.at.put_byte-to-requires-in-loop-i c).After-key_at)

pub put_byte-to-requires-in-loop-i-2 : goal.put_byte-to-requires-in-loop-i-2
put_byte-to-requires-in-loop-i-2 c = omega (arith, key (goal.at.put_byte-to-requires-in-loop-i-2 c).After-key_at)

pub put_byte-to-requires-then-i-n : goal.put_byte-to-requires-then-i-n
put_byte-to-requires-then-i-n c = omega (arith, key (goal.at.put_byte-to-requires-then-i-n c).After-key_at)

pub loop-i-preserved : goal.loop-i-preserved
unfolding text
loop-i-preserved c =
    let l = c.loop-i in
    let s = c.args.path.now in
    let name = c.key_at.ensures in
    let k = key (goal.at.loop-i-preserved c).After-key_at in
    let written = λ (rest : Bytes) (e : descend (drop l.i (path_in s)) ≡ text "\"" ++ (c.key_at.result.now ++ (text "\"" ++ (text ":" ++ rest)))).
    let opened = remains-step _ _ _ _ _ _ _ _ _ (rw e at l.invariant.2) c.put_byte-to.ensures in
    let key = remains-step _ _ _ _ _ _ _ _ _ opened c.put-to.ensures in
    let closed = remains-step _ _ _ _ _ _ _ _ _ key c.put_byte-to-in-loop-i.ensures in
    remains-step _ _ _ _ _ _ _ _ _ closed c.put_byte-to-in-loop-i-2.ensures in
    elim c.if-i-n.branch [
      | then-i-n w ↦ rw (w.to-is, w.out-is) (omega arith, search rules, remains-step _ _ _ _ _ _ _ _ _ (written _ (descend-more s l.i name (search rules) (search rules))) w.put_byte-to-then-i-n.ensures)
      | else-i-n w ↦ rw (w.to-is, w.out-is) (omega arith, search rules, written _ (descend-last s l.i name (search rules) (search rules)))
    ]

pub returns-clause-wrote : goal.returns-clause-wrote
returns-clause-wrote c =
    let l = c.loop-i in
    let e = descend-over c.args.path.now l.i (search rules) in
    remains-end _ _ _ _ _ _ _ _ (rw e at l.invariant.2) (wrote_none _ _)
