use mathlib.Core.Path.{refl}
use native.Mathlib.Omega.{arith}
use borrow.Author.Rules.{rules}
use lib.ListN.{length-take, length-append}
use Rattle.model.specs.Base.{text, joined, between}
use Rattle.model.specs.Paths.{name_text, step_text}
use Rattle.model.proofs.Spelling.{key_text, keys-text}
use Rattle.buffers.proofs.Writers.{wrote_none, wrote-both}
use Rattle.paths.specs.Layout.{path_in}
use Rattle.layout.specs.Layout.{key_row, name_in}
use Rattle.paths.proofs.Spelled.{spelled_step_lem, spelled-all}
use Rattle.layout.proofs.Named.{name-length}
use Rattle.model.specs.Limits.{max_key, max_depth}
use Rattle.paths.proofs.field.put_path.Goals as goal

-- Before each turn the keys so far are written, in brackets and quotes, behind the first byte, each with its quotes and brackets.

pub loop-i-init : goal.loop-i-init
unfolding joined
loop-i-init c = (search rules, refl, wrote_none _ _)

pub put_quoted-to-requires : goal.put_quoted-to-requires
put_quoted-to-requires c = let k = name-length max_key _ c.key_at.ensures (simp length-take (omega arith)) in omega arith

pub put_byte-to-requires-in-loop-i-2 : goal.put_byte-to-requires-in-loop-i-2
put_byte-to-requires-in-loop-i-2 c =
    let k = name-length max_key _ c.key_at.ensures (simp length-take (omega arith)) in
    omega (arith, simp length-append at c.put_quoted-to.ensures.0)

pub loop-i-preserved : goal.loop-i-preserved
unfolding key_text step_text name_text between text
loop-i-preserved c =
    let l = c.loop-i in
    let s = c.args.slot.now in
    let name = c.key_at.ensures in
    let k = name-length max_key _ name (simp length-take (omega arith)) in
    let quoted = c.put_quoted-to.ensures in
    let end = wrote-both _ _ _ _ _ _ _ _ quoted c.put_byte-to-in-loop-i-2.ensures in
    let key = wrote-both _ _ _ _ _ _ _ _ c.put_byte-to-in-loop-i.ensures end in
    let all = wrote-both _ _ _ _ _ _ _ _ l.invariant.2 key in
    (omega (arith, simp length-append at quoted.0), search rules, rw (spelled_step_lem name_in key_row max_depth key_text s l.i (search rules), ← name) all)

pub returns : goal.returns
unfolding path_in text
returns c =
    let l = c.loop-i in
    let s = c.args.slot.now in
    rw (keys-text, ← spelled-all name_in key_row max_depth key_text s l.i (search rules))
    (wrote-both _ _ _ _ _ _ _ _ c.put_byte-to.ensures l.invariant.2)
