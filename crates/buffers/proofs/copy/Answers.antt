use Prim.Native.Nat.{ℕ}
use mathlib.Core.Path.{refl, ap, ◌∙◌}
use mathlib.Core.List.{List}
use native.Mathlib.Omega.{arith}
use lib.ListN.{get_or, set, length-set}
use Rattle.rows.proofs.Moves.{splice_up, splice-end}
use Rattle.buffers.proofs.copy.Goals as goal

-- Each turn copies one byte: the bytes before i are those of the source.

pub loop-i-init : goal.loop-i-init
loop-i-init c = (refl, refl)

pub loop-i-preserved : goal.loop-i-preserved
loop-i-preserved c =
    let l = c.loop-i in
    let src = c.args.src.now in
    let copied =
    ap (λ (d : List ℕ). set d l.i (get_or src l.i 0)) l.invariant.1 ∙ splice_up 0 l.i _ _ (omega arith) (omega arith) in
    (simp length-set l.invariant.0, copied)

pub returns : goal.returns
returns c = let l = c.loop-i in l.invariant.1 ∙ splice-end l.i _ _ (omega arith) (omega arith)
