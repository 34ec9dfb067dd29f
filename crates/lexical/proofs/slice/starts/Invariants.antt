use Prim.Native.Nat.{◌+◌, ◌≤◌}
use mathlib.Core.Path.{◌≡◌}
use lib.ListN.{length, drop}
use Rattle.model.specs.Base.{after}
use Rattle.lexical.proofs.slice.starts.Given as goal

abbrev pub invariant-loop-i : goal.invariant-loop-i
invariant-loop-i l = (l.at + length l.w ≤ length l.s) × (after l.w (drop l.at l.s) ≡ after (drop l.i l.w) (drop (l.at + l.i) l.s))
