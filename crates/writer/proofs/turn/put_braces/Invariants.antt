use Prim.Native.Nat.{◌+◌, ◌-◌}
use mathlib.Core.Path.{◌≡◌}
use lib.ListN.{length, replicate}
use Rattle.writer.proofs.Remains.{Remains}
use Rattle.writer.proofs.turn.put_braces.Given as goal

abbrev pub invariant-loop-i : goal.invariant-loop-i
invariant-loop-i l =
    (length l.out ≡ length l.initial.out) × Remains l.at (replicate l.n 0x7D) l.initial.out (l.at + l.i) (replicate (l.n - l.i) 0x7D) l.out
