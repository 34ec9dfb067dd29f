use native.Mathlib.Omega.{arith}
use Rattle.layout.proofs.counted.count.Goals as goal

-- The byte at 0 is below 256, and the least of it and `most` is what `least` answers.

pub overflow_cast-slot : goal.overflow_cast-slot
overflow_cast-slot c = omega (arith, c.shared_slice_known-2-1.given 0)
