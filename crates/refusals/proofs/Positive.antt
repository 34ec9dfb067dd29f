-- No refusal has the number 0.
use Prim.Native.Nat.{◌<◌}
use native.Mathlib.Omega.{arith}
use Rattle.refusals.specs.declared.Refusal.{Refusal}
use Rattle.refusals.specs.declared.Refusal.TheVariants.{Head, Row, Path, TableFull, Conflict, Repeated, UnknownUser, NotRecord, TooManyFields, TooLong, NotRequest, WrongLogin, HasSession, NoSession, NoRoom, NoRight, QuotaUsed, LoginsUsed}
use Rattle.refusals.specs.Numbers.{number_of}

pub above_zero : (r : Refusal) → 0 < number_of r
above_zero Head = omega arith
above_zero Row = omega arith
above_zero Path = omega arith
above_zero TableFull = omega arith
above_zero Conflict = omega arith
above_zero Repeated = omega arith
above_zero UnknownUser = omega arith
above_zero NotRecord = omega arith
above_zero TooManyFields = omega arith
above_zero TooLong = omega arith
above_zero NotRequest = omega arith
above_zero WrongLogin = omega arith
above_zero HasSession = omega arith
above_zero NoSession = omega arith
above_zero NoRoom = omega arith
above_zero NoRight = omega arith
above_zero QuotaUsed = omega arith
above_zero LoginsUsed = omega arith
