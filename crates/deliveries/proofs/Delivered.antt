-- The lines that are sent: how one is written piece by piece, and how a loop writes them one behind the other.
use Prim.Native.Nat.{ℕ, ◌+◌, ◌≤◌, ◌<◌}
use mathlib.Core.Path.{◌≡◌, refl}
use mathlib.Core.List.{List, ◌++◌, map-append, append_assoc, append-nil}
use native.Mathlib.Numerals.{add-one}
use native.Mathlib.Omega.{arith}
use lib.ListN.{length, get_or}
use lib.Seq.{take-suc}
use mir.Syntax.{w32}
use mir.Val.{Fits}
use Rattle.model.specs.Base.{Bytes, text, joined, between, decimal}
use Rattle.model.specs.Values.{Value, value_text}
use Rattle.model.specs.Fields.{Keys}
use Rattle.model.specs.Paths.{keys_text}
use Rattle.model.specs.Serving.{table_line}
use Rattle.model.specs.Runs.{delivery_line}
use Rattle.model.proofs.Lists.{joined-append}
use Rattle.model.proofs.Reading.{decimal-length}
use Rattle.deliveries.specs.Receivers.{max_digits, delivery_of, deliveries_of}

-- the document's line, and its end: what was pushed is the path, `;` and the value, as a line's end is that begins with the path
pub delivery-as : (p : Keys) (v : Value) (m : ℕ) → delivery_line p v m ++ text "\n" ≡ delivery_of (keys_text p ++ (text ";" ++ value_text v)) m
unfolding delivery_line delivery_of table_line between
delivery-as p v m = refl

-- how long a session's number is
pub number-length : {n : ℕ} → Fits w32 n → length (decimal n) ≤ max_digits
number-length {n} f = decimal-length n 9 (omega (arith, f.fits))

module _ (pushed : Bytes) where
  pub delivery-pieces : (n : ℕ) → delivery_of pushed n ≡ text "TO;" ++ (decimal n ++ (text ";" ++ (pushed ++ text "\n")))
  unfolding delivery_of table_line between text
  delivery-pieces n = simp append_assoc

  -- the line for one number more
  pub lines_more : (l : List ℕ) (k : ℕ) → k < length l → deliveries_of pushed l (k + 1) ≡ deliveries_of pushed l k ++ delivery_of pushed (get_or l k 0)
  unfolding joined
  lines_more l k h = rw (add-one, take-suc l k 0 h, map-append, joined-append, append-nil)
