-- A step in its row, the byte of its kind and the names: how it is written, and how it is read back.
use Prim.Native.Nat.{◌+◌, ◌-◌}
use mathlib.Core.Path.{◌≡◌, refl}
use mathlib.Core.List.{◌∷◌, append-nil}
use native.Mathlib.Omega.{arith}
use lib.ListN.{length, get_or, take, drop}
use lib.Seq.{take_all}
use Rattle.rows.specs.Rows.{written}
use Rattle.rows.proofs.Writing.{written-clipped}
use Rattle.rows.proofs.Positions.{over}
use Rattle.rows.proofs.Parts.{tail-part}
use Rattle.model.specs.Base.{Bytes}
use Rattle.steps.specs.declared.step.Operator.TheVariants.{Equals, In}
use Rattle.steps.specs.declared.step.Kind.{Kind}
use Rattle.steps.specs.declared.step.Kind.TheVariants.{Names, Wildcard, Environment}
use Rattle.steps.specs.declared.step.Step as code
use Rattle.steps.specs.Steps.{names_in, by_kind, byte_of, kind_of, step_in, step_of}

-- a row that is written whole
pub row-filled : (xs row : Bytes) → length xs ≡ length row → written 0 xs row ≡ xs
row-filled xs row h =
    let all = take_all (length row - 0) xs (omega arith) in
    let None = over row (0 + length xs) (omega arith) in
    rw (written-clipped, all, None) (append-nil xs)

-- the byte of a kind says the kind
kind-said : (k : Kind) → kind_of (byte_of k) ≡ k
kind-said Names = refl
kind-said Wildcard = refl
kind-said (Environment Equals) = refl
kind-said (Environment In) = refl

-- a step that was written into a row is read back
pub step-written : (t : code.Step) → step_in (byte_of t.kind ∷ t.names) ≡ step_of t
unfolding step_in step_of
step-written t = rw (kind-said t.kind)

-- the step of a row whose first byte was matched with a kind: the names are the part behind that byte
pub step-told : (row : Bytes) {r k : Kind} → r ≡ kind_of (get_or row 0 0) → r ≡ k
    → step_in row ≡ by_kind k (names_in (take (length row - 1) (drop 1 row)))
unfolding step_in
step-told row e t = rw (tail-part 1 row, ← e, t)
