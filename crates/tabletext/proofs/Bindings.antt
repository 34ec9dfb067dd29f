-- A user's environment lines in memory: what a search for a line has left at each row.
use Prim.Native.Nat.{ℕ, ◌+◌, ◌*◌, ◌≤◌, ◌<◌}
use mathlib.Core.Path.{◌≡◌, refl}
use mathlib.Core.Bool.{Bool, false, ◌&&◌, ◌||◌}
use native.Mathlib.Omega.{arith}
use lib.ListN.{length, take, drop}
use lib.Seq.{take-take}
use Rattle.rows.proofs.Parts.{part-part}
use Rattle.model.specs.Base.{Bytes, any, ◌≐◌}
use Rattle.model.specs.Limits.{max_bindings}
use Rattle.model.specs.Tables.{Binding, same_binding}
use Rattle.layout.specs.Layout.{in_use, name_row, key_row, name_in}
use Rattle.steps.specs.Environments.{binding_row, bindings_bytes, binding_in, bindings_in}
use Rattle.layout.proofs.Used.{used-fit, row-left, rows-over}

-- m rows were counted
module _ (s : Bytes) {m : ℕ} (counted : m ≡ length (in_use binding_row max_bindings s)) (i : ℕ) where
  pub binding-inside : i < m → i * binding_row + binding_row ≤ bindings_bytes
  binding-inside h = omega (arith, counted, used-fit binding_row max_bindings s)

  -- b is looked for from the row i on: r says whether the row has its name
  module _ (b : Binding) where
    pub binding-left : {n : Bytes} {r : Bool} → i < m → n ≡ name_in (take name_row (drop (i * binding_row) s)) → r ≡ (b.name ≐ n)
        → any (same_binding b) (drop i (bindings_in s))
        ≡ ((r && (b.value ≐ name_in (take key_row (drop (i * binding_row + name_row) s)))) || any (same_binding b) (drop (i + 1) (bindings_in s)))
    unfolding bindings_in any same_binding binding_in
    binding-left h e t =
        let left = row-left binding_in binding_row max_bindings s counted i h refl in
        rw (left, take-take name_row binding_row (drop (i * binding_row) s) (omega arith), ← e, ← t, part-part (i * binding_row) binding_row s name_row key_row (omega arith))

    pub binding-over : m ≤ i → any (same_binding b) (drop i (bindings_in s)) ≡ false
    unfolding bindings_in any
    binding-over h = rw (rows-over binding_in binding_row max_bindings s counted i h)
