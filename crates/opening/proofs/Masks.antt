-- The masks of fields while a loop over them sets each to the one that the policy gives.
use Prim.Native.Nat.{ℕ, ◌+◌, ◌*◌, ◌≤◌, ◌<◌}
use mathlib.Core.Path.{◌≡◌, ap, ◌∙◌}
use mathlib.Core.List.{List, map, append-nil}
use native.Mathlib.Omega.{arith}
use lib.ListN.{length, take, drop, set, length-map}
use Rattle.rows.specs.Moves.{spliced}
use Rattle.rows.proofs.Rows.{get_d_map}
use Rattle.rows.proofs.Moves.{splice_up, splice-end}
use Rattle.rows.proofs.Positions.{over}
use Rattle.model.specs.Base.{Bytes}
use Rattle.model.specs.Fields.{Field, Fields}
use Rattle.model.specs.Tables.{Tables}
use Rattle.masks.specs.Readers.{readers_of, Agreed}
use Rattle.paths.specs.Layout.{path_in}
use Rattle.record.specs.Slots.{slot_bytes, field_in, fields_in, field_at}
use Rattle.record.proofs.Slots.{field-slot}

module _ (t : Tables) (fs : Fields) (ms : List ℕ) where
  abbrev given : Field → ℕ
  given f = readers_of t f.path

  -- those below i are set, the others as they were
  abbrev pub masks_below : ℕ → List ℕ
  masks_below i = spliced i (map given fs) ms

  module _ (many : length ms ≡ length fs) (i : ℕ) where
    pub masks-more : i < length fs → {m : ℕ} → m ≡ given (field_at i fs) → set (masks_below i) i m ≡ masks_below (i + 1)
    unfolding field_at
    masks-more h is = rw (is, ← get_d_map given i fs 0 _ h) (splice_up 0 i (map given fs) ms (rw length-map h) (omega arith))

    pub masks-all : length fs ≤ i → i ≤ length fs → Agreed t fs (masks_below i)
    masks-all h l = splice-end i (map given fs) ms (rw length-map h) (rw length-map l) ∙ rw (length-map, over ms (length fs) (omega arith)) (append-nil _)

-- the path in the slot at i is the i-th field's
pub slot-path : (s slot : Bytes) (i : ℕ) → slot ≡ take slot_bytes (drop (i * slot_bytes) s) → i < length (fields_in s) → path_in slot ≡ (field_at i (fields_in s)).path
unfolding field_in
slot-path s slot i here below = ap (λ (f : Field). f.path) (field-slot s slot i here below)
