-- Who may read a field, remembered beside it (document 02, request 2).
use Rattle.std.specs.Prelude.{ℕ, ◌≡◌, List, map}
use Rattle.model.specs.Limits.{max_users}
use Rattle.model.specs.Fields.{Keys, Fields}
use Rattle.model.specs.Tables.{Tables}
use Rattle.model.specs.Serving.{reads_at}
use Rattle.masks.specs.Bits.{mask_of}

-- "one mark for each of the 32 user places, set exactly if that user may read the field"
unfoldable pub readers_of : Tables → Keys → ℕ
readers_of t p = mask_of (λ j. reads_at t j p) max_users

-- the masks that the policy gives some fields
abbrev pub policy_masks : Tables → Fields → List ℕ
policy_masks t fs = map (λ f. readers_of t f.path) fs

-- "they agree with the policy": the masks beside the fields are those
abbrev pub Agreed : Tables → Fields → List ℕ → Type 0
Agreed t fs ms = ms ≡ policy_masks t fs
