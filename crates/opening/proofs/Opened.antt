-- A record's text opened: the reader's answer, the number of fields and a conflict decide, in the order of the definition.
use Prim.Native.Nat.{ℕ, ◌+◌, ◌≤◌, ◌<◌}
use mathlib.Core.Path.{◌≡◌, refl, sym, ◌∙◌}
use mathlib.Core.Bool.{Bool}
use Rattle.std.specs.Prelude.{Option, None, Some}
use mathlib.Core.List.{[]}
use native.Mathlib.Omega.{arith}
use borrow.Author.Tests.{lt-ltb, le-ltb, le-leb}
use lib.ListN.{drop}
use Rattle.model.specs.Base as base
use Rattle.model.specs.Base.{Bytes, any}
use Rattle.model.specs.Limits.{max_fields}
use Rattle.model.specs.RecordText.{Members, tree_of, twice, count, store_members}
use Rattle.model.specs.Refusals.{refused, done, ◌>>◌, refuse◌if◌, Opened}
use Rattle.model.specs.Opening.{fault, quotas, open_record}
use Rattle.model.proofs.Lists.{by_cases, refused-done}
use Rattle.record.specs.Slots.{fields_in}
use Rattle.reader.specs.Summaries.{reading_of}
use Rattle.loader.specs.Loaded.{fields_of, HoldsOrKeeps}
use Rattle.loader.proofs.Loading.{tree}
use Rattle.tables.specs.Memory.{users_bytes, users_in, policy_in, tables_in}
use Rattle.opening.proofs.Conflicting.{conflicts}

module _ (tables s : Bytes) where
  -- what the reader refuses is refused with its number
  pub opened-refused : (e : ℕ) → reading_of s ≡ refused e → refused (fault e 4 0) ≡ open_record (tables_in tables) s
  unfolding open_record reading_of Opened
  opened-refused e h = go (tree_of s) refl
    where
      go : (o : Option Members) → tree_of s ≡ o → refused (fault e 4 0) ≡ open_record (tables_in tables) s
      go None i = let r : reading_of s ≡ refused 8 = rw i in let n : e ≡ 8 = cc in rw (i, n)
      go (Some m) i = by_cases (twice m)
          (λ t. let r : reading_of s ≡ refused 6 = rw (i, t) in let n : e ≡ 6 = cc in rw (i, t, n))
          (λ t. let r : reading_of s ≡ done (count m) = rw (i, t) in refused-done (sym h ∙ r))

  -- a text with n fields
  module _ (n : ℕ) (read : reading_of s ≡ done n) where
    pub opened-many : max_fields < n + quotas (users_in tables) → refused (fault 9 4 0) ≡ open_record (tables_in tables) s
    unfolding open_record tables_in Opened
    opened-many h = let (m, i, once, c) = tree s n read in rw (i, once, c, lt-ltb max_fields (n + quotas (users_in tables)) h)

    -- the table then holds them; r, which is v, says whether one of them is in conflict with the policy behind the users
    pub opened-few : n + quotas (users_in tables) ≤ max_fields → (old new : Bytes) → HoldsOrKeeps (fields_of s) old new
        → {policy : Bytes} → policy ≡ drop users_bytes tables → {r v : Bool} → r ≡ any (conflicts (policy_in policy)) (fields_in new) → r ≡ v
        → ((refuse fault 5 4 0 if v) >> done (fields_in new)) ≡ open_record (tables_in tables) s
    unfolding open_record tables_in fields_of base.check base.◌>>=◌ base.◌>>◌ Opened
    opened-few h old new held behind t e =
        let (m, i, once, c) = tree s n read in
        let all : fields_of s ≡ Some (store_members [] m []) = rw (i, once, c, le-leb n max_fields (omega arith)) in
        let is : fields_in new ≡ store_members [] m [] = rw all at held in
        rw (← e, t, behind, is, i, once, c, le-ltb max_fields (n + quotas (users_in tables)) h)
