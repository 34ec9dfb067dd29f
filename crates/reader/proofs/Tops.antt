-- The object of a record and the whole text, by positions.
use Prim.Native.Nat.{ℕ}
use mathlib.Core.Path.{◌≡◌, ◌∙◌}
use Rattle.std.specs.Prelude.{None, Some}
use mathlib.Core.List.{[], ◌∷◌}
use native.Mathlib.Omega.{arith}
use lib.ListN.{length, drop}
use Rattle.rows.specs.Positions.{Reads, placed, run_end, LeavesEnd}
use Rattle.rows.proofs.Positions.{here, over}
use Rattle.model.specs.Base.{Bytes, text, ◌≐◌, ◌>>=◌, ◌>>◌, ◌<|>◌, check}
use Rattle.model.specs.Limits.{max_depth}
use Rattle.model.specs.RecordText.{Members, no_members, is_blank, token, read_object, read_empty, tree_of}
use Rattle.lexical.proofs.Readers.{leaves-or, leaves-some}
use Rattle.reader.specs.Tokens.{read_token, mapped, read_top}
use Rattle.reader.proofs.Spaced.{skip_at, token-none, token-some, token-then}
use Rattle.reader.proofs.Mapped.{mapped-none, mapped-is}
use Rattle.reader.proofs.Objects.{unopened, leaves-object}

-- ── The object of a record, which may be empty ──
module _ {B : Type 0} (g : Members → B) (s : Bytes) (at : ℕ) where
  pub top-unopened : read_token 0x7B (drop at s) ≡ None → None ≡ placed (mapped g read_top) s at
  unfolding read_top read_empty text ◌>>=◌ ◌<|>◌
  top-unopened h = mapped-none g read_top s at (rw (token-none 0x7B (drop at s) h, unopened (drop at s) h max_depth))

  module _ (o : ℕ) (opened : Reads (read_token 0x7B) s at tt o) where
    pub top-empty : (e : ℕ) → Reads (read_token 0x7D) s o tt e → Some (g no_members, e) ≡ placed (mapped g read_top) s at
    unfolding read_top read_empty text ◌>>=◌ ◌<|>◌
    top-empty e closed = mapped-is g read_top s at no_members e (record {
      from = omega (arith, opened.from, closed.from);
      to = closed.to;
      is = rw (token-some 0x7B _ _ opened.is, token-some 0x7D _ _ closed.is);
    })

    pub top-object : read_token 0x7D (drop o s) ≡ None → placed (mapped g (read_object max_depth)) s at ≡ placed (mapped g read_top) s at
    unfolding placed mapped read_top read_empty text ◌>>=◌ ◌<|>◌
    top-object h = rw (token-some 0x7B _ _ opened.is, token-none 0x7D _ h)

pub leaves-top : LeavesEnd read_top
unfolding read_top read_empty text
leaves-top = leaves-or _ (read_object max_depth)
    (token-then 0x7B (λ x. token (0x7D ∷ []) x >>= λ y. Some (no_members, y)) (token-then 0x7D (λ y. Some (no_members, y)) (leaves-some no_members)))
    (leaves-object max_depth)

-- ── The whole text ──
module _ (s : Bytes) (at : ℕ) (is : at ≡ run_end is_blank s 0) where
  tree : tree_of s ≡ (read_top (drop at s) >>= λ t. check (t.1 ≐ []) >> Some t.0)
  unfolding tree_of read_top
  tree = rw (skip_at s 0 at is)

  pub tree-none : read_top (drop at s) ≡ None → tree_of s ≡ None
  unfolding ◌>>=◌
  tree-none h = tree ∙ rw h

  -- text stands behind the object, or the text ends with it
  module _ (m : Members) (e : ℕ) (r : Reads read_top s at m e) where
    pub tree-behind : (e ≡ length s → ⊥) → tree_of s ≡ None
    unfolding ◌>>=◌ ◌>>◌ check ◌≐◌
    tree-behind f = tree ∙ rw (r.is, here 0 s e (omega (arith, r.to, f)))

    pub tree_is : e ≡ length s → tree_of s ≡ Some m
    unfolding ◌>>=◌ ◌>>◌ check ◌≐◌
    tree_is h = tree ∙ rw (r.is, over s e (omega arith))
