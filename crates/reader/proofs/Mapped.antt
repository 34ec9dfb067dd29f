-- What is read as g has it: what the reader below reads, and what an answer says of that.
use Prim.Native.Nat.{ℕ, ◌≤◌}
use mathlib.Core.Path.{◌≡◌, refl, sym, ap, ◌∙◌}
use Rattle.std.specs.Prelude.{Option, None, Some}
use lib.ListN.{length, drop}
use Rattle.rows.specs.Positions.{Reader, Reads, placed, LeavesEnd}
use Rattle.rows.proofs.Positions.{placed-reads, placed-none, none-placed, reads-placed}
use Rattle.model.specs.Base.{Bytes, ◌>>=◌}
use Rattle.model.proofs.Lists.{none-some}
use Rattle.model.proofs.Reading.{bind-some, some_same}
use Rattle.lexical.proofs.Readers.{leaves-bind, leaves-some}
use Rattle.reader.specs.Tokens.{mapped}

module _ {A B : Type 0} (g : A → B) (f : Reader ℕ A) where
  leaves-mapped : LeavesEnd f → LeavesEnd (mapped g f)
  unfolding mapped
  leaves-mapped p = leaves-bind f (λ a x. Some (g a, x)) p (λ a. leaves-some (g a))

  module _ (s : Bytes) (at : ℕ) where
    -- from what is read to the answer
    pub mapped-none : f (drop at s) ≡ None → None ≡ placed (mapped g f) s at
    unfolding mapped ◌>>=◌
    mapped-none h = sym (placed-none _ s at (rw h))

    pub mapped-is : (a : A) (e : ℕ) → Reads f s at a e → Some (g a, e) ≡ placed (mapped g f) s at
    unfolding mapped ◌>>=◌
    mapped-is a e r = sym (placed-reads (mapped g f) s at (g a) e (record { from = r.from; to = r.to; is = rw r.is }))

    -- and back
    pub mapped-bad : placed (mapped g f) s at ≡ None → f (drop at s) ≡ None
    unfolding mapped ◌>>=◌
    mapped-bad h = go (f (drop at s)) (none-placed (mapped g f) s at h)
      where
        go : (o : Option (A × Bytes)) → (◌>>=◌ {B = B × Bytes} o (λ t. Some (g t.0, t.1))) ≡ None → o ≡ None
        go None h = refl
        go (Some t) h = none-some (sym h)

    pub mapped-reads : LeavesEnd f → at ≤ length s → (b : B) (e : ℕ) → placed (mapped g f) s at ≡ Some (b, e) → (a : A) × Reads f s at a e × (g a ≡ b)
    unfolding mapped
    mapped-reads leaves h b e i =
        let r = reads-placed (mapped g f) s at (leaves-mapped leaves) h b e i in
        bind-some (f (drop at s)) _ _ r.is λ t j k.
        let same : ◌≡◌ {A = B × Bytes} (g t.0, t.1) (b, drop e s) = some_same k in (
          t.0,
          record { from = r.from; to = r.to; is = j ∙ ap (λ (u : B × Bytes). Some (t.0, u.1)) same },
          ap (λ (u : B × Bytes). u.0) same,
        )
