-- What stands in brackets, whatever it is: by positions, and as the text that it is.
use Prim.Native.Nat.{ℕ, ◌+◌, ◌<◌}
use mathlib.Core.Path.{◌≡◌, ap, ◌∙◌}
use mathlib.Core.Bool.{true, false}
use Rattle.std.specs.Prelude.{None, Some}
use mathlib.Core.List.{[], ◌∷◌}
use native.Mathlib.Omega.{arith}
use lib.ListN.{length, drop}
use Rattle.rows.specs.Positions.{Reader, Reads, LeavesEnd}
use Rattle.model.specs.Base.{Bytes, text, is_some, ◌>>=◌, after}
use Rattle.model.specs.Paths.{in_brackets}
use Rattle.model.proofs.Reading.{bind-some, some_same, after-some}
use Rattle.lexical.proofs.Runs.{byte-stands}
use Rattle.lexical.proofs.Slices.{after-no}
use Rattle.lexical.proofs.Readers.{leaves_word, word-taken, leaves-some, leaves-bind}

module _ {A : Type 0} (inner : Reader ℕ A) where
  -- ── By positions ──
  module _ (s : Bytes) (at : ℕ) where
    pub brackets-unopened : is_some (after (0x5B ∷ []) (drop at s)) ≡ false → in_brackets inner (drop at s) ≡ None
    unfolding in_brackets text ◌>>=◌
    brackets-unopened h = rw (after-no (0x5B ∷ []) (drop at s) h)

    module _ (o : is_some (after (0x5B ∷ []) (drop at s)) ≡ true) where
      pub brackets-empty : inner (drop (at + 1) s) ≡ None → in_brackets inner (drop at s) ≡ None
      unfolding in_brackets text ◌>>=◌
      brackets-empty i = rw ((byte-stands 0x5B s at o).1, i)

      module _ (a : A) (e : ℕ) (r : Reads inner s (at + 1) a e) where
        pub brackets-unclosed : is_some (after (0x5D ∷ []) (drop e s)) ≡ false → in_brackets inner (drop at s) ≡ None
        unfolding in_brackets text ◌>>=◌
        brackets-unclosed i = rw ((byte-stands 0x5B s at o).1, r.is, after-no (0x5D ∷ []) (drop e s) i)

        pub brackets-closed : is_some (after (0x5D ∷ []) (drop e s)) ≡ true → Reads (in_brackets inner) s at a (e + 1)
        unfolding in_brackets text ◌>>=◌
        brackets-closed i =
            let (l, f) = byte-stands 0x5D s e i in
            record { from = omega (arith, r.from); to = l; is = rw ((byte-stands 0x5B s at o).1, r.is, f) }

  -- ── As a text ──
  -- a was read behind the opening bracket, and r is the rest behind the closing one
  pub record Bracketed (s : Bytes) (a : A) (r : Bytes) : Type 0 where
    pub behind : Bytes
    pub is : s ≡ 0x5B ∷ behind
    pub reads : inner behind ≡ Some (a, 0x5D ∷ r)

  pub brackets-give : (s : Bytes) (a : A) (r : Bytes) → in_brackets inner s ≡ Some (a, r) → Bracketed s a r
  unfolding in_brackets text
  brackets-give s a r h =
      bind-some _ _ _ h λ s₁ i j.
      bind-some _ _ _ j λ t k l.
      bind-some _ _ _ l λ r₁ m n.
      let same : ◌≡◌ {A = A × Bytes} (t.0, r₁) (a, r) = some_same n in
      let closes = after-some (0x5D ∷ []) t.1 r₁ m in
      record {
        behind = s₁;
        is = after-some (0x5B ∷ []) s s₁ i;
        reads = k ∙ ap (λ (x : Bytes). Some (t.0, x)) closes ∙ ap (λ (x : A × Bytes). Some (x.0, 0x5D ∷ x.1)) same;
      }

  -- what is left behind the closing bracket
  inside-leaves : LeavesEnd inner → LeavesEnd (λ x. inner x >>= λ t. after (text "]") t.1 >>= λ r. Some (t.0, r))
  inside-leaves leaves =
      leaves-bind inner (λ a x. after (text "]") x >>= λ r. Some (a, r)) leaves (λ a. leaves_word (text "]") (λ r. Some (a, r)) (leaves-some a))

  pub brackets-leave : LeavesEnd inner → LeavesEnd (in_brackets inner)
  unfolding in_brackets
  brackets-leave leaves = leaves_word (text "[") _ (inside-leaves leaves)

  pub brackets-shorten : LeavesEnd inner → (s : Bytes) (t : A × Bytes) → in_brackets inner s ≡ Some t → length t.1 < length s
  unfolding in_brackets text
  brackets-shorten leaves s t h = omega (arith, word-taken (0x5B ∷ []) _ (inside-leaves leaves) s t h)
