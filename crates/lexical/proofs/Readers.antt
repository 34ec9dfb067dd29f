-- Readers that are put together of others: what they read by positions, and that they leave the end of the text.
use Prim.Native.Nat.{ℕ, ◌+◌, ◌-◌, ◌≤◌}
use mathlib.Core.Path.{◌≡◌, refl, sym, ap, ◌∙◌}
use mathlib.Core.Bool.{Bool, true, false}
use Rattle.std.specs.Prelude.{Option, None, Some}
use mathlib.Core.List.{◌++◌}
use native.Mathlib.Omega.{arith}
use lib.ListN.{length, take, drop, length-append, length-drop}
use lib.Seq.{drop-drop}
use Rattle.rows.specs.Positions.{Reader, behind, placed, run_end, LeavesEnd}
use Rattle.rows.proofs.Positions.{run-within, placed-reads, placed-none}
use Rattle.model.specs.Base.{Bytes, is_some, ◌>>=◌, ◌>>◌, ◌<|>◌, check, after, if_after, span}
use Rattle.model.proofs.Reading.{bind-some, check-some, after-cases, either-some, some_same, after-some, span-joins}
use Rattle.lexical.proofs.Runs.{span-at, rest_of}
use Rattle.lexical.proofs.Slices.{after-at, after-no}

-- the rest of a rest
pub rest-on : (s r t : Bytes) → (n : ℕ) × (n ≤ length s) × (r ≡ drop n s) → (n : ℕ) × (n ≤ length r) × (t ≡ drop n r)
    → (n : ℕ) × (n ≤ length s) × (t ≡ drop n s)
rest-on s r t p q =
    (p.0 + q.0, omega (arith, ap length p.2, length-drop p.0 s), q.2 ∙ ap (drop q.0) p.2 ∙ drop-drop q.0 p.0 s)

-- ── The first of two that reads something ──
module _ {A : Type 0} (f g : Reader ℕ A) where
  pub placed-or : (s : Bytes) (at : ℕ) → placed (λ x. f x <|> g x) s at ≡ (placed f s at <|> placed g s at)
  unfolding placed behind ◌<|>◌
  placed-or s at = go (f (drop at s))
    where
      go : (o : Option (A × Bytes)) → behind s (o <|> g (drop at s)) ≡ (behind s o <|> behind s (g (drop at s)))
      go None = refl
      go (Some t) = refl

  pub leaves-or : LeavesEnd f → LeavesEnd g → LeavesEnd (λ x. f x <|> g x)
  leaves-or p q s t h = either-some _ _ _ h (q s t) (p s t)

-- ── Behind a word ──
module _ {A : Type 0} (w : Bytes) (f : Reader ℕ A) where
  module _ (s : Bytes) (at : ℕ) where
    pub word-not : is_some (after w (drop at s)) ≡ false → None ≡ placed (λ x. after w x >>= f) s at
    unfolding ◌>>=◌
    word-not h = sym (placed-none _ s at (rw (after-no w (drop at s) h)))

    pub word-then : at ≤ length s → is_some (after w (drop at s)) ≡ true → placed f s (at + length w) ≡ placed (λ x. after w x >>= f) s at
    unfolding placed ◌>>=◌
    word-then l h = rw (after-at w s at l h).0

  pub leaves_word : LeavesEnd f → LeavesEnd (λ x. after w x >>= f)
  leaves_word p s t h = bind-some _ _ _ h λ r i j. rest-on s r t.1 (rest_of s w r (after-some w s r i)) (p r t j)

  -- the word is taken
  pub word-taken : LeavesEnd f → (s : Bytes) (t : A × Bytes) → (after w s >>= f) ≡ Some t → length w + length t.1 ≤ length s
  word-taken p s t h = bind-some _ _ _ h λ r i j.
      let v = p r t j in
      omega (arith, ap length v.2, length-drop v.0 r, ap length (after-some w s r i), length-append w r)

  -- a word, or else another reader
  pub leaves-if-word : (g : Reader ℕ A) → LeavesEnd f → LeavesEnd g → LeavesEnd (λ x. if_after (after w x) f (g x))
  unfolding ◌>>=◌
  leaves-if-word g p q s t h = after-cases _ _ _ _ h (λ i j. q s t j) (λ r i j. leaves_word p s t (rw i j))

-- ── One behind the other ──
pub leaves-some : {A : Type 0} (a : A) → LeavesEnd (λ (x : Bytes). Some (a, x))
leaves-some {A} a s t h = (0, omega arith, sym (ap (λ (u : A × Bytes). u.1) (some_same h)))

pub leaves-bind : {A B : Type 0} (f : Reader ℕ A) (g : A → Reader ℕ B) → LeavesEnd f → ((a : A) → LeavesEnd (g a))
    → LeavesEnd (λ x. f x >>= λ t. g t.0 t.1)
leaves-bind f g p q s t h = bind-some _ _ _ h λ u i j. rest-on s u.1 t.1 (p s u i) (q u.0 u.1 t j)

-- ── The longest beginning of bytes that pass, where it fits ──
module _ {A : Type 0} (p : ℕ → Bool) (fits : Bytes → Bool) (make : Bytes → A) where
  unfoldable pub scanned : Reader ℕ A
  scanned x = check (fits (span p x).0) >> Some (make (span p x).0, (span p x).1)

  module _ (s : Bytes) (at to : ℕ) (is : to ≡ run_end p s at) where
    pub scanned-not : fits (take (to - at) (drop at s)) ≡ false → None ≡ placed scanned s at
    unfolding scanned check ◌>>◌
    scanned-not h = sym (placed-none _ s at (rw (span-at p s at to is, h)))

    pub scanned-is : at ≤ length s → fits (take (to - at) (drop at s)) ≡ true → Some (make (take (to - at) (drop at s)), to) ≡ placed scanned s at
    unfolding scanned check ◌>>◌
    scanned-is l h =
        let w = run-within p s at to is l in
        sym (placed-reads _ s at _ to (record { from = w.0; to = w.1; is = rw (span-at p s at to is, h) }))

  pub leaves-scanned : LeavesEnd scanned
  unfolding scanned
  leaves-scanned s t h = check-some _ _ _ h λ c j.
      rest_of s (span p s).0 t.1 (sym (span-joins p s) ∙ ap (λ (u : A × Bytes). (span p s).0 ++ u.1) (some_same j))
