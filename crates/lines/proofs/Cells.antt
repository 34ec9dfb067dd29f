-- The values of a line as `split` of a slice yields them, and a name looked up among a head's.
use Rattle.std.proofs.Common.{◌≡◌, ℕ, Bool, false, List, [], ◌∷◌, eqb, refl, ap, ◌∙◌, Option, Some, None, Bor}
use Prim.Native.Nat.{◌+◌, ◌≤◌, ◌<◌}
use native.Mathlib.Omega.{arith}
use lib.ListN.{length, get_or, drop}
use borrow.Author.Tests.{eq-eqb, ne_eqb}
use denote.Param.Members.{Mut}
use Rattle.std.specs.Option.{UnwrapsOrElse, unwrap_or, option_map}
use Rattle.std.specs.Fn.{CalledAt}
use Rattle.std.specs.List.{slice_split, onto_first, list_any, find, zip}
use Rattle.std.specs.Slice.Iter as slice
use Rattle.std.proofs.lemmas.Iterator.{YieldsList}
use Rattle.std.proofs.lemmas.Iterator.Splits.{YieldsList-from_slice_split}
use Rattle.rows.proofs.Positions.{here, over}
use Rattle.model.specs.Base.{Bytes, any, among, ◌≐◌}
use Rattle.model.specs.Table.{on_first, split, under}
use Rattle.model.proofs.Lists.{by_cases}

-- ── Values ──
on_first-is : (x : ℕ) (l : List Bytes) → onto_first x l ≡ on_first x l
unfolding on_first
on_first-is x [] = refl
on_first-is x (f ∷ fs) = refl

pub split-is : (s : Bytes) → slice_split (λ b. eqb b 0x3B) s ≡ split s
unfolding split
split-is [] = refl
split-is (x ∷ s) = by_cases (eqb x 0x3B) (λ e. rw (e, split-is s)) (λ e. rw (e, split-is s, on_first-is))

-- ── How many ──
length-first : (x : ℕ) (l : List Bytes) → 0 < length l → length (on_first x l) ≡ length l
unfolding on_first
length-first x [] h = absurd (omega (arith, h))
length-first x (f ∷ fs) h = refl

-- a line has a value
values-some : (s : Bytes) → 0 < length (split s)
unfolding split
values-some [] = omega arith
values-some (x ∷ s) = by_cases (eqb x 0x3B) (λ e. rw e (omega arith)) (λ e. rw (e, length-first x (split s) (values-some s)) (values-some s))

module _ (s : Bytes) (i : ℕ) where
  pub count-more : i < length s → get_or s i 0 ≡ 0x3B → length (split (drop i s)) ≡ 1 + length (split (drop (i + 1) s))
  unfolding split
  count-more h e = rw (here 0 s i h, eq-eqb (get_or s i 0) 0x3B e) (omega arith)

  pub count_same : i < length s → (get_or s i 0 ≡ 0x3B → ⊥) → length (split (drop i s)) ≡ length (split (drop (i + 1) s))
  unfolding split
  count_same h f = rw (here 0 s i h, ne_eqb (get_or s i 0) 0x3B f) (length-first (get_or s i 0) (split (drop (i + 1) s)) (values-some (drop (i + 1) s)))

  pub count-over : length s ≤ i → length (split (drop i s)) ≡ 1
  unfolding split
  count-over h = rw (over s i h)

-- the items of a `split` at each `;`
pub values-of : {F : Type 0} {s : _} (g : Mut F (Bor ℕ × Unit {0}) Bool) {f : F} (line : Bytes) → slice.split_rest s ≡ line → slice.split_done s ≡ false → slice.split_callee s ≡ f → ((x : ℕ) (b : Bool) (q : F) → CalledAt g f x b q → (q ≡ f) × (b ≡ eqb x 0x3B)) → YieldsList (slice.split_steps g) (λ x. x.now) s (split line)
values-of g line rest done closure calls = rw (← split-is line) (YieldsList-from_slice_split g (λ b. eqb b 0x3B) line rest done closure calls)

-- what an answer that may be missing shows, or nothing
pub or-none : (o : Option (Bor Bytes)) (r : Bor Bytes) (p : Option Bytes) → UnwrapsOrElse o (λ x. x.now ≡ []) r → option_map (λ x. x.now) o ≡ p → r.now ≡ unwrap_or p []
or-none None r p h e = h ∙ ap (λ q. unwrap_or q []) e
or-none (Some x) r p h e = ap (λ y. y.now) h ∙ ap (λ q. unwrap_or q []) e

-- ── A name among a head's columns ──
pub among-is : (n : Bytes) (l : List Bytes) → list_any (λ m. n ≐ m) l ≡ among n l
unfolding among any
among-is n [] = refl
among-is n (m ∷ l) = rw (among-is n l)

-- ── The value under a name ──
pub under-is : (hs vs : List Bytes) (n : Bytes) → unwrap_or (option_map (λ (p : Bytes × Bytes). p.1) (find (λ p. p.0 ≐ n) (zip hs vs))) [] ≡ under hs vs n
unfolding under
under-is [] vs n = refl
under-is (h ∷ hs) [] n = refl
under-is (h ∷ hs) (v ∷ vs) n = by_cases (h ≐ n) (λ e. rw e) (λ e. rw (e, under-is hs vs n))
