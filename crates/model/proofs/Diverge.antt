-- Relations between any two elements of a list; paths of which neither begins the other.
use Prim.Native.Nat.{ℕ, zero, suc}
use mathlib.Core.Path.{◌≡◌, refl, sym, ◌∙◌}
use mathlib.Core.List.{List, [], ◌∷◌, ◌++◌}
use mathlib.Core.Bool.{Bool, true, false, not, ◌||◌}
use lib.ListN.{take}
use Rattle.model.specs.Base.{Bytes, ◌≐◌, All}
use Rattle.model.specs.Fields.{Keys, Field, Fields, order_path, put}
use Rattle.model.proofs.Lists.{by_cases, never, or_right, bytes_eq, bytes-refl, bytes-ne, all_append, all_take}
use Rattle.model.proofs.Order.{by_three, put-less, put_same, put-more, all-put}

-- ── Each element with each later one ──
module _ {A : Type 0} where
  abbrev pub Pairs : (A → A → Type 0) → List A → Type 0
  Pairs R [] = Unit {0}
  Pairs R (x ∷ xs) = All (R x) xs × Pairs R xs

  pub pairs-last : (R : A → A → Type 0) (xs : List A) (y : A) → Pairs R xs → All (λ x. R x y) xs → Pairs R (xs ++ y ∷ [])
  pairs-last R [] y p h = (tt, tt)
  pairs-last R (x ∷ xs) y p h = (all_append (R x) xs (y ∷ []) p.0 (h.0, tt), pairs-last R xs y p.1 h.1)

  pub pairs-take : (R : A → A → Type 0) (n : ℕ) (xs : List A) → Pairs R xs → Pairs R (take n xs)
  pairs-take R zero xs p = tt
  pairs-take R (suc n) [] p = tt
  pairs-take R (suc n) (x ∷ xs) p = (all_take (R x) n xs p.0, pairs-take R n xs p.1)

  -- a relation that is symmetric and holds of each element and itself holds of any two
  pub pairs-all : (R : A → A → Type 0) → ((x : A) → R x x) → ((x y : A) → R x y → R y x) →
      (xs : List A) → Pairs R xs → All (λ x. All (R x) xs) xs
  pairs-all R self flip [] p = tt
  pairs-all R self flip (x ∷ xs) p = ((self x, p.0), both xs p.0 (pairs-all R self flip xs p.1))
    where
      both : (ys : List A) → All (R x) ys → All (λ y. All (R y) xs) ys → All (λ y. All (R y) (x ∷ xs)) ys
      both [] h k = tt
      both (y ∷ ys) h k = ((flip x y h.0, k.0), both ys h.1 k.1)

-- ── Paths that diverge: neither begins the other, and they are not the same ──
unfoldable pub diverge : Keys → Keys → Bool
diverge [] q = false
diverge (k ∷ p) [] = false
diverge (k ∷ p) (l ∷ q) = not (k ≐ l) || diverge p q

bytes-flip : (a b : Bytes) → (a ≐ b) ≡ (b ≐ a)
bytes-flip a b = by_cases (a ≐ b)
    (λ e. rw (bytes_eq a b e))
    (λ e. by_cases (b ≐ a) (λ f. absurd (bytes-ne a b e (sym (bytes_eq b a f)))) (λ f. e ∙ sym f))

pub diverge-flip : (p q : Keys) → diverge p q ≡ diverge q p
unfolding diverge
diverge-flip [] [] = refl
diverge-flip [] (l ∷ q) = refl
diverge-flip (k ∷ p) [] = refl
diverge-flip (k ∷ p) (l ∷ q) = rw (bytes-flip k l, diverge-flip p q)

pub diverge-self : (p : Keys) → diverge p p ≡ false
unfolding diverge
diverge-self [] = refl
diverge-self (k ∷ p) = rw (bytes-refl k) (diverge-self p)

-- what is behind the end of either path changes nothing
pub diverge-longer : (q p r : Keys) → diverge q p ≡ true → diverge q (p ++ r) ≡ true
unfolding diverge
diverge-longer [] p r h = h
diverge-longer (l ∷ q) [] r h = never (sym h)
diverge-longer (l ∷ q) (k ∷ p) r h = by_cases (l ≐ k) (λ e. rw e (diverge-longer q p r (rw e at h))) (λ e. rw e)

pub longer-diverge : (q p r : Keys) → diverge p q ≡ true → diverge (p ++ r) q ≡ true
longer-diverge q p r h = diverge-flip (p ++ r) q ∙ diverge-longer q p r (diverge-flip q p ∙ h)

-- two keys behind one path
pub siblings-diverge : (p : Keys) (k l : Bytes) → (k ≐ l) ≡ false → diverge (p ++ k ∷ []) (p ++ l ∷ []) ≡ true
unfolding diverge
siblings-diverge [] k l h = rw h
siblings-diverge (x ∷ p) k l h = or_right (not (x ≐ x)) _ (siblings-diverge p k l h)

-- a path that diverges from each of the fields
abbrev pub DivergesFrom : Keys → Fields → Type 0
DivergesFrom p gs = All (λ g. diverge p g.path ≡ true) gs

-- of the fields, any two diverge
abbrev pub Diverging : Fields → Type 0
Diverging fs = Pairs (λ f g. diverge f.path g.path ≡ true) fs

pub diverging-put : (f : Field) (gs : Fields) → DivergesFrom f.path gs → Diverging gs → Diverging (put f gs)
diverging-put f [] h d = unfold put in (tt, tt)
diverging-put f (g ∷ gs) h d = by_three (order_path f.path g.path)
    (λ e. rw (put-less f g gs e) (h, d))
    (λ e. rw (put_same f g gs e) (h.1, d.1))
    (λ e. rw (put-more f g gs e) (all-put _ f gs (diverge-flip _ _ ∙ h.0) d.0, diverging-put f gs h.1 d.1))
