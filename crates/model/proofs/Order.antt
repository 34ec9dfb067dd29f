-- The order of paths, fields sorted by it, and what finding and putting do there.
use Prim.Native.Nat.compare
use Prim.Native.Nat.{ℕ, zero, suc, ◌+◌, ◌≤◌, compare, Ordering}
use mathlib.Core.Path.{◌≡◌, refl, sym, ap, ap₂, subst, ◌∙◌}
use Rattle.std.specs.Prelude.{None, Some}
use mathlib.Core.List.{List, [], ◌∷◌}
use mathlib.Core.Bool.{Bool, true, false}
use lib.ListN.{length, take}
use lib.Seq.{take_all}
use native.Mathlib.Omega.{arith}
use Rattle.model.specs.Base.{keep, is_some, All}
use Rattle.model.specs.Limits.{max_fields}
use Rattle.model.specs.Fields.{Keys, Field, Fields, and_then, lex, order_key, order_path, by_order, value_at, holds, put, store}
use Rattle.model.proofs.Lists.{by_cases, never, all_keep, keep-yes, keep-no}

-- ── An order ──
unfoldable pub swap : Ordering → Ordering
swap Ordering.lt = Ordering.gt
swap Ordering.eq = Ordering.eq
swap Ordering.gt = Ordering.lt

pub record Orders {A : Type 0} (o : A → A → Ordering) : Type 0 where
  pub same : (a b : A) → o a b ≡ Ordering.eq → a ≡ b
  pub self : (a : A) → o a a ≡ Ordering.eq
  pub flip : (a b : A) → o b a ≡ swap (o a b)
  pub trans : (a b c : A) → o a b ≡ Ordering.lt → o b c ≡ Ordering.lt → o a c ≡ Ordering.lt

pub lt-eq : {C : Type 0} → Ordering.lt ≡ Ordering.eq → C
lt-eq h = let z : ◌≡◌ {A = ℕ} 0 1 = cc in absurd (omega arith)

pub lt-gt : {C : Type 0} → Ordering.lt ≡ Ordering.gt → C
lt-gt h = let z : ◌≡◌ {A = ℕ} 0 1 = cc in absurd (omega arith)

pub eq-gt : {C : Type 0} → Ordering.eq ≡ Ordering.gt → C
eq-gt h = let z : ◌≡◌ {A = ℕ} 0 1 = cc in absurd (omega arith)

-- ── Numbers ──
compare_same : (m n : ℕ) → compare m n ≡ Ordering.eq → m ≡ n
compare_same zero zero h = refl
compare_same zero (suc n) h = lt-eq (sym (compare.zero-suc n) ∙ h)
compare_same (suc m) zero h = eq-gt (sym h ∙ compare.suc-zero m)
compare_same (suc m) (suc n) h = ap suc (compare_same m n (sym (compare.suc-suc m n) ∙ h))

compare_self : (m : ℕ) → compare m m ≡ Ordering.eq
compare_self zero = compare.zero-zero
compare_self (suc m) = compare.suc-suc m m ∙ compare_self m

compare-flip : (m n : ℕ) → compare n m ≡ swap (compare m n)
unfolding swap
compare-flip zero zero = rw compare.zero-zero
compare-flip zero (suc n) = rw (compare.zero-suc n, compare.suc-zero n)
compare-flip (suc m) zero = rw (compare.zero-suc m, compare.suc-zero m)
compare-flip (suc m) (suc n) = rw (compare.suc-suc m n, compare.suc-suc n m) (compare-flip m n)

compare-trans : (a b c : ℕ) → compare a b ≡ Ordering.lt → compare b c ≡ Ordering.lt → compare a c ≡ Ordering.lt
compare-trans a zero zero h k = lt-eq (sym k ∙ compare.zero-zero)
compare-trans zero zero (suc c) h k = lt-eq (sym h ∙ compare.zero-zero)
compare-trans (suc a) zero (suc c) h k = lt-gt (sym h ∙ compare.suc-zero a)
compare-trans a (suc b) zero h k = lt-gt (sym k ∙ compare.suc-zero b)
compare-trans zero (suc b) (suc c) h k = compare.zero-suc c
compare-trans (suc a) (suc b) (suc c) h k = compare.suc-suc a c ∙ compare-trans a b c (sym (compare.suc-suc a b) ∙ h) (sym (compare.suc-suc b c) ∙ k)

pub compare-orders : Orders compare
compare-orders = record { same = compare_same; self = compare_self; flip = compare-flip; trans = compare-trans }

-- ── Lists, element by element ──
then-eq : (a b : Ordering) → and_then a b ≡ Ordering.eq → (a ≡ Ordering.eq) × (b ≡ Ordering.eq)
unfolding and_then
then-eq Ordering.lt b h = lt-eq h
then-eq Ordering.eq b h = (refl, h)
then-eq Ordering.gt b h = eq-gt (sym h)

then-lt : {C : Type 0} (a b : Ordering) → and_then a b ≡ Ordering.lt → (a ≡ Ordering.lt → C) → (a ≡ Ordering.eq → b ≡ Ordering.lt → C) → C
unfolding and_then
then-lt Ordering.lt b h f g = f refl
then-lt Ordering.eq b h f g = g refl h
then-lt Ordering.gt b h f g = lt-gt (sym h)

then-swap : (a b : Ordering) → swap (and_then a b) ≡ and_then (swap a) (swap b)
unfolding and_then swap
then-swap Ordering.lt b = refl
then-swap Ordering.eq b = refl
then-swap Ordering.gt b = refl

module _ {A : Type 0} (o : A → A → Ordering) (r : Orders o) where
  lex-same : (s t : List A) → lex o s t ≡ Ordering.eq → s ≡ t
  unfolding lex
  lex-same [] [] h = refl
  lex-same [] (y ∷ t) h = lt-eq h
  lex-same (x ∷ s) [] h = eq-gt (sym h)
  lex-same (x ∷ s) (y ∷ t) h = let (e, f) = then-eq _ _ h in ap₂ ◌∷◌ (r.same x y e) (lex-same s t f)

  lex-self : (s : List A) → lex o s s ≡ Ordering.eq
  unfolding lex and_then
  lex-self [] = refl
  lex-self (x ∷ s) = rw (r.self x) (lex-self s)

  lex-flip : (s t : List A) → lex o t s ≡ swap (lex o s t)
  unfolding lex swap
  lex-flip [] [] = refl
  lex-flip [] (y ∷ t) = refl
  lex-flip (x ∷ s) [] = refl
  lex-flip (x ∷ s) (y ∷ t) = rw (r.flip x y, lex-flip s t) (sym (then-swap _ _))

  lex-trans : (s t u : List A) → lex o s t ≡ Ordering.lt → lex o t u ≡ Ordering.lt → lex o s u ≡ Ordering.lt
  unfolding lex and_then
  lex-trans [] [] u h k = lt-eq (sym h)
  lex-trans [] (y ∷ t) [] h k = lt-gt (sym k)
  lex-trans [] (y ∷ t) (z ∷ u) h k = refl
  lex-trans (x ∷ s) [] u h k = lt-gt (sym h)
  lex-trans (x ∷ s) (y ∷ t) [] h k = lt-gt (sym k)
  lex-trans (x ∷ s) (y ∷ t) (z ∷ u) h k =
      then-lt (o x y) _ h
      (λ e. then-lt (o y z) _ k
      (λ f. rw (r.trans x y z e f))
      (λ f m. rw (← r.same y z f, e)))
      (λ e l. rw (r.same x y e) (then-lt (o y z) _ k
      (λ f. rw f)
      (λ f m. rw f (lex-trans s t u l m))))

  lex-orders : Orders (lex o)
  lex-orders = record { same = lex-same; self = lex-self; flip = lex-flip; trans = lex-trans }

pub key-orders : Orders order_key
unfolding order_key
key-orders = lex-orders compare compare-orders

pub path-orders : Orders order_path
unfolding order_path
path-orders = lex-orders order_key key-orders

-- ── Three cases ──
pub by_three : {C : Type 0} (o : Ordering) → (o ≡ Ordering.lt → C) → (o ≡ Ordering.eq → C) → (o ≡ Ordering.gt → C) → C
by_three Ordering.lt f g h = f refl
by_three Ordering.eq f g h = g refl
by_three Ordering.gt f g h = h refl

-- p is before q
abbrev pub Before : Keys → Keys → Type 0
Before p q = order_path p q ≡ Ordering.lt

pub before-trans : (p q r : Keys) → Before p q → Before q r → Before p r
before-trans p q r h k = path-orders.trans p q r h k

pub after-before : (p q : Keys) → order_path p q ≡ Ordering.gt → Before q p
unfolding swap
after-before p q h = path-orders.flip p q ∙ ap swap h

pub before-after : (p q : Keys) → Before q p → order_path p q ≡ Ordering.gt
unfolding swap
before-after p q h = path-orders.flip q p ∙ ap swap h

-- ── Sorted fields ──
abbrev pub Behind : Keys → Fields → Type 0
Behind p gs = All (λ g. Before p g.path) gs

abbrev pub Sorted : Fields → Type 0
Sorted [] = Unit {0}
Sorted (g ∷ gs) = Behind g.path gs × Sorted gs

pub behind-trans : (p q : Keys) (gs : Fields) → Before p q → Behind q gs → Behind p gs
behind-trans p q [] h b = tt
behind-trans p q (g ∷ gs) h b = (before-trans p q g.path h b.0, behind-trans p q gs h b.1)

pub sorted-take : (n : ℕ) (gs : Fields) → Sorted gs → Sorted (take n gs)
sorted-take zero gs s = tt
sorted-take (suc n) [] s = tt
sorted-take (suc n) (g ∷ gs) s = (Rattle.model.proofs.Lists.all_take _ n gs s.0, sorted-take n gs s.1)

pub sorted-keep : (f : Field → Bool) (gs : Fields) → Sorted gs → Sorted (keep f gs)
unfolding keep
sorted-keep f [] s = tt
sorted-keep f (g ∷ gs) s = by_cases (f g) (λ e. rw e (all_keep _ f gs s.0, sorted-keep f gs s.1)) (λ e. rw e (sorted-keep f gs s.1))

-- ── Putting, by the three cases ──
module _ (f g : Field) (gs : Fields) where
  pub put-less : Before f.path g.path → put f (g ∷ gs) ≡ f ∷ g ∷ gs
  unfolding put by_order
  put-less e = rw e

  pub put_same : order_path f.path g.path ≡ Ordering.eq → put f (g ∷ gs) ≡ f ∷ gs
  unfolding put by_order
  put_same e = rw e

  pub put-more : order_path f.path g.path ≡ Ordering.gt → put f (g ∷ gs) ≡ g ∷ put f gs
  unfolding put by_order
  put-more e = rw e

-- every field of the result is f or was there
pub all-put : (P : Field → Type 0) (f : Field) (gs : Fields) → P f → All P gs → All P (put f gs)
all-put P f [] p h = unfold put in (p, tt)
all-put P f (g ∷ gs) p h = by_three (order_path f.path g.path)
    (λ e. rw (put-less f g gs e) (p, h))
    (λ e. rw (put_same f g gs e) (p, h.1))
    (λ e. rw (put-more f g gs e) (h.0, all-put P f gs p h.1))

pub put_front : (f : Field) (gs : Fields) → Behind f.path gs → put f gs ≡ f ∷ gs
put_front f [] b = unfold put in refl
put_front f (g ∷ gs) b = put-less f g gs b.0

pub sorted-put : (f : Field) (gs : Fields) → Sorted gs → Sorted (put f gs)
sorted-put f [] s = unfold put in (tt, tt)
sorted-put f (g ∷ gs) s = by_three (order_path f.path g.path)
    (λ e. rw (put-less f g gs e) ((e, behind-trans _ _ gs e s.0), s))
    (λ e. rw (put_same f g gs e) (subst (λ (p : Keys). Behind p gs) (sym (path-orders.same _ _ e)) s.0, s.1))
    (λ e. rw (put-more f g gs e) (all-put _ f gs (after-before _ _ e) s.0, sorted-put f gs s.1))

-- ── Finding ──
module _ (p : Keys) (g : Field) (gs : Fields) where
  pub value-less : Before p g.path → value_at p (g ∷ gs) ≡ None
  unfolding value_at by_order
  value-less e = rw e

  pub value_same : order_path p g.path ≡ Ordering.eq → value_at p (g ∷ gs) ≡ Some g.value
  unfolding value_at by_order
  value_same e = rw e

  pub value-more : order_path p g.path ≡ Ordering.gt → value_at p (g ∷ gs) ≡ value_at p gs
  unfolding value_at by_order
  value-more e = rw e

pub holds_more : (p : Keys) (g : Field) (gs : Fields) → order_path p g.path ≡ Ordering.gt → holds p (g ∷ gs) ≡ holds p gs
unfolding holds
holds_more p g gs e = ap is_some (value-more p g gs e)

pub value-behind : (p : Keys) (gs : Fields) → Behind p gs → value_at p gs ≡ None
value-behind p [] b = unfold value_at in refl
value-behind p (g ∷ gs) b = value-less p g gs b.0

-- the field put in holds its value
pub value-put : (f : Field) (gs : Fields) → value_at f.path (put f gs) ≡ Some f.value
value-put f [] = unfold put in (value_same f.path f [] (path-orders.self _))
value-put f (g ∷ gs) = by_three (order_path f.path g.path)
    (λ e. rw (put-less f g gs e) (value_same f.path f (g ∷ gs) (path-orders.self _)))
    (λ e. rw (put_same f g gs e) (value_same f.path f gs (path-orders.self _)))
    (λ e. rw (put-more f g gs e) (value-more f.path g (put f gs) e ∙ value-put f gs))

-- every other path keeps what it held
pub value-other : (f : Field) (q : Keys) (gs : Fields) → Sorted gs → (q ≡ f.path → ⊥) → value_at q (put f gs) ≡ value_at q gs
value-other f q gs s n = by_three (order_path q f.path)
    (λ e. lower gs s e)
    (λ e. absurd (n (path-orders.same _ _ e)))
    (λ e. higher gs e)
  where
    -- below f: what stands before f's place decides
    lower : (gs : Fields) → Sorted gs → Before q f.path → value_at q (put f gs) ≡ value_at q gs
    lower [] s e = unfold put in (value-less q f [] e ∙ sym (unfold value_at in refl))
    lower (g ∷ gs) s e = by_three (order_path f.path g.path)
        (λ k. rw (put-less f g gs k) (value-less q f (g ∷ gs) e ∙ sym (value-less q g gs (before-trans _ _ _ e k))))
        (λ k. rw (put_same f g gs k) (value-less q f gs e ∙ sym (value-less q g gs (rw (path-orders.same _ _ k) at e))))
        (λ k. rw (put-more f g gs k) (by_three (order_path q g.path)
        (λ h. value-less q g (put f gs) h ∙ sym (value-less q g gs h))
        (λ h. value_same q g (put f gs) h ∙ sym (value_same q g gs h))
        (λ h. value-more q g (put f gs) h ∙ lower gs s.1 e ∙ sym (value-more q g gs h))))

    -- above f: the search goes past f
    higher : (gs : Fields) → order_path q f.path ≡ Ordering.gt → value_at q (put f gs) ≡ value_at q gs
    higher [] e = unfold put in (value-more q f [] e)
    higher (g ∷ gs) e = by_three (order_path f.path g.path)
        (λ k. rw (put-less f g gs k) (value-more q f (g ∷ gs) e))
        (λ k. rw (put_same f g gs k) (value-more q f gs e ∙ sym (value-more q g gs (rw (path-orders.same _ _ k) at e))))
        (λ k. rw (put-more f g gs k) (by_three (order_path q g.path)
        (λ h. value-less q g (put f gs) h ∙ sym (value-less q g gs h))
        (λ h. value_same q g (put f gs) h ∙ sym (value_same q g gs h))
        (λ h. value-more q g (put f gs) h ∙ higher gs e ∙ sym (value-more q g gs h))))

-- ── How many ──
unfoldable pub one : Bool → ℕ
one true = 1
one false = 0

unfoldable pub absent : Keys → Fields → Bool
absent p gs = mathlib.Core.Bool.not (holds p gs)

pub length-put : (f : Field) (gs : Fields) → length (put f gs) ≡ length gs + one (absent f.path gs)
unfolding holds is_some absent one
length-put f [] = unfold put value_at in refl
length-put f (g ∷ gs) = by_three (order_path f.path g.path)
    (λ e. rw (put-less f g gs e, value-less f.path g gs e) (omega arith))
    (λ e. rw (put_same f g gs e, value_same f.path g gs e) (omega arith))
    (λ e. rw (put-more f g gs e, value-more f.path g gs e, length-put f gs) (omega arith))

-- where there is room nothing falls off
pub store-fits : (f : Field) (gs : Fields) → length (put f gs) ≤ max_fields → store f gs ≡ put f gs
unfolding store
store-fits f gs h = take_all max_fields (put f gs) h

-- ── What a test q of the path keeps of fields ──
module _ (q : Keys → Bool) where
  abbrev at : Field → Bool
  at f = q f.path

  -- a path that does not pass leaves what is kept
  pub put-hidden : (f : Field) (gs : Fields) → q f.path ≡ false → keep at (put f gs) ≡ keep at gs
  put-hidden f [] e = unfold put in keep-no at f [] e
  put-hidden f (g ∷ gs) e = by_three (order_path f.path g.path)
      (λ h. rw (put-less f g gs h) (keep-no at f (g ∷ gs) e))
      (λ h. rw (put_same f g gs h) (keep-no at f gs e ∙ sym (keep-no at g gs (rw (path-orders.same _ _ h) at e))))
      (λ h. rw (put-more f g gs h) (by_cases (q g.path)
      (λ k. simp (keep-yes, put-hidden f gs e))
      (λ k. simp (keep-no, put-hidden f gs e))))

  -- a path that passes is put among those kept
  pub put-seen : (f : Field) (gs : Fields) → q f.path ≡ true → Sorted gs → keep at (put f gs) ≡ put f (keep at gs)
  put-seen f [] e s = unfold put keep in keep-yes at f [] e
  put-seen f (g ∷ gs) e s = by_three (order_path f.path g.path)
      (λ h. rw (put-less f g gs h, keep-yes at f (g ∷ gs) e) (sym (put_front f (keep at (g ∷ gs)) (all_keep _ at (g ∷ gs) (h, behind-trans _ _ gs h s.0)))))
      (λ h. let k : q g.path ≡ true = rw (path-orders.same _ _ h) at e in
      rw (put_same f g gs h, keep-yes at f gs e, keep-yes at g gs k) (sym (put_same f g (keep at gs) h)))
      (λ h. rw (put-more f g gs h) (by_cases (q g.path)
      (λ k. rw (keep-yes at g (put f gs) k, keep-yes at g gs k, put-seen f gs e s.1) (sym (put-more f g (keep at gs) h)))
      (λ k. rw (keep-no at g (put f gs) k, keep-no at g gs k) (put-seen f gs e s.1))))

  pub value-seen : (p : Keys) (gs : Fields) → q p ≡ true → Sorted gs → value_at p (keep at gs) ≡ value_at p gs
  value-seen p [] e s = unfold value_at keep in refl
  value-seen p (g ∷ gs) e s = by_cases (q g.path)
      (λ k. rw (keep-yes at g gs k) (by_three (order_path p g.path)
      (λ h. value-less p g (keep at gs) h ∙ sym (value-less p g gs h))
      (λ h. value_same p g (keep at gs) h ∙ sym (value_same p g gs h))
      (λ h. value-more p g (keep at gs) h ∙ value-seen p gs e s.1 ∙ sym (value-more p g gs h))))
      (λ k. rw (keep-no at g gs k) (by_three (order_path p g.path)
      (λ h. value-behind p (keep at gs) (all_keep _ at gs (behind-trans _ _ gs h s.0)) ∙ sym (value-less p g gs h))
      (λ h. never (sym e ∙ (ap q (path-orders.same _ _ h) ∙ k)))
      (λ h. value-seen p gs e s.1 ∙ sym (value-more p g gs h))))
