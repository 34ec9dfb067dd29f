-- Laws of the lists, tests and refusals that the definitions are written with.
use Prim.Native.Nat.{ℕ, zero, suc, ◌+◌, ◌≤◌, ◌<◌}
use mathlib.Core.Path.{◌≡◌, refl, sym, ap, ap₂, ◌∙◌}
use Rattle.std.specs.Prelude.{Option, None, Some}
use mathlib.Core.List.{List, [], ◌∷◌, ◌++◌, map}
use mathlib.Core.Bool.{Bool, true, false, ◌&&◌, ◌||◌}
use lib.Dec.{eqb}
use lib.ListN.{length, take, set, get_or, replicate}
use Rattle.std.specs.Prelude.{slice_get}
use native.Mathlib.Omega.{arith}
use borrow.Author.Tests.{eq-eqb, eqb-true}
use Rattle.model.specs.Base.{Bytes, any, all, All, keep, joined, range, ◌≐◌}
use Rattle.model.specs.Refusals.{Result, refused, done, ◌>>=◌, ◌>>◌, refuse◌if◌, ◌or◌}

-- ── Tests ──
-- a proof by the two cases of a test, each with its equation
pub by_cases : {A : Type 0} (b : Bool) → (b ≡ true → A) → (b ≡ false → A) → A
by_cases true f g = f refl
by_cases false f g = g refl

pub never : {A : Type 0} → true ≡ false → A
never h = let z : ◌≡◌ {A = ℕ} 0 1 = cc in absurd (omega arith)

pub and_both : (a b : Bool) → (a && b) ≡ true → (a ≡ true) × (b ≡ true)
and_both true b h = (refl, h)
and_both false b h = (h, cc)

pub both-and : (a b : Bool) → a ≡ true → b ≡ true → (a && b) ≡ true
both-and a b h k = rw (h, k)

pub or-neither : (a b : Bool) → (a || b) ≡ false → (a ≡ false) × (b ≡ false)
or-neither true b h = never h
or-neither false b h = (refl, h)

pub or_left : (a b : Bool) → a ≡ true → (a || b) ≡ true
or_left a b h = rw h

pub or_right : (a b : Bool) → b ≡ true → (a || b) ≡ true
or_right true b h = refl
or_right false b h = h

-- ── Refusals ──
pub refused-done : {C E A : Type 0} {e : E} {a : A} → refused e ≡ done a → C
refused-done h = let z : ◌≡◌ {A = ℕ} 0 1 = cc in absurd (omega arith)

pub done-same : {E A : Type 0} {a b : A} → ◌≡◌ {A = Result E A} (done a) (done b) → a ≡ b
done-same h = cc

pub none-some : {C A : Type 0} {a : A} → None ≡ Some a → C
none-some h = let z : ◌≡◌ {A = ℕ} 0 1 = cc in absurd (omega arith)

-- what is done after a test was done behind it
pub if-done : {E A : Type 0} (e : E) (b : Bool) (x : Result E A) (a : A) → ((refuse e if b) >> x) ≡ done a → (b ≡ false) × (x ≡ done a)
unfolding ◌>>◌ refuse◌if◌
if-done e true x a h = refused-done h
if-done e false x a h = (refl, h)

pub or-done : {E A B : Type 0} (o : Option A) (e : E) (f : A → Result E B) (b : B) → ((o or e) >>= f) ≡ done b → (a : A) × (o ≡ Some a) × (f a ≡ done b)
unfolding ◌>>=◌ ◌or◌
or-done None e f b h = refused-done h
or-done (Some a) e f b h = (a, refl, h)

pub bind_done : {E A B : Type 0} (x : Result E A) (f : A → Result E B) (b : B) → (x >>= f) ≡ done b → (a : A) × (x ≡ done a) × (f a ≡ done b)
unfolding ◌>>=◌
bind_done (refused e) f b h = refused-done h
bind_done (done a) f b h = (a, refl, h)

pub then-done : {E A B : Type 0} (x : Result E A) (y : Result E B) (b : B) → (x >> y) ≡ done b → (a : A) × (x ≡ done a) × (y ≡ done b)
unfolding ◌>>◌
then-done (refused e) y b h = refused-done h
then-done (done a) y b h = (a, refl, h)

-- the same, for a proof that goes on with what is known
pub past-if : {C E A : Type 0} (e : E) (b : Bool) (x : Result E A) (a : A) → ((refuse e if b) >> x) ≡ done a → (b ≡ false → x ≡ done a → C) → C
past-if e b x a h k = let w = if-done e b x a h in k w.0 w.1

pub past-or : {C E A B : Type 0} (o : Option A) (e : E) (f : A → Result E B) (b : B) → ((o or e) >>= f) ≡ done b → ((a : A) → o ≡ Some a → f a ≡ done b → C) → C
past-or o e f b h k = let w = or-done o e f b h in k w.0 w.1 w.2

pub past : {C E A B : Type 0} (x : Result E A) (f : A → Result E B) (b : B) → (x >>= f) ≡ done b → ((a : A) → x ≡ done a → f a ≡ done b → C) → C
past x f b h k = let w = bind_done x f b h in k w.0 w.1 w.2

-- what follows may differ where it is not reached
pub bind-agree : {E A B : Type 0} (x : Result E A) (f g : A → Result E B) → ((a : A) → x ≡ done a → f a ≡ g a) → (x >>= f) ≡ (x >>= g)
unfolding ◌>>=◌
bind-agree (refused e) f g h = refl
bind-agree (done a) f g h = h a refl

pub if-agree : {E A : Type 0} (e : E) (b : Bool) (x y : Result E A) → (b ≡ false → x ≡ y) → ((refuse e if b) >> x) ≡ ((refuse e if b) >> y)
unfolding ◌>>◌ refuse◌if◌
if-agree e true x y h = refl
if-agree e false x y h = h refl

pub or-agree : {E A B : Type 0} (o : Option A) (e : E) (f g : A → Result E B) → ((a : A) → o ≡ Some a → f a ≡ g a) → ((o or e) >>= f) ≡ ((o or e) >>= g)
unfolding ◌>>=◌ ◌or◌
or-agree None e f g h = refl
or-agree (Some a) e f g h = h a refl

-- ── Texts ──
pub bytes_eq : (a b : Bytes) → (a ≐ b) ≡ true → a ≡ b
unfolding ◌≐◌
bytes_eq [] [] h = refl
bytes_eq [] (y ∷ t) h = never (sym h)
bytes_eq (x ∷ s) [] h = never (sym h)
bytes_eq (x ∷ s) (y ∷ t) h = let w = and_both _ _ h in ap₂ ◌∷◌ (eqb-true x y w.0) (bytes_eq s t w.1)

pub bytes-refl : (a : Bytes) → (a ≐ a) ≡ true
unfolding ◌≐◌
bytes-refl [] = refl
bytes-refl (x ∷ s) = rw (eq-eqb x x refl) (bytes-refl s)

pub bytes-ne : (a b : Bytes) → (a ≐ b) ≡ false → a ≡ b → ⊥
bytes-ne a b h e = never (sym (bytes-refl b) ∙ rw e at h)

-- ── What holds of every element ──
module _ {A : Type 0} where
  pub all-imp : (P Q : A → Type 0) → ((x : A) → P x → Q x) → (xs : List A) → All P xs → All Q xs
  all-imp P Q f [] h = tt
  all-imp P Q f (x ∷ xs) h = (f x h.0, all-imp P Q f xs h.1)

  pub all-every : (P : A → Type 0) → ((x : A) → P x) → (xs : List A) → All P xs
  all-every P f [] = tt
  all-every P f (x ∷ xs) = (f x, all-every P f xs)

  pub all_append : (P : A → Type 0) (xs ys : List A) → All P xs → All P ys → All P (xs ++ ys)
  all_append P [] ys h k = k
  all_append P (x ∷ xs) ys h k = (h.0, all_append P xs ys h.1 k)

  pub all_take : (P : A → Type 0) (n : ℕ) (xs : List A) → All P xs → All P (take n xs)
  all_take P zero xs h = tt
  all_take P (suc n) [] h = tt
  all_take P (suc n) (x ∷ xs) h = (h.0, all_take P n xs h.1)

  pub all_set : (P : A → Type 0) (xs : List A) (i : ℕ) (x : A) → P x → All P xs → All P (set xs i x)
  all_set P [] i x p h = tt
  all_set P (y ∷ xs) zero x p h = (p, h.1)
  all_set P (y ∷ xs) (suc i) x p h = (h.0, all_set P xs i x p h.1)

  pub all_get_d : (P : A → Type 0) (xs : List A) (i : ℕ) (d : A) → P d → All P xs → P (get_or xs i d)
  all_get_d P [] i d p h = p
  all_get_d P (x ∷ xs) zero d p h = h.0
  all_get_d P (x ∷ xs) (suc i) d p h = all_get_d P xs i d p h.1

  pub all-elem : (P : A → Type 0) (xs : List A) (i : ℕ) (x : A) → slice_get xs i ≡ Some x → All P xs → P x
  all-elem P [] i x e h = none-some e
  all-elem P (y ∷ xs) zero x e h = let z : y ≡ x = cc in rw z at h.0
  all-elem P (y ∷ xs) (suc i) x e h = all-elem P xs i x e h.1

  pub all_replicate : (P : A → Type 0) (n : ℕ) (x : A) → P x → All P (replicate n x)
  all_replicate P zero x p = tt
  all_replicate P (suc n) x p = (p, all_replicate P n x p)

  pub all_keep : (P : A → Type 0) (f : A → Bool) (xs : List A) → All P xs → All P (keep f xs)
  unfolding keep
  all_keep P f [] h = tt
  all_keep P f (x ∷ xs) h = by_cases (f x) (λ e. rw e (h.0, all_keep P f xs h.1)) (λ e. rw e (all_keep P f xs h.1))

  pub all_true : (f : A → Bool) (xs : List A) → all f xs ≡ true → All (λ x. f x ≡ true) xs
  unfolding all
  all_true f [] h = tt
  all_true f (x ∷ xs) h = let w = and_both _ _ h in (w.0, all_true f xs w.1)

  pub true-all : (f : A → Bool) (xs : List A) → All (λ x. f x ≡ true) xs → all f xs ≡ true
  unfolding all
  true-all f [] h = refl
  true-all f (x ∷ xs) h = rw h.0 (true-all f xs h.1)

  -- ── Some element passes ──
  pub any_false : (f : A → Bool) (xs : List A) → any f xs ≡ false → All (λ x. f x ≡ false) xs
  unfolding any
  any_false f [] h = tt
  any_false f (x ∷ xs) h = let w = or-neither _ _ h in (w.0, any_false f xs w.1)

  pub false-any : (f : A → Bool) (xs : List A) → All (λ x. f x ≡ false) xs → any f xs ≡ false
  unfolding any
  false-any f [] h = refl
  false-any f (x ∷ xs) h = rw h.0 (false-any f xs h.1)

  -- one that passes, with what holds of every element
  pub any-true : (P : A → Type 0) (f : A → Bool) (xs : List A) → All P xs → any f xs ≡ true → (x : A) × (f x ≡ true) × P x
  unfolding any
  any-true P f [] h k = never (sym k)
  any-true P f (x ∷ xs) h k = by_cases (f x) (λ e. (x, e, h.0)) (λ e. any-true P f xs h.1 (rw e at k))

  pub any-mono : (f g : A → Bool) → ((x : A) → f x ≡ true → g x ≡ true) → (xs : List A) → any f xs ≡ true → any g xs ≡ true
  unfolding any
  any-mono f g w [] h = h
  any-mono f g w (x ∷ xs) h = by_cases (f x) (λ e. rw (w x e)) (λ e. or_right (g x) _ (any-mono f g w xs (rw e at h)))

  -- ── What is kept ──
  pub keep-yes : (f : A → Bool) (x : A) (xs : List A) → f x ≡ true → keep f (x ∷ xs) ≡ x ∷ keep f xs
  unfolding keep
  keep-yes f x xs e = rw e

  pub keep-no : (f : A → Bool) (x : A) (xs : List A) → f x ≡ false → keep f (x ∷ xs) ≡ keep f xs
  unfolding keep
  keep-no f x xs e = rw e

  pub keep_append : (f : A → Bool) (xs ys : List A) → keep f (xs ++ ys) ≡ keep f xs ++ keep f ys
  unfolding keep
  keep_append f [] ys = refl
  keep_append f (x ∷ xs) ys = by_cases (f x) (λ e. rw e (ap (x ∷◌) (keep_append f xs ys))) (λ e. rw e (keep_append f xs ys))

  -- two tests that agree on each element keep the same
  pub keep-agree : (f g : A → Bool) (xs : List A) → All (λ x. f x ≡ g x) xs → keep f xs ≡ keep g xs
  unfolding keep
  keep-agree f g [] h = refl
  keep-agree f g (x ∷ xs) h = rw (h.0, keep-agree f g xs h.1)

  -- what the narrower test keeps of what the wider one kept
  pub keep-within : (f g : A → Bool) → ((x : A) → g x ≡ true → f x ≡ true) → (xs : List A) → keep g (keep f xs) ≡ keep g xs
  keep-within f g w [] = unfold keep in refl
  keep-within f g w (x ∷ xs) = by_cases (g x)
      (λ e. let k = w x e in simp (keep-yes, keep-within f g w xs))
      (λ e. by_cases (f x) (λ k. simp (keep-yes, keep-no, keep-within f g w xs)) (λ k. simp (keep-no, keep-within f g w xs)))

pub keep-map : {A B : Type 0} (f : B → Bool) (g : A → B) (xs : List A) → keep f (map g xs) ≡ map g (keep (λ x. f (g x)) xs)
unfolding keep
keep-map f g [] = refl
keep-map f g (x ∷ xs) = by_cases (f (g x)) (λ e. rw e (ap (g x ∷◌) (keep-map f g xs))) (λ e. rw e (keep-map f g xs))

pub all_map : {A B : Type 0} (P : B → Type 0) (f : A → B) (xs : List A) → All (λ x. P (f x)) xs → All P (map f xs)
all_map P f [] h = tt
all_map P f (x ∷ xs) h = (h.0, all_map P f xs h.1)

pub map-agree : {A B : Type 0} (f g : A → B) (xs : List A) → All (λ x. f x ≡ g x) xs → map f xs ≡ map g xs
map-agree f g [] h = refl
map-agree f g (x ∷ xs) h = ap₂ ◌∷◌ h.0 (map-agree f g xs h.1)

pub keep-keep : {A : Type 0} (f g : A → Bool) (xs : List A) → keep f (keep g xs) ≡ keep (λ x. g x && f x) xs
unfolding keep
keep-keep f g [] = refl
keep-keep f g (x ∷ xs) = by_cases (g x)
    (λ e. rw e (by_cases (f x) (λ k. rw k (ap (x ∷◌) (keep-keep f g xs))) (λ k. rw k (keep-keep f g xs))))
    (λ e. rw e (keep-keep f g xs))

pub all-kept : {A : Type 0} (f : A → Bool) (xs : List A) → All (λ x. f x ≡ true) (keep f xs)
unfolding keep
all-kept f [] = tt
all-kept f (x ∷ xs) = by_cases (f x) (λ e. rw e (e, all-kept f xs)) (λ e. rw e (all-kept f xs))

pub length-keep-le : {A : Type 0} (f : A → Bool) (xs : List A) → length (keep f xs) ≤ length xs
unfolding keep
length-keep-le f [] = omega arith
length-keep-le f (x ∷ xs) = by_cases (f x) (λ e. rw e (omega (arith, length-keep-le f xs))) (λ e. rw e (omega (arith, length-keep-le f xs)))

pub keep-none : {A : Type 0} (f : A → Bool) (xs : List A) → All (λ x. f x ≡ false) xs → keep f xs ≡ []
unfolding keep
keep-none f [] h = refl
keep-none f (x ∷ xs) h = rw h.0 (keep-none f xs h.1)

-- ── Places ──
pub elem_at : {A : Type 0} (xs : List A) (i : ℕ) → i < length xs → (x : A) × (slice_get xs i ≡ Some x)
elem_at [] i h = absurd (omega arith)
elem_at (x ∷ xs) zero h = (x, refl)
elem_at (x ∷ xs) (suc i) h = elem_at xs i (omega arith)

pub elem_below : {A : Type 0} (xs : List A) (i : ℕ) (x : A) → slice_get xs i ≡ Some x → i < length xs
elem_below [] i x e = none-some e
elem_below (y ∷ xs) zero x e = omega arith
elem_below (y ∷ xs) (suc i) x e = omega (arith, elem_below xs i x e)

-- ── Joining ──
pub joined-append : {A : Type 0} (xs ys : List (List A)) → joined (xs ++ ys) ≡ joined xs ++ joined ys
unfolding joined
joined-append [] ys = refl
joined-append (x ∷ xs) ys = rw (joined-append xs ys) (sym (mathlib.Core.List.append_assoc x (joined xs) (joined ys)))

-- ── Ranges ──
pub all-range : (P : ℕ → Type 0) (i n : ℕ) → ((j : ℕ) → i ≤ j → j < i + n → P j) → All P (range i n)
unfolding range
all-range P i zero h = tt
all-range P i (suc n) h = (h i (omega arith) (omega arith), all-range P (suc i) n (λ j p q. h j (omega arith) (omega arith)))

pub any-range : (f : ℕ → Bool) (i n j : ℕ) → i ≤ j → j < i + n → f j ≡ true → any f (range i n) ≡ true
unfolding range any
any-range f i zero j p q h = absurd (omega arith)
any-range f i (suc n) j p q h = by_cases (eqb i j)
    (λ e. rw (eqb-true i j e, h))
    (λ e. or_right (f i) _ (any-range f (suc i) n j (omega (arith, borrow.Author.Tests.eqb-false i j e)) (omega arith) h))
