-- Laws of the readers: what they make of a text that was written for them, and what a text was that they read.
use Prim.Native.Nat.{ℕ, zero, suc, ◌+◌, ◌-◌, ◌*◌, ◌/◌, ◌%◌, ◌^◌, ◌≤◌, ◌<◌}
use mathlib.Core.Path.{◌≡◌, refl, sym, ap, ap₂, ◌∙◌}
use Rattle.std.specs.Prelude.{Option, None, Some}
use mathlib.Core.List.{List, [], ◌∷◌, ◌++◌, append_assoc, append-nil}
use mathlib.Core.Bool.{Bool, true, false, not}
use lib.Dec.{ltb, eqb}
use lib.ListN.{length, length-append}
use native.Mathlib.Omega.{arith}
use native.Mathlib.Nat.{pow-suc}
use borrow.Author.Tests.{eq-eqb, ne_eqb, eqb-true, leb-true, le-leb, ltb-true, ltb-false, lt-ltb, le-ltb}
use Rattle.model.specs.Base.{Bytes, all, ◌>>=◌, ◌>>◌, ◌<|>◌, check, after, if_after, in_front, span, cut}
use Rattle.model.specs.Base.{within, is_digit, worth, is_decimal, digits, decimal}
use Rattle.model.proofs.Lists.{by_cases, never, and_both, none-some}

-- ── Numbers between two bounds ──
pub within-yes : (a b x : ℕ) → a ≤ x → x ≤ b → within a b x ≡ true
unfolding within
within-yes a b x h k = rw (le-leb a x h) (le-leb x b k)

pub within-bounds : (a b x : ℕ) → within a b x ≡ true → (a ≤ x) × (x ≤ b)
unfolding within
within-bounds a b x h = let w = and_both _ _ h in (leb-true _ _ w.0, leb-true _ _ w.1)

-- ── One more element that passes ──
pub all_snoc : {A : Type 0} (p : A → Bool) (a : List A) (x : A) → all p a ≡ true → p x ≡ true → all p (a ++ x ∷ []) ≡ true
unfolding all
all_snoc p [] x h k = rw k
all_snoc p (y ∷ a) x h k = let w = and_both (p y) (all p a) h in rw w.0 (all_snoc p a x w.1 k)

-- ── What was read, from what a reader made of it ──
pub some_same : {A : Type 0} {a b : A} → Some a ≡ Some b → a ≡ b
some_same h = cc

pub bind-some : {A B C : Type 0} (o : Option A) (f : A → Option B) (b : B) →
    (o >>= f) ≡ Some b → ((a : A) → o ≡ Some a → f a ≡ Some b → C) → C
unfolding ◌>>=◌
bind-some None f b h k = none-some h
bind-some (Some a) f b h k = k a refl h

pub check-some : {A C : Type 0} (t : Bool) (x : Option A) (a : A) → (check t >> x) ≡ Some a → (t ≡ true → x ≡ Some a → C) → C
unfolding check ◌>>◌
check-some true x a h k = k refl h
check-some false x a h k = none-some h

-- of several, the last one's case comes first
pub after-cases : {A C : Type 0} (o : Option Bytes) (f : Bytes → Option A) (y : Option A) (a : A) → if_after o f y ≡ Some a →
    (o ≡ None → y ≡ Some a → C) → ((r : Bytes) → o ≡ Some r → f r ≡ Some a → C) → C
unfolding if_after
after-cases None f y a h g k = g refl h
after-cases (Some r) f y a h g k = k r refl h

pub either-some : {A C : Type 0} (o x : Option A) (a : A) → (o <|> x) ≡ Some a → (x ≡ Some a → C) → (o ≡ Some a → C) → C
unfolding ◌<|>◌
either-some None x a h f g = f h
either-some (Some b) x a h f g = g h

-- ── Scanning ──
-- a text that does not begin with a byte that passes
abbrev pub Stops : (ℕ → Bool) → Bytes → Type 0
Stops p [] = Unit {0}
Stops p (x ∷ s) = p x ≡ false

module _ (p : ℕ → Bool) where
  pub span-all : (a r : Bytes) → all p a ≡ true → Stops p r → span p (a ++ r) ≡ (a, r)
  unfolding span all in_front
  span-all [] [] h k = refl
  span-all [] (x ∷ r) h k = rw k
  span-all (x ∷ a) r h k = let w = and_both (p x) (all p a) h in rw (w.0, span-all a r w.1 k)

  pub span-passes : (s : Bytes) → all p (span p s).0 ≡ true
  unfolding span all in_front
  span-passes [] = refl
  span-passes (x ∷ s) = by_cases (p x) (λ e. rw e (rw e (span-passes s))) (λ e. rw e)

  pub span-stops : (s : Bytes) → Stops p (span p s).1
  unfolding span in_front
  span-stops [] = tt
  span-stops (x ∷ s) = by_cases (p x) (λ e. rw e (span-stops s)) (λ e. rw e e)

  pub span-joins : (s : Bytes) → (span p s).0 ++ (span p s).1 ≡ s
  unfolding span in_front
  span-joins [] = refl
  span-joins (x ∷ s) = by_cases (p x) (λ e. rw e (ap (x ∷◌) (span-joins s))) (λ e. rw e)

-- ── A given beginning ──
pub after_same : (w r : Bytes) → after w (w ++ r) ≡ Some r
unfolding after
after_same [] r = refl
after_same (x ∷ w) r = rw (eq-eqb x x refl) (after_same w r)

pub after-other : (x y : ℕ) (w s : Bytes) → (x ≡ y → ⊥) → after (x ∷ w) (y ∷ s) ≡ None
unfolding after
after-other x y w s h = rw (ne_eqb x y h)

pub after-some : (w s r : Bytes) → after w s ≡ Some r → s ≡ w ++ r
unfolding after
after-some [] s r h = some_same h
after-some (x ∷ w) [] r h = none-some h
after-some (x ∷ w) (y ∷ s) r h = by_cases (eqb x y)
    (λ e. ap₂ ◌∷◌ (sym (eqb-true x y e)) (after-some w s r (rw e at h)))
    (λ e. none-some (rw e at h))

-- a beginning behind what was scanned
pub after-span : (p : ℕ → Bool) (w s r : Bytes) → after w (span p s).1 ≡ Some r → s ≡ (span p s).0 ++ (w ++ r)
after-span p w s r h = sym (span-joins p s) ∙ ap ((span p s).0 ++◌) (after-some w _ r h)

-- ── Before and behind the first byte c ──
pub cut_at : (c : ℕ) (a r : Bytes) → all (λ x. not (eqb x c)) a ≡ true → cut c (a ++ c ∷ r) ≡ Some (a, r)
unfolding cut all ◌>>=◌ in_front
cut_at c [] r h = rw (eq-eqb c c refl)
cut_at c (x ∷ a) r h =
    let w = and_both (not (eqb x c)) _ h in
    by_cases (eqb x c) (λ e. never (sym w.0 ∙ ap not e)) (λ e. rw (e, cut_at c a r w.1))

pub cut-some : (c : ℕ) (s : Bytes) (q : Bytes × Bytes) → cut c s ≡ Some q →
    (s ≡ q.0 ++ c ∷ q.1) × (all (λ x. not (eqb x c)) q.0 ≡ true)
unfolding cut all in_front
cut-some c [] q h = none-some h
cut-some c (x ∷ s) q h = by_cases (eqb x c)
    (λ e. rw (← some_same (rw e at h)) (ap (◌∷ s) (eqb-true x c e), refl))
    (λ e. bind-some _ _ _ (rw e at h) λ p u v. let t = cut-some c s p u in rw (← some_same v, e) (ap (x ∷◌) t.0, t.1))

-- ── Decimals ──
pub digit-bounds : (d : ℕ) → is_digit d ≡ true → (48 ≤ d) × (d ≤ 57)
unfolding is_digit
digit-bounds d h = within-bounds 48 57 d h

is_digit_lem : (n : ℕ) → n < 10 → is_digit (48 + n) ≡ true
unfolding is_digit
is_digit_lem n h = within-yes 48 57 (48 + n) (omega arith) (omega arith)

-- a number has one digit, or those of its tenth part and one more
by_digits : {A : Type 0} (n : ℕ) → (n < 10 → A) → (10 ≤ n → A) → A
by_digits n f g = by_cases (ltb n 10) (λ e. f (ltb-true n 10 e)) (λ e. g (ltb-false n 10 e))

digits-one : (k n : ℕ) → n < 10 → digits (suc k) n ≡ (48 + n) ∷ []
unfolding digits
digits-one k n h = rw (lt-ltb n 10 h)

digits_more : (k n : ℕ) → 10 ≤ n → digits (suc k) n ≡ digits k (n / 10) ++ (48 + n % 10) ∷ []
unfolding digits
digits_more k n h = rw (le-ltb n 10 h)

-- any bound that is enough gives the same digits
digits-enough : (k l n : ℕ) → n < k → n < l → digits k n ≡ digits l n
digits-enough zero l n h i = absurd (omega arith)
digits-enough (suc k) zero n h i = absurd (omega arith)
digits-enough (suc k) (suc l) n h i = by_digits n
    (λ e. rw (digits-one k n e, digits-one l n e))
    (λ e. rw (digits_more k n e, digits_more l n e, digits-enough k l (n / 10) (omega arith) (omega arith)))

pub decimal-one : (n : ℕ) → n < 10 → decimal n ≡ (48 + n) ∷ []
unfolding decimal
decimal-one n h = digits-one n n h

pub decimal-more : (n : ℕ) → 10 ≤ n → decimal n ≡ decimal (n / 10) ++ (48 + n % 10) ∷ []
unfolding decimal
decimal-more n h = rw (digits_more n n h, digits-enough n (suc (n / 10)) (n / 10) (omega arith) (omega arith))

-- induction by a number's digits
by-decimal : (P : ℕ → Type 0) → ((n : ℕ) → n < 10 → P n) → ((n : ℕ) → 10 ≤ n → P (n / 10) → P n) → (n : ℕ) → P n
by-decimal P f g n = go (suc n) n (omega arith)
  where
    go : (k n : ℕ) → n < k → P n
    go zero n h = absurd (omega arith)
    go (suc k) n h = by_digits n (f n) (λ e. g n e (go k (n / 10) (omega arith)))

pub decimal-digits : (n : ℕ) → all is_digit (decimal n) ≡ true
decimal-digits = by-decimal (λ n. all is_digit (decimal n) ≡ true)
    (λ n h. rw (decimal-one n h) (all_snoc is_digit [] (48 + n) (unfold all in refl) (is_digit_lem n h)))
    (λ n h i. rw (decimal-more n h) (all_snoc is_digit _ _ i (is_digit_lem (n % 10) (omega arith))))

worth-snoc : (m : ℕ) (a : Bytes) (x : ℕ) → worth m (a ++ x ∷ []) ≡ worth m a * 10 + (x - 48)
unfolding worth
worth-snoc m [] x = refl
worth-snoc m (y ∷ a) x = worth-snoc (m * 10 + (y - 48)) a x

pub worth-decimal : (n : ℕ) → worth 0 (decimal n) ≡ n
worth-decimal = by-decimal (λ n. worth 0 (decimal n) ≡ n)
    (λ n h. rw (decimal-one n h) (unfold worth in omega arith))
    (λ n h i. rw (decimal-more n h, worth-snoc 0 (decimal (n / 10)) (48 + n % 10), i) (omega arith))

-- a number below a power of ten has no more digits than that
pub decimal-length : (n d : ℕ) → n < 10 ^ suc d → length (decimal n) ≤ suc d
decimal-length = by-decimal (λ n. (d : ℕ) → n < 10 ^ suc d → length (decimal n) ≤ suc d)
    (λ n h d l. rw (decimal-one n h) (omega arith))
    (λ n h i. elim [
      | zero ↦ λ l. absurd (omega arith)
      | suc d ↦ λ l.
          let t = i d (omega (arith, pow-suc 10 (suc d))) in
          rw (decimal-more n h, length-append (decimal (n / 10)) _) (omega arith)
    ])

-- the first digit is no zero
leads : Bytes → Bool
leads [] = false
leads (d ∷ ds) = within 49 57 d

leads-snoc : (a : Bytes) (x : ℕ) → leads a ≡ true → leads (a ++ x ∷ []) ≡ true
unfolding leads
leads-snoc [] x h = never (sym h)
leads-snoc (d ∷ ds) x h = h

decimal-leads : (n : ℕ) → 0 < n → leads (decimal n) ≡ true
decimal-leads = by-decimal (λ n. 0 < n → leads (decimal n) ≡ true)
    (λ n h p. rw (decimal-one n h) (unfold leads in within-yes 49 57 (48 + n) (omega arith) (omega arith)))
    (λ n h i p. rw (decimal-more n h) (leads-snoc _ _ (i (omega arith))))

leads-decimal : (a : Bytes) → all is_digit a ≡ true → leads a ≡ true → is_decimal a ≡ true
unfolding is_decimal leads all
leads-decimal [] h k = k
leads-decimal (d ∷ []) h k = (and_both (is_digit d) true h).0
leads-decimal (d ∷ e ∷ ds) h k = rw k (and_both (is_digit d) _ h).1

pub decimal-is : (n : ℕ) → is_decimal (decimal n) ≡ true
decimal-is n = by_cases (ltb 0 n)
    (λ e. leads-decimal _ (decimal-digits n) (decimal-leads n (ltb-true 0 n e)))
    (λ e. let z : n ≡ 0 = omega (arith, ltb-false 0 n e) in rw z (unfold decimal digits is_decimal is_digit within in refl))

-- a digit behind those of a number that is no zero
decimal-next : (m d : ℕ) → 0 < m → is_digit d ≡ true → decimal (m * 10 + (d - 48)) ≡ decimal m ++ d ∷ []
decimal-next m d h k =
    let w = digit-bounds d k in
    let a : (m * 10 + (d - 48)) / 10 ≡ m = omega arith in
    let b : 48 + (m * 10 + (d - 48)) % 10 ≡ d = omega arith in
    rw (decimal-more (m * 10 + (d - 48)) (omega arith), a, b)

decimal-behind : (m : ℕ) (a : Bytes) → 0 < m → all is_digit a ≡ true → decimal (worth m a) ≡ decimal m ++ a
unfolding worth all
decimal-behind m [] h k = sym (append-nil (decimal m))
decimal-behind m (d ∷ a) h k =
    let w = and_both (is_digit d) _ k in
    decimal-behind (m * 10 + (d - 48)) a (omega arith) w.1 ∙ rw (decimal-next m d h w.0) (append_assoc (decimal m) (d ∷ []) a)

-- a decimal is the one spelling of the number that it spells
pub decimal-worth : (a : Bytes) → is_decimal a ≡ true → decimal (worth 0 a) ≡ a
unfolding is_decimal worth
decimal-worth [] h = never (sym h)
decimal-worth (d ∷ []) h =
    let w = digit-bounds d h in
    rw (decimal-one (0 + (d - 48)) (omega arith)) (ap (◌∷ []) (omega arith))
decimal-worth (d ∷ e ∷ a) h =
    let t = and_both (within 49 57 d) _ h in
    let w = within-bounds 49 57 d t.0 in
    decimal-behind (0 + (d - 48)) (e ∷ a) (omega arith) t.1 ∙ rw (decimal-one (0 + (d - 48)) (omega arith)) (ap (◌∷ e ∷ a) (omega arith))
