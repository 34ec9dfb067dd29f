-- The model's scan, by positions.
use Prim.Native.Nat.{ℕ, ◌+◌, ◌-◌, ◌≤◌, ◌<◌}
use mathlib.Core.Path.{◌≡◌, refl, sym, ap₂, ◌∙◌}
use mathlib.Core.Bool.{Bool, true, false}
use Rattle.std.specs.Prelude.{Option, None, Some}
use mathlib.Core.List.{[], ◌∷◌, ◌++◌}
use native.Mathlib.Omega.{arith}
use lib.Dec.{leb, ltb, eqb, eqb-zero-suc, eqb-suc-suc}
use lib.ListN.{length, get_or, take, drop, length-append}
use lib.Seq.{drop_at}
use borrow.Author.Tests.{eq-eqb, ne_eqb, eqb-true, eqb-false, ltb-true, ltb-false, lt-leb}
use Rattle.rows.specs.Rows.{up_to}
use Rattle.rows.specs.Positions.{run, run_end}
use Rattle.rows.proofs.Positions.{here, over, run-part, run-rest}
use Rattle.model.specs.Base.{Bytes, all, is_some, ◌>>=◌, ◌>>◌, check, after, span, in_front, within}
use Rattle.model.proofs.Lists.{by_cases, never}
use Rattle.lexical.specs.Classes.{is_not}

-- ── Numbers outside of two bounds ──
pub within-below : (a b x : ℕ) → x < a → within a b x ≡ false
unfolding within
within-below a b x h = rw (lt-leb a x h)

pub within-above : (a b x : ℕ) → b < x → within a b x ≡ false
unfolding within
within-above a b x h = rw (lt-leb x b h) (by_cases (leb a x) (λ e. rw e) (λ e. rw e))

-- ── A byte that is told apart ──
pub is-it : (b x : ℕ) → x ≡ b → is_not b x ≡ false
unfolding is_not
is-it b x h = rw (eq-eqb x b h)

pub is-other : (b x : ℕ) → (x ≡ b → ⊥) → is_not b x ≡ true
unfolding is_not
is-other b x h = rw (ne_eqb x b h)

-- ── Scanning ──
module _ (p : ℕ → Bool) where
  pub span_run : (s : Bytes) → span p s ≡ (run p s, drop (length (run p s)) s)
  unfolding span in_front up_to
  span_run [] = refl
  span_run (x ∷ s) = by_cases (p x) (λ e. rw (e, span_run s)) (λ e. rw e)

  -- the scan of the rest, where the run from there ends at e
  pub span-at : (s : Bytes) (at e : ℕ) → e ≡ run_end p s at → span p (drop at s) ≡ (take (e - at) (drop at s), drop e s)
  span-at s at e is =
      span_run (drop at s) ∙ ap₂ (λ (a r : Bytes). (a, r)) (run-part p s at e is) (run-rest p s at e is)

  all-run : (s : Bytes) → all p s ≡ eqb (length (run p s)) (length s)
  unfolding all up_to
  all-run [] = refl
  all-run (x ∷ s) = by_cases (p x) (λ e. rw (e, eqb-suc-suc) (all-run s)) (λ e. rw (e, eqb-zero-suc))

  -- all bytes pass where the run from the start ends at the end
  pub all-ends : (s : Bytes) (e : ℕ) → e ≡ run_end p s 0 → eqb e (length s) ≡ all p s
  unfolding run_end
  all-ends s e is = let n : e ≡ length (run p s) = omega arith in rw n (sym (all-run s))

-- ── One given byte at a position ──
module _ (q : ℕ) (s : Bytes) (at : ℕ) where
  pub after-here : at < length s → get_or s at 0 ≡ q → after (q ∷ []) (drop at s) ≡ Some (drop (at + 1) s)
  unfolding after
  after-here h e = rw (here 0 s at h, eq-eqb q (get_or s at 0) (sym e))

  pub after-not : at < length s → (get_or s at 0 ≡ q → ⊥) → after (q ∷ []) (drop at s) ≡ None
  unfolding after
  after-not h f = rw (here 0 s at h, ne_eqb q (get_or s at 0) (λ e. f (sym e)))

  pub after-over : length s ≤ at → after (q ∷ []) (drop at s) ≡ None
  unfolding after
  after-over h = rw (over s at h)

  -- whether it stands there: not at the end, elsewhere by the byte itself
  pub byte-over : length s ≤ at → is_some (after (q ∷ []) (drop at s)) ≡ false
  unfolding is_some
  byte-over h = rw (after-over h)

  pub byte-test : at < length s → is_some (after (q ∷ []) (drop at s)) ≡ eqb (get_or s at 0) q
  unfolding is_some
  byte-test h = by_cases (eqb (get_or s at 0) q)
      (λ e. rw (after-here h (eqb-true (get_or s at 0) q e), e))
      (λ e. rw (after-not h (eqb-false (get_or s at 0) q e), e))

  -- what is left behind it
  pub byte-stands : is_some (after (q ∷ []) (drop at s)) ≡ true → (at + 1 ≤ length s) × (after (q ∷ []) (drop at s) ≡ Some (drop (at + 1) s))
  byte-stands o = by_cases (ltb at (length s))
      (λ e. let h = ltb-true at (length s) e in (omega arith, after-here h (eqb-true (get_or s at 0) q (sym (byte-test h) ∙ o))))
      (λ e. never (sym o ∙ byte-over (ltb-false at (length s) e)))

-- ── Readers ──
-- what a reader read, and the rest behind it
pub rest_of : (s a r : Bytes) → s ≡ a ++ r → (n : ℕ) × (n ≤ length s) × (r ≡ drop n s)
rest_of s a r e = rw e (length a, rw length-append (omega arith), sym (drop_at a r (length a) refl))

-- two readers behind the same one
pub bind-same : {A B : Type 0} (o : Option A) (f g : A → Option B) → ((a : A) → f a ≡ g a) → (o >>= f) ≡ (o >>= g)
unfolding ◌>>=◌
bind-same None f g h = refl
bind-same (Some a) f g h = h a

pub bind-bind : {A B C : Type 0} (o : Option A) (f : A → Option B) (g : B → Option C) → ((o >>= f) >>= g) ≡ (o >>= λ a. f a >>= g)
unfolding ◌>>=◌
bind-bind None f g = refl
bind-bind (Some a) f g = refl

pub check_bind : {A B : Type 0} (b : Bool) (o : Option A) (f : A → Option B) → ((check b >> o) >>= f) ≡ (check b >> (o >>= f))
unfolding check ◌>>◌ ◌>>=◌
check_bind true o f = refl
check_bind false o f = refl

pub check-none : {A : Type 0} (b : Bool) → ◌≡◌ {A = Option A} (check b >> None) None
unfolding check ◌>>◌
check-none true = refl
check-none false = refl
