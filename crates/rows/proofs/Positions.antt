-- Positions in a text: the rest at a position, where a run ends, and what a reader reads.
use Prim.Native.Nat.{ℕ, zero, suc, ◌+◌, ◌-◌, ◌≤◌, ◌<◌}
use mathlib.Core.Path.{◌≡◌, refl, ap, ap₂, ◌∙◌}
use mathlib.Core.Bool.{Bool, true, false, not}
use Rattle.std.specs.Prelude.{Option, None, Some}
use mathlib.Core.List.{List, [], ◌∷◌}
use native.Mathlib.Numerals.{add-one}
use native.Mathlib.Omega.{arith}
use lib.ListN.{length, get_or, take, drop, length-drop, drop_of_length-le}
use Rattle.std.specs.Prelude.{slice_get}
use lib.Seq.{drop-cons, drop-drop}
use Rattle.rows.specs.Rows.{up_to}
use Rattle.rows.specs.Positions.{Reader, Reads, behind, placed, LeavesEnd, run, run_end}
use Rattle.rows.proofs.Rows.{up_to-prefix, length-up_to}

module _ {ℓ} {A : Type ℓ} where
  -- within the text the rest has a first element; from its end on nothing is left
  pub here : (z : A) (s : List A) (i : ℕ) → i < length s → drop i s ≡ get_or s i z ∷ drop (i + 1) s
  here z s i h = rw (add-one, drop-cons s i z)

  pub over : (s : List A) (i : ℕ) → length s ≤ i → drop i s ≡ []
  over s i h = drop_of_length-le s h

  -- the rest at a later position, and what stands between
  pub rest_from : (s : List A) (at e : ℕ) → at ≤ e → drop (e - at) (drop at s) ≡ drop e s
  rest_from s at e h = let q : at + (e - at) ≡ e = omega arith in rw (drop-drop, q)

-- the element at a position is the first of the rest there
pub elem-left : {A : Type 0} (s : List A) (i : ℕ) → slice_get s i ≡ slice_get (drop i s) 0
elem-left [] zero = refl
elem-left [] (suc i) = refl
elem-left (x ∷ s) zero = refl
elem-left (x ∷ s) (suc i) = elem-left s i

module _ {E : Type 0} (ok : E → Bool) (s : List E) where
  -- a loop that goes on while elements pass: an element that does, one that does not, and the end of the text
  pub run_step : (z : E) (i : ℕ) → i < length s → ok (get_or s i z) ≡ true → run_end ok s i ≡ run_end ok s (i + 1)
  unfolding run_end up_to
  run_step z i h e = rw (here z s i h, e) (omega arith)

  pub run-stop : (z : E) (i : ℕ) → i < length s → ok (get_or s i z) ≡ false → run_end ok s i ≡ i
  unfolding run_end up_to
  run-stop z i h e = rw (here z s i h, e) (omega arith)

  pub run-over : (i : ℕ) → length s ≤ i → run_end ok s i ≡ i
  unfolding run_end up_to
  run-over i h = rw (over s i h) (omega arith)

  -- where the run ends says what it is
  module _ (at e : ℕ) (is : e ≡ run_end ok s at) where
    pub run-within : at ≤ length s → (at ≤ e) × (e ≤ length s)
    unfolding run_end
    run-within h = omega (arith, length-up_to (λ x. not (ok x)) (drop at s), length-drop at s)

    pub run-part : run ok (drop at s) ≡ take (e - at) (drop at s)
    unfolding run_end
    run-part =
        let n : length (run ok (drop at s)) ≡ e - at = omega arith in
        up_to-prefix (λ x. not (ok x)) (drop at s) ∙ ap (λ (k : ℕ). take k (drop at s)) n

    pub run-rest : drop (length (run ok (drop at s))) (drop at s) ≡ drop e s
    unfolding run_end
    run-rest =
        let n : length (run ok (drop at s)) ≡ e - at = omega arith in
        rw n (rest_from s at e (omega arith))

-- ── Readers by positions ──
position : {A : Type 0} (a b : A) (m n : ℕ) → ◌≡◌ {A = Option (A × ℕ)} (Some (a, m)) (Some (b, n)) → (a ≡ b) × (m ≡ n)
position {A} a b m n h =
    let p : ◌≡◌ {A = A × ℕ} (a, m) (b, n) = cc in
    (ap (λ (t : A × ℕ). t.0) p, ap (λ (t : A × ℕ). t.1) p)

module _ {E A : Type 0} (f : Reader E A) (s : List E) (at : ℕ) where
  pub placed-reads : (a : A) (e : ℕ) → Reads f s at a e → placed f s at ≡ Some (a, e)
  unfolding placed behind
  placed-reads a e r = let n : length s - length (drop e s) ≡ e = omega (arith, length-drop e s, r.to) in rw (r.is, n)

  pub placed-none : f (drop at s) ≡ None → placed f s at ≡ None
  unfolding placed behind
  placed-none h = rw h

  pub none-placed : placed f s at ≡ None → f (drop at s) ≡ None
  unfolding placed behind
  none-placed h = go (f (drop at s)) refl h
    where
      go : (o : Option (A × List E)) → f (drop at s) ≡ o → behind s o ≡ None → f (drop at s) ≡ None
      go None e h = e
      go (Some t) e h = let z : ◌≡◌ {A = ℕ} 0 1 = unfold behind in cc in absurd (omega arith)

  -- a position that is answered is where the reader ends
  pub reads-placed : LeavesEnd f → at ≤ length s → (a : A) (e : ℕ) → placed f s at ≡ Some (a, e) → Reads f s at a e
  unfolding placed
  reads-placed leaves h a e p = go (f (drop at s)) refl p
    where
      go : (o : Option (A × List E)) → f (drop at s) ≡ o → behind s o ≡ Some (a, e) → Reads f s at a e
      go None i p = let z : ◌≡◌ {A = ℕ} 0 1 = unfold behind in cc in absurd (omega arith)
      go (Some t) i p =
          let w = leaves (drop at s) t i in
          let r : t.1 ≡ drop (at + w.0) s = w.2 ∙ drop-drop w.0 at s in
          let to : at + w.0 ≤ length s = omega (arith, w.1, length-drop at s) in
          let same = position t.0 a (length s - length t.1) e (unfold behind in p) in
          let x : at + w.0 ≡ e = omega (arith, ap length r, length-drop (at + w.0) s, same.1) in
          record { from = omega arith; to = omega arith; is = i ∙ ap₂ (λ (y : A) (z : List E). Some (y, z)) same.0 (r ∙ ap (λ (n : ℕ). drop n s) x) }
