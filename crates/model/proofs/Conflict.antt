-- Why no accepted push makes one path the beginning of another: a path that a WRITE line matches conflicts with nothing that the line does not conflict with.
use mathlib.Core.Path.{◌≡◌, refl, sym, ap, ◌∙◌}
use mathlib.Core.List.{List, [], ◌∷◌}
use mathlib.Core.Bool.{true, false, and-false, or_comm}
use Rattle.model.specs.Base.{Bytes, any, among, ◌≐◌}
use Rattle.model.specs.Fields.{Keys}
use Rattle.model.specs.Paths.{Step, names, wildcard, environment, Steps, as_steps}
use Rattle.model.specs.Tables.{Binding}
use Rattle.model.specs.Rights.{admits, matches, overlap, is_above, conflict}
use Rattle.model.proofs.Lists.{by_cases, never, and_both, or_right, or_left, bytes_eq, bytes-refl}

-- ── Lists that share a name, in either order ──
-- a name of both lists
record Shared (a b : List Bytes) : Type 0 where
  name : Bytes
  in_first : among name a ≡ true
  in_second : among name b ≡ true

among-here : (n m : Bytes) (a : List Bytes) → (n ≐ m) ≡ true → among n (m ∷ a) ≡ true
unfolding among any
among-here n m a h = rw h

among_there : (n m : Bytes) (a : List Bytes) → among n a ≡ true → among n (m ∷ a) ≡ true
unfolding among any
among_there n m a h = or_right (n ≐ m) _ h

shared : (a b : List Bytes) → any (λ n. among n b) a ≡ true → Shared a b
unfolding any
shared [] b h = never (sym h)
shared (n ∷ a) b h = by_cases (among n b)
    (λ e. record { name = n; in_first = among-here n n a (bytes-refl n); in_second = e })
    (λ e. let w = shared a b (rw e at h) in record { name = w.name; in_first = among_there w.name n a w.in_first; in_second = w.in_second })

share : (a b : List Bytes) (n : Bytes) → among n a ≡ true → among n b ≡ true → any (λ m. among m b) a ≡ true
unfolding among any
share [] b n h k = never (sym h)
share (m ∷ a) b n h k = by_cases (n ≐ m)
    (λ e. or_left (among m b) _ (ap (λ (x : Bytes). among x b) (sym (bytes_eq n m e)) ∙ k))
    (λ e. or_right (among m b) _ (share a b n (rw e at h) k))

-- ── A step that admits a key overlaps whatever overlaps the key ──
among_one : (n k : Bytes) → among n (k ∷ []) ≡ true → n ≡ k
unfolding among any
among_one n k h = by_cases (n ≐ k) (λ e. bytes_eq n k e) (λ e. never (sym (rw e at h)))

overlap-right : (u : List Binding) (s t : Step) (k : Bytes) → admits u t k ≡ true → overlap s (names (k ∷ [])) ≡ true → overlap s t ≡ true
unfolding overlap admits
overlap-right u (names a) (names b) k h o = let w = shared a (k ∷ []) o in share a b w.name w.in_first (ap (λ (x : Bytes). among x b) (among_one _ k w.in_second) ∙ h)
overlap-right u (names a) wildcard k h o = refl
overlap-right u (names a) (environment e n) k h o = refl
overlap-right u wildcard t k h o = refl
overlap-right u (environment e n) t k h o = refl

overlap-left : (u : List Binding) (s t : Step) (k : Bytes) → admits u t k ≡ true → overlap (names (k ∷ [])) s ≡ true → overlap t s ≡ true
unfolding overlap admits
overlap-left u (names a) (names b) k h o = let w = shared (k ∷ []) a o in share b a w.name (ap (λ (x : Bytes). among x b) (among_one _ k w.in_first) ∙ h) w.in_second
overlap-left u (names a) wildcard k h o = refl
overlap-left u (names a) (environment e n) k h o = refl
overlap-left u wildcard (names b) k h o = refl
overlap-left u wildcard wildcard k h o = refl
overlap-left u wildcard (environment e n) k h o = refl
overlap-left u (environment e n) (names b) k h o = refl
overlap-left u (environment e n) wildcard k h o = refl
overlap-left u (environment e n) (environment f m) k h o = refl

-- ── The same of whole paths ──
above-right : (u : List Binding) (q ts : Steps) (p : Keys) → matches u ts p ≡ true → is_above q (as_steps p) ≡ true → is_above q ts ≡ true
unfolding matches is_above as_steps
above-right u [] [] [] m h = h
above-right u [] [] (k ∷ p) m h = never (sym m)
above-right u [] (t ∷ ts) p m h = refl
above-right u (s ∷ q) [] [] m h = h
above-right u (s ∷ q) [] (k ∷ p) m h = never (sym m)
above-right u (s ∷ q) (t ∷ ts) [] m h = never (sym m)
above-right u (s ∷ q) (t ∷ ts) (k ∷ p) m h =
    let w = and_both _ _ m in
    let o = and_both _ _ h in
    rw (overlap-right u s t k w.0 o.0) (above-right u q ts p w.1 o.1)

above-left : (u : List Binding) (q ts : Steps) (p : Keys) → matches u ts p ≡ true → is_above (as_steps p) q ≡ true → is_above ts q ≡ true
unfolding matches is_above as_steps
above-left u q [] [] m h = h
above-left u q [] (k ∷ p) m h = never (sym m)
above-left u q (t ∷ ts) [] m h = never (sym m)
above-left u [] (t ∷ ts) (k ∷ p) m h = h
above-left u (s ∷ q) (t ∷ ts) (k ∷ p) m h =
    let w = and_both _ _ m in
    let o = and_both _ _ h in
    rw (overlap-left u s t k w.0 o.0) (above-left u q ts p w.1 o.1)

-- what conflicts with a path conflicts with each policy path that matches it
pub conflict-matched : (u : List Binding) (ts q : Steps) (p : Keys) → matches u ts p ≡ true → conflict (as_steps p) q ≡ true → conflict ts q ≡ true
unfolding conflict
conflict-matched u ts q p m h = by_cases (is_above (as_steps p) q)
    (λ e. or_left _ _ (above-left u q ts p m e))
    (λ e. or_right (is_above ts q) _ (above-right u q ts p m (rw e at h)))

pub conflict-flip : (p q : Steps) → conflict p q ≡ conflict q p
unfolding conflict
conflict-flip p q = or_comm (is_above p q) (is_above q p)

above-self : (p : Steps) → is_above p p ≡ false
unfolding is_above
above-self [] = refl
above-self (t ∷ p) = rw (above-self p) (and-false (overlap t t))

pub conflict-self : (p : Steps) → conflict p p ≡ false
unfolding conflict
conflict-self p = rw above-self
