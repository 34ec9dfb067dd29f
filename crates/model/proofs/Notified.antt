-- The numbers that a list receives ascend, and there are never more than it has room for.
use Prim.Native.Nat.{ℕ, zero, suc, ◌*◌, ◌≤◌, ◌<◌}
use mathlib.Core.Path.{◌≡◌, refl, ap}
use mathlib.Core.List.{List, [], ◌∷◌, map}
use mathlib.Core.Bool.{Bool, true}
use lib.ListN.{length, take, length-map}
use native.Mathlib.Nat.{le_trans}
use native.Mathlib.Omega.{arith}
use borrow.Author.Tests.{lt-ltb}
use Rattle.model.specs.Base.{keep, range, All}
use Rattle.model.specs.Limits.{per_user, list_room, max_logins}
use Rattle.model.specs.Opening.{State}
use Rattle.model.specs.Serving.{session_number, login_at, Change, sets_login, shows, stores, receivers, notified, Act, unchanged, conclude, outcome}
use Rattle.model.specs.Claims.{ascends}
use Rattle.model.proofs.Lists.{by_cases, all-imp, keep-yes, keep-no, length-keep-le}
use Rattle.model.proofs.Decisions.{by-decision}
use Rattle.model.proofs.Invariant.{Running, few-at}
use Rattle.model.proofs.TwoRuns.{over-take}

ascend-more : (m : ℕ) (l : List ℕ) → All (λ n. m < n) l → ascends l ≡ true → ascends (m ∷ l) ≡ true
unfolding ascends
ascend-more m [] a h = refl
ascend-more m (n ∷ l) a h = rw (lt-ltb m n a.0) h

range_length : (i n : ℕ) → length (range i n) ≡ n
unfolding range
range_length i zero = refl
range_length i (suc n) = ap suc (range_length (suc i) n)

module _ (s : State) (few : (j : ℕ) → (login_at s j).logins ≤ max_logins) where
  number : ℕ → ℕ
  number j = session_number j (login_at s j)

  number-low : (i : ℕ) → per_user * i ≤ number i
  unfolding number session_number
  number-low i = omega arith

  number-high : (i m : ℕ) → per_user * suc i ≤ m → number i < m
  unfolding number session_number
  number-high i m h = omega (arith, few i)

  -- numbers of ascending indices ascend
  numbers-ascend : (f : ℕ → Bool) (i n : ℕ) → (ascends (map number (keep f (range i n))) ≡ true) × All (λ m. per_user * i ≤ m) (map number (keep f (range i n)))
  unfolding range
  numbers-ascend f i zero = unfold keep ascends in (refl, tt)
  numbers-ascend f i (suc n) =
      let w = numbers-ascend f (suc i) n in
      let rest : List ℕ = map number (keep f (range (suc i) n)) in
      let later : All (λ m. per_user * i ≤ m) rest = all-imp (λ m. per_user * suc i ≤ m) (λ m. per_user * i ≤ m) (λ m e. omega arith) rest w.1 in
      by_cases (f i)
      (λ e. rw (keep-yes f i (range (suc i) n) e)
      (ascend-more (number i) rest (all-imp (λ m. per_user * suc i ≤ m) (λ m. number i < m) (λ m k. number-high i m k) rest w.1) w.0, (number-low i, later)))
      (λ e. rw (keep-no f i (range (suc i) n) e) (w.0, later))

module _ {loaded : ℕ} {s : State} (r : Running loaded s) where
  notified-ascends : (c : Change) → (ascends (notified s c) ≡ true) × (length (notified s c) ≤ list_room)
  unfolding notified ascends receivers number
  notified-ascends (sets_login i a) = (refl, omega arith)
  notified-ascends (shows t) = (refl, omega arith)
  notified-ascends (stores i a f) = (
    (numbers-ascend s (few-at r) _ 0 (length s.tables.users)).0,
    rw length-map (le_trans (length-keep-le _ (range 0 (length s.tables.users))) (rw range_length r.users)),
  )

  pub told-ascends : (a : Act) → (ascends (take (outcome s a).told (outcome s a).list) ≡ true) × ((outcome s a).told ≤ list_room)
  unfolding conclude unchanged
  told-ascends a = by-decision (λ x. (ascends (take x.told x.list) ≡ true) × (x.told ≤ list_room)) s a
      (λ e. unfold ascends in (refl, omega arith))
      (λ c d. rw over-take (notified-ascends c))
