-- Whom a push reaches: by the policy and by the mask that it gives, and how a loop over the user places fills the list.
use Prim.Native.Nat.{ℕ, zero, suc, ◌+◌, ◌-◌, ◌/◌, ◌^◌, ◌≤◌, ◌<◌}
use mathlib.Core.Path.{◌≡◌, refl, sym, ap, ◌∙◌}
use mathlib.Core.Bool.{Bool, true, false, not, ◌&&◌, and-false}
use mathlib.Core.List.{List, ◌∷◌, map}
use native.Mathlib.Nat.{zero-add}
use native.Mathlib.Numerals.{add-one}
use native.Mathlib.Omega.{arith}
use borrow.Author.Tests.{eqb-true}
use lib.Dec.{eqb}
use lib.ListN.{length, get_or, set, length-map}
use lib.Seq.{sets-eq}
use Rattle.rows.specs.Rows.{written}
use Rattle.rows.proofs.Writing.{written_none, written-cons}
use Rattle.model.specs.Base.{keep, range}
use Rattle.model.specs.Limits.{max_users}
use Rattle.model.specs.Fields.{Keys}
use Rattle.model.specs.Opening.{LoginState, State, empty_login}
use Rattle.model.specs.Serving.{session_number, login_at, reads_at, receivers, over}
use Rattle.model.proofs.Lists.{keep-yes, keep-no, keep-none, length-keep-le, all-range}
use Rattle.masks.specs.Bits.{none_from}
use Rattle.masks.specs.Readers.{readers_of}
use Rattle.masks.proofs.Bits.{none-set}
use Rattle.masks.proofs.Readers.{reads-past, reads-bit}
use Rattle.sessions.specs.Logins.{logins_in}
use Rattle.deliveries.specs.Receivers.{receives, receivers_of, Listed}

-- ── The document's receivers are those whom the policy's mask marks ──
-- two tests that agree on m places, and hold nowhere behind the first n, keep the same of the m as of the n
kept_same : (f g : ℕ → Bool) (k n m : ℕ) → n ≤ m → ((j : ℕ) → j < k + m → f j ≡ g j) → ((j : ℕ) → k + n ≤ j → g j ≡ false)
    → keep f (range k m) ≡ keep g (range k n)
unfolding keep range
kept_same f g k zero zero h same past = refl
kept_same f g k zero (suc m) h same past =
    rw (same k (omega arith), past k (omega arith)) (kept_same f g (suc k) zero m (omega arith) (λ j l. same j (omega arith)) (λ j l. past j (omega arith)))
kept_same f g k (suc n) zero h same past = absurd (omega arith)
kept_same f g k (suc n) (suc m) h same past =
    let rest = kept_same f g (suc k) n m (omega arith) (λ j l. same j (omega arith)) (λ j l. past j (omega arith)) in
    rw (same k (omega arith), rest)

pub receivers-of : (s : State) → length s.tables.users ≤ max_users → (i : ℕ) (p : Keys)
    → receivers_of s.login_states i (readers_of s.tables p) ≡ receivers s i p
unfolding receivers receivers_of receives login_at
receivers-of s few i p =
    ap (map (λ j. session_number j (login_at s j)))
    (kept_same (receives s.login_states i (readers_of s.tables p)) (λ j. (login_at s j).is_open && not (eqb j i) && reads_at s.tables j p)
    0 (length s.tables.users) max_users few
    (λ j h. rw (reads-bit s.tables few p j))
    (λ j h. rw (reads-past s.tables p j (omega arith), and-false)))

-- ── There are at most as many receivers as user places ──
pub receivers-few : (ls : List LoginState) (i m : ℕ) → length (receivers_of ls i m) ≤ max_users
unfolding receivers_of range
receivers-few ls i m = rw length-map (length-keep-le (receives ls i m) (range 0 max_users))

-- ── The loop over the user places ──
-- stored from the first place on, numbers that the list has room for stand at its start
written_start : (xs l : List ℕ) → length xs ≤ length l → written 0 xs l ≡ over xs l
unfolding written over
written_start xs l h = sets-eq xs l 0 (rw zero-add h) ∙ rw zero-add

module _ (logins : List ℕ) (i m : ℕ) (l₀ : List ℕ) where
  abbrev ls : List LoginState
  ls = logins_in logins

  -- the numbers of the receivers from the place j on
  abbrev pub receivers_from : ℕ → List ℕ
  receivers_from j = map (λ k. session_number k (get_or ls k empty_login)) (keep (receives ls i m) (range j (max_users - j)))

  -- the first k numbers are in the list: those that remain, stored behind them, complete it
  abbrev pub ListedFrom : ℕ → ℕ → List ℕ → Type 0
  ListedFrom k j l =
      (k + length (receivers_from j) ≡ length (receivers_of ls i m)) × (written k (receivers_from j) l ≡ over (receivers_of ls i m) l₀)

  pub listed_start : max_users ≤ length l₀ → ListedFrom 0 0 l₀
  unfolding receivers_of
  listed_start room = (zero-add _, written_start (receivers_of ls i m) l₀ (omega (arith, receivers-few ls i m)))

  module _ (k j : ℕ) (l : List ℕ) (listed : ListedFrom k j l) where
    -- b says whether the user at j receives the push: in the session r, or not
    module _ (below : j < max_users) {b : Bool} (test : b ≡ receives ls i m j) where
      places-left : range j (max_users - j) ≡ j ∷ range (j + 1) (max_users - (j + 1))
      unfolding range
      places-left = let e : max_users - j ≡ suc (max_users - (j + 1)) = omega arith in rw (e, add-one j)

      pub listed_more : b ≡ true → {a : LoginState} → a ≡ get_or ls j empty_login → {r : ℕ} → r ≡ session_number j a → ListedFrom (k + 1) (j + 1) (set l k r)
      listed_more told state number =
          let first = keep-yes (receives ls i m) j (range (j + 1) (max_users - (j + 1))) (sym test ∙ told) in
          let step : receivers_from j ≡ session_number j (get_or ls j empty_login) ∷ receivers_from (j + 1) = rw (places-left, first) in
          let now = rw (step, ← state, ← number) at listed in
          (omega arith, written-cons k _ (receivers_from (j + 1)) l ∙ now.1)

      pub listed_same : b ≡ false → ListedFrom k (j + 1) l
      listed_same not-told = rw (places-left, keep-no (receives ls i m) j (range (j + 1) (max_users - (j + 1))) (sym test ∙ not-told)) at listed

    -- where nobody remains, all are listed
    complete : ((x : ℕ) → j ≤ x → x < j + (max_users - j) → receives ls i m x ≡ false) → Listed logins i m l₀ k l
    complete nobody =
        let now = rw (keep-none _ _ (all-range (λ x. receives ls i m x ≡ false) j (max_users - j) nobody)) at listed in
        record { listed = sym (written_none k l) ∙ now.1; counted = omega arith }

    -- nobody does behind the last place, nor behind the last bit
    pub listed-all : max_users ≤ j → Listed logins i m l₀ k l
    listed-all h = complete λ x from to. absurd (omega arith)

    pub listed-none : none_from m j ≡ true → Listed logins i m l₀ k l
    unfolding receives
    listed-none shifted = complete λ x from to. rw (none-set m j x (eqb-true (m / 2 ^ j) 0 shifted) from, and-false)
