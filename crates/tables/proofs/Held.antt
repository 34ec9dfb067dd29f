-- Who holds the keys of a path as environment values, and masks that leave out nobody for whom a policy path matches.
use Prim.Native.Nat.{ℕ, zero, suc, ◌+◌, ◌*◌, ◌≤◌, ◌<◌, min}
use mathlib.Core.Path.{◌≡◌, refl, sym, ◌∙◌}
use mathlib.Core.Bool.{Bool, true, ◌&&◌, ◌||◌}
use mathlib.Core.List.{List, [], ◌∷◌}
use native.Mathlib.Omega.{arith}
use borrow.Author.Tests.{eqb-true, eqb-false, ltb-true, ltb-false}
use Rattle.std.specs.Prelude.{Option, None, Some}
use Rattle.std.proofs.lemmas.List.{get_or_past}
use lib.Dec.{eqb, ltb}
use lib.ListN.{length, get_or, take, drop, set, replicate, length-replicate, length-set}
use lib.Seq.{get_or-set_same, get_or-set_other}
use Rattle.model.specs.Base.{Bytes, ◌≐◌}
use Rattle.model.specs.Limits.{max_depth, max_users}
use Rattle.model.specs.Fields.{Keys}
use Rattle.model.specs.Paths.{Steps, wildcard}
use Rattle.model.specs.Tables.{User, user_at}
use Rattle.model.proofs.Lists.{by_cases, and_both, bytes_eq}
use Rattle.masks.specs.Bits.{bit_at}
use Rattle.masks.proofs.Bits.{SetBelow, below_next, below_end}
use Rattle.layout.specs.Layout.{key_row, name_in}
use Rattle.layout.proofs.Counts.{length-counted, counted-at}
use Rattle.layout.proofs.Used.{length-table}
use Rattle.paths.specs.Layout.{path_in}
use Rattle.paths.specs.Fields.{shared}
use Rattle.steps.specs.Steps.{step_row, step_in, steps_in}
use Rattle.matching.specs.Parts.{may_admit, asks, has_value, may_match}
use Rattle.matching.proofs.Matched.{paired-counts, matches-unheld}
use Rattle.tables.specs.Memory.{user_row, user_in, users_in, user_count}
use Rattle.tables.specs.Grants.{holds_value, Found, Covers}
use Rattle.tables.proofs.Users.{user-none, user-some}

-- ── A loop over the users: who holds the value v; m rows were counted, and the users below j were asked ──
abbrev pub HoldersBelow : Bytes → Bytes → ℕ → ℕ → Type 0
HoldersBelow s v j mask = SetBelow (λ k. holds_value v (user_at (users_in s) k)) j mask

module _ (s v : Bytes) {m : ℕ} (counted : m ≡ user_count s) (j mask : ℕ) (left : HoldersBelow s v j mask) where
  -- the user in the row at j was asked, and r says whether the value is there
  module _ (below : j < m) {row : Bytes} (here : row ≡ take user_row (drop (j * user_row) s)) {r : Bool} (t : r ≡ has_value (user_in row).environment v) where
    told : holds_value v (user_at (users_in s) j) ≡ r
    unfolding holds_value
    told = rw (user-some s counted j below here) (sym t)

    pub holder-next : (new : ℕ) → ((k : ℕ) → bit_at new k ≡ (bit_at mask k || (eqb k j && r))) → HoldersBelow s v (j + 1) new
    holder-next new e = below_next (λ k. holds_value v (user_at (users_in s) k)) j mask left new (λ k. e k ∙ rw told)

  pub holders-end : m ≤ j → (k : ℕ) → bit_at mask k ≡ holds_value v (user_at (users_in s) k)
  unfolding holds_value
  holders-end h k = below_end (λ k. holds_value v (user_at (users_in s) k)) j mask left (λ k l. rw (user-none s counted k (omega arith))) k

-- ── Who holds the keys of a path ──
replicated : {A : Type 0} (z : A) (n i : ℕ) → get_or (replicate n z) i z ≡ z
replicated z zero i = refl
replicated z (suc n) zero = refl
replicated z (suc n) (suc i) = replicated z n i

-- the key in the row at i
pub key-is : (s : Bytes) (i : ℕ) → i < min (get_or s 0 0) max_depth → {key : Bytes} → key ≡ name_in (take key_row (drop (i * key_row + 1) s)) → key ≡ get_or (path_in s) i []
unfolding path_in
key-is s i h e = e ∙ sym (counted-at name_in key_row max_depth s i [] h)

module _ (us : List User) (p : Keys) where
  -- nothing was found out yet
  pub found_none : Found us p (replicate max_depth None)
  found_none = record {
    long = length-replicate {A = Option ℕ} max_depth None;
    holders = λ i mask known. let none = replicated {A = Option ℕ} None max_depth i in absurd (cc);
  }

  -- who holds the i-th key was found out
  pub found-more : (found : List (Option ℕ)) → Found us p found → (i mask : ℕ) → i < max_depth
      → ((k : ℕ) → bit_at mask k ≡ holds_value (get_or p i []) (user_at us k)) → Found us p (set found i (Some mask))
  found-more found left i mask h e = record {
    long = simp length-set left.long;
    holders = λ j m known k. by_cases (eqb j i)
        (λ q.
        let is : j ≡ i = eqb-true j i q in
        let put = get_or-set_same found i (Some mask) None (omega (arith, left.long)) in
        let same : m ≡ mask = cc in
        rw (is, same) (e k))
        (λ q. left.holders j m (rw (get_or-set_other found i j (Some mask) None (eqb-false j i q)) at known) k);
  }

-- ── What was found out of one path, kept for another as far as the two share keys ──
shared-key : (p q : Keys) (j : ℕ) → j < shared p q → get_or p j [] ≡ get_or q j []
unfolding shared
shared-key [] q j h = absurd (omega arith)
shared-key (k ∷ p) [] j h = absurd (omega arith)
shared-key (k ∷ p) (l ∷ q) zero h = by_cases (k ≐ l) (λ e. bytes_eq k l e) (λ e. absurd (omega (arith, rw e at h)))
shared-key (k ∷ p) (l ∷ q) (suc j) h = by_cases (k ≐ l) (λ e. shared-key p q j (omega (arith, rw e at h))) (λ e. absurd (omega (arith, rw e at h)))

-- what is known was known before, and of those below i only the first n are
pub record KeptFirst (n : ℕ) (before : List (Option ℕ)) (i : ℕ) (found : List (Option ℕ)) : Type 0 where
  pub long : length found ≡ max_depth
  pub known : (j mask : ℕ) → get_or found j None ≡ Some mask → (get_or before j None ≡ Some mask) × (j < i → j < n)

module _ (n : ℕ) (before : List (Option ℕ)) where
  pub kept-all : length before ≡ max_depth → KeptFirst n before n before
  kept-all h = record { long = h; known = λ j mask is. (is, λ l. l) }

  module _ (i : ℕ) (found : List (Option ℕ)) (left : KeptFirst n before i found) where
    pub kept_next : i < max_depth → KeptFirst n before (i + 1) (set found i None)
    kept_next h = record {
      long = simp length-set left.long;
      known = λ j mask is. by_cases (eqb j i)
          (λ q.
          let e : j ≡ i = eqb-true j i q in
          let put = get_or-set_same found i None None (omega (arith, left.long)) in
          absurd (cc))
          (λ q.
          let d = eqb-false j i q in
          let (was, first) = left.known j mask (rw (get_or-set_other found i j None None d) at is) in
          (was, λ l. first (omega arith)));
    }

    pub kept-end : max_depth ≤ i → (us : List User) (p q : Keys) → n ≤ shared p q → Found us p before → Found us q found
    kept-end h us p q same was = record {
      long = left.long;
      holders = λ j mask is k.
          let (known, first) = left.known j mask is in
          let inside : j < max_depth = by_cases (ltb j max_depth) (λ b. ltb-true j max_depth b)
          (λ b. let past = get_or_past found j None (omega (arith, left.long, ltb-false j max_depth b)) in absurd (cc)) in
          rw (← shared-key p q j (omega (arith, first (omega arith)))) (was.holders j mask known k);
    }

-- ── A mask that leaves out nobody for whom the steps match the path ──
-- all users
pub covers-all : (s : Bytes) (ts : Steps) (p : Keys) {m : ℕ} → m ≡ user_count s → (mask : ℕ) → ((k : ℕ) → bit_at mask k ≡ ltb k m) → Covers (users_in s) ts p mask
unfolding users_in
covers-all s ts p {m} counted mask e = record {
  users = λ k b. omega (arith, ltb-true k m (sym (e k) ∙ b), length-table user_in user_row max_users s);
  all = λ k u is b. let nobody = user-none s counted k (ltb-false k m (sym (e k) ∙ b)) in cc;
}

-- a policy path, the bytes q, and a field's path, the bytes f, that it may match
module _ (q f : Bytes) (may : may_match (steps_in q) (path_in f) ≡ true) (i : ℕ) (inside : i < min (get_or q 0 0) max_depth) where
  -- there is a key for the step at i
  pub key-beside : i < min (get_or f 0 0) max_depth
  unfolding may_match
  key-beside = omega (arith, paired-counts may_admit q f may)

  -- it asks the lines: of those who were not left out, those who hold the key
  pub covers-held : (s : Bytes) {row : Bytes} → row ≡ take step_row (drop (i * step_row + 1) q) → asks (step_in row) ≡ true
      → (mask held new : ℕ) → Covers (users_in s) (steps_in q) (path_in f) mask → ((k : ℕ) → bit_at new k ≡ (bit_at mask k && bit_at held k))
      → ((k : ℕ) → bit_at held k ≡ holds_value (get_or (path_in f) i []) (user_at (users_in s) k)) → Covers (users_in s) (steps_in q) (path_in f) new
  unfolding holds_value steps_in
  covers-held s here ask mask held new c e holds =
      let step : asks (get_or (steps_in q) i wildcard) ≡ true = rw (counted-at step_in step_row max_depth q i wildcard inside, ← here) ask in
      record {
        users = λ k b. c.users k (and_both (bit_at mask k) (bit_at held k) (sym (e k) ∙ b)).0;
        all = λ k u is b. by_cases (bit_at mask k)
            (λ y. let out = sym (rw is at (holds k)) ∙ sym (rw y at (e k)) ∙ b in matches-unheld u.environment (steps_in q) (path_in f) i wildcard (rw length-counted inside) step out)
            (λ n. c.all k u is n);
      }
