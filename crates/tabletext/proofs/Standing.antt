-- A user that was found among the rows in memory: the row, its lines, and what the users are where other lines came back.
use Prim.Native.Nat.{ℕ, zero, suc, ◌+◌, ◌*◌, ◌-◌, ◌≤◌, ◌<◌}
use mathlib.Core.Path.{◌≡◌, refl, sym, ap, ◌∙◌}
use mathlib.Core.Bool.{Bool, false}
use Rattle.std.specs.Prelude.{Option, None, Some}
use Rattle.std.specs.Option.{option_map}
use mathlib.Core.List.{List, [], ◌∷◌, ◌++◌, append_assoc}
use native.Mathlib.Nat.{add-sub_cancel_left, le_of_suc-le-suc}
use native.Mathlib.Omega.{arith}
use lib.ListN.{length, get_or, take, drop, set, length-append, length-drop, take-append-drop, get_or-append}
use Rattle.std.specs.Prelude.{slice_get}
use lib.Seq.{take-add, take_all, take-take, take-append-le, drop-drop, drop_at, drop-append-le, length-take-le}
use Rattle.rows.specs.Rows.{rows, up_to, replaced}
use Rattle.rows.proofs.Rows.{drop-take, row-at}
use Rattle.layout.proofs.Changed.{used-set, table-set}
use Rattle.layout.proofs.Used.{used-at, table-fit, length-table}
use Rattle.layout.proofs.Canonical.{canonical-set}
use Rattle.rows.proofs.Parts.{length_part}
use Rattle.model.specs.Base.{Bytes, first_from, All}
use Rattle.model.specs.Limits.{max_users, max_bindings}
use Rattle.model.specs.Tables.{Binding, User, user_at, user_named, bound}
use Rattle.model.proofs.Lists.{by_cases, none-some, elem_below}
use Rattle.model.proofs.Reading.{some_same}
use Rattle.layout.specs.Layout.{in_use, is_empty, name_row, name_in, Keeps}
use Rattle.steps.specs.Environments.{binding_row, bindings_bytes, binding_in, bindings_in, CanonicalBindings}
use Rattle.tables.specs.Memory.{user_row, users_bytes, role_at, key_at, quota_at, lines_at, user_in, users_in, CanonicalUser, CanonicalUsers}
use Rattle.tables.proofs.Users.{user-some}

-- ── What the answer of a search says ──
-- the user of the name n was looked for: there is none, or there is one at i
module _ (us : List User) {m n : Bytes} (is : m ≡ n) {r : Option ℕ} (h : r ≡ option_map (λ (t : ℕ × User). t.0) (user_named m us)) where
  pub user-unknown : r ≡ None → user_named n us ≡ None
  user-unknown e = rw (← is) (go (user_named m us) h)
    where
      go : (o : Option (ℕ × User)) → r ≡ option_map (λ (t : ℕ × User). t.0) o → o ≡ None
      go None h = refl
      go (Some t) h = cc

  pub user-known : {i : ℕ} → r ≡ Some i → (u : User) × (user_named n us ≡ Some (i, u))
  user-known {i} e = rw (← is) (go (user_named m us) h)
    where
      go : (o : Option (ℕ × User)) → r ≡ option_map (λ (t : ℕ × User). t.0) o → (u : User) × (o ≡ Some (i, u))
      go None h = absurd (cc)
      go (Some t) h = (t.1, let z : t.0 ≡ i = cc in rw z)

-- ── The row of a user: what stands before the lines, and the lines ──
module _ (h : Bytes) (long : length h ≡ lines_at) where
  -- a part of what stands before the lines
  front-part : (a k : ℕ) → a + k ≤ lines_at → (ls : Bytes) → take k (drop a (h ++ ls)) ≡ take k (drop a h)
  front-part a k inside ls = rw (drop-append-le a h ls (omega arith)) (take-append-le k (drop a h) ls (rw length-drop (omega arith)))

  user-parts : (ls : Bytes) → user_in (h ++ ls) ≡ record {
    name = name_in (take name_row h);
    role = name_in (take name_row (drop role_at h));
    key = name_in (take name_row (drop key_at h));
    quota = get_or h quota_at 0 + 256 * get_or h (quota_at + 1) 0;
    environment = bindings_in ls;
  }
  unfolding user_in
  user-parts ls =
      let low = get_or-append h ls 0 quota_at (omega arith) in
      let high = get_or-append h ls 0 (quota_at + 1) (omega arith) in
      rw (front-part 0 name_row (omega arith) ls, front-part role_at name_row (omega arith) ls, front-part key_at name_row (omega arith) ls, low, high, drop_at h ls lines_at long)

  -- with other lines that are written as their meaning is, so is the row
  user-kept : (ls ms : Bytes) → Keeps CanonicalBindings ls ms → CanonicalUser (h ++ ls) → CanonicalUser (h ++ ms)
  user-kept ls ms lines was = record {
    name = rw (front-part 0 name_row (omega arith) ms) (rw (front-part 0 name_row (omega arith) ls) at was.name);
    role = rw (front-part role_at name_row (omega arith) ms) (rw (front-part role_at name_row (omega arith) ls) at was.role);
    key = rw (front-part key_at name_row (omega arith) ms) (rw (front-part key_at name_row (omega arith) ls) at was.key);
    quota = rw (front-part quota_at 2 (omega arith) ms, user-parts ms) (rw (front-part quota_at 2 (omega arith) ls, user-parts ls) at was.quota);
    environment = rw (drop_at h ms lines_at long) (lines (rw (drop_at h ls lines_at long) at was.environment));
  }

  -- with one line more it is the row of the user so bound
  user-bound : (ls ms : Bytes) (b : Binding) → bindings_in ms ≡ bindings_in ls ++ b ∷ [] → user_in (h ++ ms) ≡ bound (user_in (h ++ ls)) b
  unfolding bound
  user-bound ls ms b e = rw (user-parts ms, user-parts ls, e)

  -- it is empty where it was empty
  same-empty : (ls ms : Bytes) → is_empty (h ++ ls) ≡ is_empty (h ++ ms)
  unfolding is_empty
  same-empty ls ms = rw (get_or-append h ls 0 0 (omega arith), get_or-append h ms 0 0 (omega arith))

-- ── The lines of the user at i, in the rows of all users ──
module _ (s : Bytes) (i : ℕ) where
  abbrev row_at : Bytes
  row_at = take user_row (drop (i * user_row) s)

  abbrev pub lines_of : Bytes
  lines_of = take (i * user_row + lines_at + bindings_bytes - (i * user_row + lines_at)) (drop (i * user_row + lines_at) s)

  row-split : row_at ≡ take lines_at row_at ++ lines_of
  row-split = rw (add-sub_cancel_left, ← drop-drop lines_at (i * user_row) s, ← drop-take lines_at user_row (drop (i * user_row) s)) (sym (take-append-drop lines_at row_at))

  -- where other lines came back, so did the row with them
  row_back : (ls : Bytes) → replaced (i * user_row + lines_at) (i * user_row + lines_at + bindings_bytes - (i * user_row + lines_at)) ls s ≡ replaced (i * user_row) user_row (take lines_at row_at ++ ls) s
  row_back ls =
      let e : i * user_row + lines_at + bindings_bytes ≡ i * user_row + user_row = omega arith in
      rw (add-sub_cancel_left, take-add (i * user_row) lines_at s, drop-drop bindings_bytes (i * user_row + lines_at) s, drop-drop user_row (i * user_row) s, e, take-take lines_at user_row (drop (i * user_row) s) (omega arith))
      (simp append_assoc)

-- ── Where the user stands ──
-- the first element that passes is one of the list
first-at : {A : Type 0} (p : A → Bool) (j : ℕ) (xs : List A) {i : ℕ} {x : A} → first_from j p xs ≡ Some (i, x)
    → (k : ℕ) × (i ≡ j + k) × (slice_get xs k ≡ Some x)
unfolding first_from
first-at p j [] h = none-some h
first-at {A} p j (y ∷ xs) {i} {x} h = by_cases (p y)
    (λ e.
    let q : ◌≡◌ {A = ℕ × A} (j, y) (i, x) = cc (rw e at h) in
    (0, omega (arith, ap (λ (t : ℕ × A). t.0) q), ap (λ (t : ℕ × A). Some t.1) q))
    (λ e. let (k, n, g) = first-at p (suc j) xs (rw e at h) in (suc k, omega arith, g))

-- no element before the first stop is one
kept_at : {A : Type 0} (stop : A → Bool) (i : ℕ) (xs : List A) (z : A) → i < length (up_to stop xs) → stop (get_or xs i z) ≡ false
unfolding up_to
kept_at stop i [] z h = absurd (omega arith)
kept_at stop zero (x ∷ xs) z h = by_cases (stop x) (λ e. absurd (omega (arith, rw e at h))) (λ e. e)
kept_at stop (suc i) (x ∷ xs) z h = by_cases (stop x) (λ e. absurd (omega (arith, rw e at h))) (λ e. kept_at stop i xs z (le_of_suc-le-suc (rw e at h)))

-- what holds of every element holds of the one at i
all-at : {A : Type 0} (P : A → Type 0) (xs : List A) (i : ℕ) (z : A) → i < length xs → All P xs → P (get_or xs i z)
all-at P [] i z b h = absurd (omega arith)
all-at P (x ∷ xs) zero z b h = h.0
all-at P (x ∷ xs) (suc i) z b h = all-at P xs i z (omega arith) h.1

-- the user of the name n stands at i
pub record Stands (s n : Bytes) (i : ℕ) : Type 0 where
  pub user : User
  pub named : user_named n (users_in s) ≡ Some (i, user)
  pub below : i < length (users_in s)
  pub inside : i * user_row + user_row ≤ users_bytes
  pub is : user ≡ user_in (take user_row (drop (i * user_row) s))

pub stands : (s : Bytes) {n : Bytes} {i : ℕ} {u : User} → user_named n (users_in s) ≡ Some (i, u) → Stands s n i
unfolding users_in user_named user_at
stands s {i = i} {u = u} h =
    let (k, e, g) = first-at _ 0 (users_in s) h in
    let same : k ≡ i = omega arith in
    let at : slice_get (users_in s) i ≡ Some u = rw (← same) g in
    let below = elem_below (users_in s) i u at in
    let counted = length-table user_in user_row max_users s in
    record {
      user = u;
      named = h;
      below = below;
      inside = omega (arith, table-fit user_in user_row max_users s);
      is = some_same (sym at ∙ user-some s counted i below refl);
    }

-- ── The lines of the user there ──
-- one more of at most n, of which there are m
pub one_more : {A : Type 0} (n : ℕ) (xs : List A) (x : A) {m : ℕ} → m ≡ length xs → m < n → take n (xs ++ x ∷ []) ≡ xs ++ x ∷ []
one_more n xs x e h = take_all n (xs ++ x ∷ []) (rw length-append (omega arith))

module _ {s n : Bytes} {i : ℕ} (u : Stands s n i) (size : length s ≡ users_bytes) where
  front : length (take lines_at (row_at s i)) ≡ lines_at
  front = length-take-le lines_at (row_at s i) (rw (length_part (i * user_row) user_row s (omega (arith, u.inside))) (omega arith))

  pub lines_long : length (lines_of s i) ≡ bindings_bytes
  lines_long = rw add-sub_cancel_left (length_part (i * user_row + lines_at) bindings_bytes s (omega (arith, u.inside)))

  pub lines_are : u.user.environment ≡ bindings_in (lines_of s i)
  lines_are = rw (u.is, row-split s i, user-parts (take lines_at (row_at s i)) front)

  pub lines-counted : {m : ℕ} → m ≡ length (in_use binding_row max_bindings (lines_of s i)) → m ≡ length u.user.environment
  unfolding bindings_in
  lines-counted h = rw (lines_are, length-table binding_in binding_row max_bindings (lines_of s i)) h

  -- ── Other lines came back ──
  module _ (ls : Bytes) (long : length ls ≡ bindings_bytes) where
    abbrev back : Bytes
    back = take lines_at (row_at s i) ++ ls

    back_long : length back ≡ user_row
    back_long = rw (length-append, front, long)

    below : i < length (in_use user_row max_users s)
    unfolding users_in
    below = rw length-table at u.below

    -- the row is in use as it was
    back-kept : is_empty back ≡ false
    back-kept =
        let full = kept_at is_empty i (rows user_row max_users s) [] below in
        rw (same-empty (take lines_at (row_at s i)) front ls (lines_of s i), ← row-split s i, ← row-at user_row i max_users s [] (omega (arith, u.inside))) full

    back-used : in_use user_row max_users (replaced (i * user_row) user_row back s) ≡ set (in_use user_row max_users s) i back
    back-used = used-set user_row max_users i back s (omega arith, omega arith) back_long back-kept below

    -- where there is room: those that there were and the line b
    pub lines-joined : {m : ℕ} (b : Binding) → m ≡ length u.user.environment → m < max_bindings
        → bindings_in ls ≡ take max_bindings (bindings_in (lines_of s i) ++ b ∷ [])
        → users_in (replaced (i * user_row + lines_at) (i * user_row + lines_at + bindings_bytes - (i * user_row + lines_at)) ls s) ≡ set (users_in s) i (bound u.user b)
    unfolding users_in
    lines-joined b counted room e =
        let more = e ∙ one_more max_bindings (bindings_in (lines_of s i)) b (counted ∙ ap length lines_are) room in
        let joined = user-bound (take lines_at (row_at s i)) front (lines_of s i) ls b more in
        rw (row_back s i ls, table-set user_in user_row max_users s (replaced (i * user_row) user_row back s) back i back-used, joined, ← row-split s i, ← u.is)

    -- where they are written as their meaning is, so are the users
    pub lines-kept : Keeps CanonicalBindings (lines_of s i) ls
        → Keeps CanonicalUsers s (replaced (i * user_row + lines_at) (i * user_row + lines_at + bindings_bytes - (i * user_row + lines_at)) ls s)
    lines-kept lines h =
        let was : CanonicalUser (row_at s i) = rw (used-at user_row max_users s i [] below) at (all-at CanonicalUser (in_use user_row max_users s) i [] below h.1) in
        let is = user-kept (take lines_at (row_at s i)) front (lines_of s i) ls lines (rw (row-split s i) at was) in
        rw (row_back s i ls) (canonical-set CanonicalUser user_row max_users s back (omega arith, omega arith) back_long back-kept is h i below)
