-- Whom a line lets read a path, and the mask of those who may, while loops over the users and the lines set its bits.
use Prim.Native.Nat.{ℕ, ◌+◌, ◌*◌, ◌^◌, ◌≤◌, ◌<◌}
use mathlib.Core.Path.{◌≡◌, refl, sym, ◌∙◌}
use mathlib.Core.Bool.{true, false, not, ◌&&◌, ◌||◌, and-false, or-false, or_assoc}
use Rattle.std.specs.Prelude.{Option, None, Some}
use mathlib.Core.List.{List, [], ◌∷◌}
use lib.Dec.{eqb}
use lib.ListN.{length, take, drop, set}
use Rattle.model.specs.Base.{Bytes, any}
use Rattle.model.specs.Limits.{max_users, max_rules}
use Rattle.model.specs.Fields.{Keys}
use Rattle.model.specs.Tables.{User, Rule, user_at}
use Rattle.model.specs.Rights.{is_for, matches, may_read}
use Rattle.model.specs.Serving.{reads_by, reads_at}
use Rattle.masks.specs.Bits.{bit_at}
use Rattle.masks.specs.Readers.{readers_of}
use Rattle.masks.proofs.Bits.{mask_is, bit-none, AskedBut, asked-start, asked-next}
use Rattle.layout.specs.Layout.{in_use}
use Rattle.matching.specs.Parts.{may_match}
use Rattle.matching.proofs.Matched.{matches-not}
use Rattle.tables.specs.Memory.{user_row, users_bytes, rule_row, user_in, users_in, rule_in, policy_in, tables_in}
use Rattle.tables.specs.Grants.{gives_read, reads_by_line, Covers}
use Rattle.tables.proofs.Users.{user-some, user-below}
use Rattle.tables.proofs.Policy.{rule-left, rules-over}

-- ── A user may read a path by no line, by the first line, or by the later ones ──
reads_none : (p : Keys) (o : Option User) → reads_by [] o p ≡ false
unfolding reads_by may_read any
reads_none p None = refl
reads_none p (Some u) = refl

module _ (p : Keys) (r : Rule) where
  reads_more : (rs : List Rule) (o : Option User) → reads_by (r ∷ rs) o p ≡ (reads_by_line p r o || reads_by rs o p)
  unfolding reads_by may_read any reads_by_line gives_read
  reads_more rs None = refl
  reads_more rs (Some u) = refl

  -- a line that does not match lets nobody read
  line-not : (o : Option User) → ((u : User) → o ≡ Some u → matches u.environment r.path p ≡ false) → reads_by_line p r o ≡ false
  unfolding reads_by_line gives_read
  line-not None h = refl
  line-not (Some u) h = rw (h u refl) (and-false (is_for u r))

-- m rows were counted: the line in the row at i may not match
pub lines-passed : (q : Bytes) (p : Keys) {m : ℕ} → m ≡ length (in_use rule_row max_rules q) → (i : ℕ) → i < m → {row : Bytes} → row ≡ take rule_row (drop (i * rule_row) q)
    → may_match (rule_in row).path p ≡ false → (o : Option User) → reads_by (drop i (policy_in q)) o p ≡ reads_by (drop (i + 1) (policy_in q)) o p
lines-passed q p counted i below {row} here h o =
    rw (rule-left q counted i below here, reads_more p (rule_in row), line-not p (rule_in row) o (λ u is. matches-not u.environment (rule_in row).path p h))

-- ── A loop over the lines of the policy, the bytes q: the bit of each user who may read is set, or the user may by a line that is left at i ──
unfoldable pub ReadersLeft : Bytes → Bytes → Keys → ℕ → ℕ → Type 0
ReadersLeft s q p i mask = (j : ℕ) → reads_at (tables_in s) j p ≡ (bit_at mask j || reads_by (drop i (policy_in q)) (user_at (users_in s) j) p)

-- no bit is set at the start; the policy stands behind the users
pub readers-start : (s q : Bytes) (p : Keys) → q ≡ drop users_bytes s → ReadersLeft s q p 0 0
unfolding ReadersLeft reads_at tables_in
readers-start s q p is j = rw (bit-none j, is)

-- m rows were counted
module _ (s q : Bytes) (p : Keys) {m : ℕ} (counted : m ≡ length (in_use rule_row max_rules q)) (i mask : ℕ) (left : ReadersLeft s q p i mask) where
  pub readers-end : m ≤ i → mask < 2 ^ max_users → mask ≡ readers_of (tables_in s) p
  unfolding ReadersLeft readers_of
  readers-end h fits =
      mask_is (λ j. reads_at (tables_in s) j p) max_users mask fits (λ j. sym (left j ∙ rw (rules-over q counted i h, reads_none) (or-false _)))

  -- no line before r lets anybody read
  pub readers-on : (r : ℕ) → ((o : Option User) → reads_by (drop i (policy_in q)) o p ≡ reads_by (drop r (policy_in q)) o p) → ReadersLeft s q p r mask
  unfolding ReadersLeft
  readers-on r e j = left j ∙ rw (e (user_at (users_in s) j))

  -- the bits of those are set whom the line in the row at i lets read
  module _ (below : i < m) {row : Bytes} (here : row ≡ take rule_row (drop (i * rule_row) q)) where
    pub readers-more : (new : ℕ) → ((k : ℕ) → bit_at new k ≡ (bit_at mask k || reads_by_line p (rule_in row) (user_at (users_in s) k))) → ReadersLeft s q p (i + 1) new
    unfolding ReadersLeft
    readers-more new e j = left j ∙ rw (rule-left q counted i below here, reads_more p (rule_in row), e j, or_assoc)

-- ── A loop over such a mask, for the line r: `rest` is left of it ──
module _ (s : Bytes) (p : Keys) (r : Rule) where
  abbrev pub ReadersBut : ℕ → ℕ → ℕ → Type 0
  ReadersBut m₀ rest mask = AskedBut (λ k. reads_by_line p r (user_at (users_in s) k)) m₀ rest mask

  -- who is left out may not read by the line, or is marked already
  pub readers-able : (m₀ able rest : ℕ) → Covers (users_in s) r.path p able → ((k : ℕ) → bit_at rest k ≡ (bit_at able k && not (bit_at m₀ k))) → ReadersBut m₀ rest m₀
  readers-able m₀ able rest c = asked-start (λ k. reads_by_line p r (user_at (users_in s) k)) m₀ able rest (λ k out. line-not p r _ (λ u is. c.all k u is out))

  -- the user in the row at j was asked
  pub readers-next : (m₀ rest mask : ℕ) → ReadersBut m₀ rest mask → (j : ℕ) → j < length (users_in s) → {row : Bytes} → row ≡ take user_row (drop (j * user_row) s)
      → (cut : ℕ) → bit_at rest j ≡ true → ((k : ℕ) → bit_at cut k ≡ (not (eqb k j) && bit_at rest k))
      → (new : ℕ) → ((k : ℕ) → bit_at new k ≡ (bit_at mask k || (eqb k j && gives_read p r (user_in row)))) → ReadersBut m₀ cut new
  unfolding reads_by_line
  readers-next m₀ rest mask left j below {row} here cut is without new set =
      let told : reads_by_line p r (user_at (users_in s) j) ≡ gives_read p r (user_in row) = rw (user-some s refl j (user-below s j below) here) in
      asked-next (λ k. reads_by_line p r (user_at (users_in s) k)) m₀ rest mask left j new cut is (λ k. set k ∙ rw told) without
