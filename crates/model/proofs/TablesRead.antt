-- What the tables of an accepted opening have, and what an accepted opening says of each text.
use Prim.Native.Nat.{ℕ, suc, ◌+◌, ◌≤◌, ◌<◌}
use mathlib.Core.Path.{◌≡◌, refl, sym, subst, ◌∙◌}
use Rattle.std.specs.Prelude.{Option, None, Some}
use mathlib.Core.List.{List, [], ◌∷◌, ◌++◌, append_assoc, append-nil}
use mathlib.Core.Bool.{Bool, true, false, ◌&&◌}
use lib.Dec.{leb, ltb}
use lib.ListN.{length, length-set, length-append}
use native.Mathlib.Omega.{arith}
use borrow.Author.Tests.{ltb-false, leb-true, leb-false, lt-ltb, le-ltb, not-false}
use Rattle.model.specs.Base.{Bytes, text, any, first_from, number, is_decimal, worth, All}
use Rattle.model.specs.Limits.{max_users, max_quota, max_bindings, max_rules, max_text, max_fields}
use Rattle.model.specs.Names.{is_name, is_key, is_plain}
use Rattle.model.specs.Fields.{Fields}
use Rattle.model.specs.Paths.{steps_of, as_steps}
use Rattle.model.specs.RecordText.{Members, tree_of, twice, count, store_members}
use Rattle.model.specs.Refusals.{Result, refused, done, ◌>>=◌, ◌>>◌, refuse◌if◌, ◌or◌}
use Rattle.model.specs.Table.{Table, Line, ended, broken, lines, in_line, read_row, read_rows, read_lines, read_table}
use Rattle.model.specs.Tables.{Binding, User, Rule, Tables, user_named, users_table, environments_table, bound, policy_table}
use Rattle.model.specs.Rights.{is_write, conflict, conflicts_with}
use Rattle.model.specs.Opening.{State, empty_logins, Texts, fault, check_length, from, conflict_from, refuse_at, check_policy, open_tables, quotas, open_record, opened}
use Rattle.model.specs.Claims.{with_record}
use Rattle.model.proofs.Lists.{by_cases, and_both, refused-done, done-same, none-some, if-done, or-done, bind_done, then-done, past-if, past-or, all_append, all_set, any_false, false-any}
use Rattle.model.proofs.Diverge.{Pairs, pairs-last, pairs-all}
use Rattle.model.proofs.Conflict.{conflict-flip, conflict-self}

-- ── What holds above a table and what each of its rows keeps, holds of what is read ──
line-done : {A : Type 0} (n : ℕ) (r : Result ℕ A) (a : A) → in_line n r ≡ done a → r ≡ done a
unfolding in_line
line-done n (refused e) a h = refused-done h
line-done n (done b) a h = cc

module _ {A : Type 0} (t : Table A) (P : A → Type 0)
    (keeps : (val : Bytes → Bytes) (a a₁ : A) → P a → t.row val a ≡ done a₁ → P a₁) where
  row_keeps : (hs : List Bytes) (a a₁ : A) (l : Line) → P a → read_row t hs a l ≡ done a₁ → P a₁
  unfolding read_row
  row_keeps hs a a₁ (broken l) p h = refused-done h
  row_keeps hs a a₁ (ended l) p h = keeps _ a a₁ p (if-done _ _ _ a₁ h).1

  rows-keep : (hs : List Bytes) (n : ℕ) (a a₁ : A) (ls : List Line) → P a → read_rows t hs n a ls ≡ done a₁ → P a₁
  unfolding read_rows
  rows-keep hs n a a₁ [] p h = subst P (done-same h) p
  rows-keep hs n a a₁ (l ∷ ls) p h =
      let (b, e, k) = bind_done _ _ a₁ h in
      rows-keep hs (suc n) b a₁ ls (row_keeps hs a b l p (line-done n _ b e)) k

  lines_keep : (a a₁ : A) (ls : List Line) → P a → read_lines t a ls ≡ done a₁ → P a₁
  unfolding read_lines
  lines_keep a a₁ [] p h = refused-done h
  lines_keep a a₁ (broken l ∷ ls) p h = refused-done h
  lines_keep a a₁ (ended l ∷ ls) p h = rows-keep _ 2 a a₁ ls p (if-done _ _ _ a₁ h).1

  pub table-keeps : (a a₁ : A) (s : Bytes) → read_table t a s ≡ done a₁ → P a → P a₁
  unfolding read_table
  table-keeps a a₁ s h p = lines_keep a a₁ (lines s) p h

-- ── At most m elements, P of each ──
pub record AtMost {A : Type 0} (m : ℕ) (P : A → Type 0) (xs : List A) : Type 0 where
  pub few : length xs ≤ m
  pub each : All P xs

-- one more, where there was room
one_more : {A : Type 0} (m : ℕ) (P : A → Type 0) (xs : List A) (x : A) →
    AtMost m P xs → leb m (length xs) ≡ false → P x → AtMost m P (xs ++ x ∷ [])
one_more m P xs x v room p = record {
  few = omega (arith, leb-false m (length xs) room, length-append xs (x ∷ []));
  each = all_append P xs (x ∷ []) v.each (p, tt);
}

-- ── Users ──
pub record ValidBinding (b : Binding) : Type 0 where
  pub name : is_name b.name ≡ true
  pub value : is_key b.value ≡ true

pub record ValidUser (u : User) : Type 0 where
  pub name : is_name u.name ≡ true
  pub role : is_name u.role ≡ true
  pub key : is_name u.key ≡ true
  pub quota : u.quota ≤ max_quota
  pub environment : AtMost max_bindings ValidBinding u.environment

abbrev pub ValidUsers : List User → Type 0
ValidUsers us = AtMost max_users ValidUser us

number-most : (m n : ℕ) (s : Bytes) → number m s ≡ Some n → n ≤ m
unfolding number
number-most m n s h = by_cases (is_decimal s && leb (worth 0 s) m)
    (λ e. let k : worth 0 s ≡ n = cc (rw e at h) in omega (arith, leb-true (worth 0 s) m (and_both (is_decimal s) _ e).1))
    (λ e. none-some (rw e at h))

user-keeps : (val : Bytes → Bytes) (us us₁ : List User) → ValidUsers us → users_table.row val us ≡ done us₁ → ValidUsers us₁
unfolding users_table
user-keeps val us us₁ v h =
    let (names, h₁) = if-done _ _ _ us₁ h in
    let (q, quota, h₂) = or-done _ _ _ us₁ (if-done _ _ _ us₁ h₁).1 in
    let (room, h₃) = if-done _ _ _ us₁ (if-done _ _ _ us₁ h₂).1 in
    let (two, key) = and_both _ _ (not-false _ names) in
    let (name, role) = and_both _ _ two in
    subst ValidUsers (done-same h₃) (one_more max_users ValidUser us _ v room (record {
      name = name;
      role = role;
      key = key;
      quota = number-most _ _ _ quota;
      environment = record { few = omega arith; each = tt };
    }))

-- what is found is one of them
first-all : {A : Type 0} (P : A → Type 0) (i : ℕ) (p : A → Bool) (f : ℕ × A) (xs : List A) →
    first_from i p xs ≡ Some f → All P xs → P f.1
unfolding first_from
first-all P i p f [] h a = none-some h
first-all {A} P i p f (x ∷ xs) h a = by_cases (p x)
    (λ e. let k : ◌≡◌ {A = ℕ × A} (i, x) f = cc (rw e at h) in subst (λ (g : ℕ × A). P g.1) k a.0)
    (λ e. first-all P (suc i) p f xs (rw e at h) a.1)

plain-name : (n : Bytes) → is_plain n ≡ true → is_name n ≡ true
unfolding is_plain
plain-name n h = (and_both _ _ h).0

bound-valid : (u : User) (b : Binding) → ValidUser u → leb max_bindings (length u.environment) ≡ false → ValidBinding b → ValidUser (bound u b)
unfolding bound
bound-valid u b v room w = record {
  name = v.name;
  role = v.role;
  key = v.key;
  quota = v.quota;
  environment = one_more max_bindings ValidBinding u.environment b v.environment room w;
}

binding-keeps : (val : Bytes → Bytes) (us us₁ : List User) → ValidUsers us → environments_table.row val us ≡ done us₁ → ValidUsers us₁
unfolding environments_table user_named
binding-keeps val us us₁ v h =
    let (names, h₁) = if-done _ _ _ us₁ h in
    let (f, found, h₂) = or-done _ _ _ us₁ h₁ in
    let (room, h₃) = if-done _ _ _ us₁ (if-done _ _ _ us₁ h₂).1 in
    let (two, value) = and_both _ _ (not-false _ names) in
    let name = plain-name (val (text "name")) (and_both (is_name (val (text "user"))) _ two).1 in
    let user = first-all ValidUser 0 _ f us found v.each in
    subst ValidUsers (done-same h₃) (record {
      few = rw length-set v.few;
      each = all_set ValidUser us f.0 _ (bound-valid f.1 _ user room (record { name = name; value = value })) v.each;
    })

-- ── Policy ──
pub record ValidRule (r : Rule) : Type 0 where
  pub role : is_name r.role ≡ true
  pub read : (s : Bytes) × (steps_of s ≡ Some r.path)

abbrev pub ValidRules : List Rule → Type 0
ValidRules rs = AtMost max_rules ValidRule rs

rule-keeps : (val : Bytes → Bytes) (rs rs₁ : List Rule) → ValidRules rs → policy_table.row val rs ≡ done rs₁ → ValidRules rs₁
unfolding policy_table
rule-keeps val rs rs₁ v h =
    let (role, h₁) = if-done _ _ _ rs₁ h in
    let (a, access, h₂) = or-done _ _ _ rs₁ h₁ in
    let (p, path, h₃) = or-done _ _ _ rs₁ h₂ in
    let (room, h₄) = if-done _ _ _ rs₁ h₃ in
    subst ValidRules (done-same h₄) (one_more max_rules ValidRule rs _ v room (record { role = not-false _ role; read = (_, path) }))

-- ── Conflict ──
-- two WRITE lines are not in conflict
abbrev pub Apart : Rule → Rule → Type 0
Apart r e = is_write r ≡ true → is_write e ≡ true → conflict r.path e.path ≡ false

pub apart-flip : (r e : Rule) → Apart r e → Apart e r
apart-flip r e h k l = conflict-flip e.path r.path ∙ h l k

pub apart-self : (r : Rule) → Apart r r
apart-self r h k = conflict-self r.path

-- a line that is accepted behind others is apart from them
apart_from : (r : Rule) (es : List Rule) → (is_write r ≡ true → All (λ e. conflicts_with r.path e ≡ false) es) → All (λ e. Apart e r) es
unfolding conflicts_with
apart_from r [] h = tt
apart_from r (e ∷ es) h = (λ k l. conflict-flip e.path r.path ∙ rw k at (h l).0, apart_from r es (λ l. (h l).1))

none_apart : (n : ℕ) (es rs : List Rule) → conflict_from n es rs ≡ None → Pairs Apart es → Pairs Apart (es ++ rs)
unfolding conflict_from
none_apart n es [] h p = rw append-nil p
none_apart n es (r ∷ rs) h p = by_cases (is_write r && any (conflicts_with r.path) es)
    (λ e. none-some (sym (rw e at h)))
    (λ e. rw append_assoc at (none_apart (suc n) (es ++ r ∷ []) rs (rw e at h) (pairs-last Apart es r p (apart_from r es (λ l. any_false _ es (rw l at e))))))

-- ── The tables ──
pub record ValidTables (t : Tables) : Type 0 where
  pub users : ValidUsers t.users
  pub policy : ValidRules t.policy
  pub apart : Pairs Apart t.policy

from-done : {A : Type 0} (n : ℕ) (r : Result (ℕ × ℕ) A) (a : A) → from n r ≡ done a → r ≡ done a
unfolding from
from-done n (refused e) a h = refused-done h
from-done n (done b) a h = cc

policy-done : (o : Option ℕ) → refuse_at o ≡ done tt → o ≡ None
unfolding refuse_at
policy-done None h = refl
policy-done (Some n) h = refused-done h

pub tables-valid : (t : Texts) (ts : Tables) → open_tables t ≡ done ts → ValidTables ts
unfolding open_tables check_policy
tables-valid t ts h =
    let (named, named-read, h₁) = bind_done _ _ ts h in
    let (users, users-read, h₂) = bind_done _ _ ts h₁ in
    let (policy, policy-read, h₃) = bind_done _ _ ts h₂ in
    let (u, checked, h₄) = then-done _ _ ts h₃ in
    let valid = table-keeps users_table ValidUsers user-keeps [] named _ (from-done 1 _ named named-read) (record { few = omega arith; each = tt }) in
    subst ValidTables (done-same h₄) (record {
      users = table-keeps environments_table ValidUsers binding-keeps named users _ (from-done 2 _ users users-read) valid;
      policy = table-keeps policy_table ValidRules rule-keeps [] policy _ (from-done 3 _ policy policy-read) (record { few = omega arith; each = tt });
      apart = none_apart 2 [] policy (policy-done _ checked) tt;
    })

-- of any two lines of the policy, in either order
pub writes_apart : (ts : Tables) → ValidTables ts → All (λ r. All (Apart r) ts.policy) ts.policy
writes_apart ts v = pairs-all Apart apart-self apart-flip ts.policy v.apart

-- ── An accepted opening, text by text ──
pub record OpenedFrom (t : Texts) (s : State) : Type 0 where
  pub users-short : ltb max_text (length t.users_text) ≡ false
  pub environments-short : ltb max_text (length t.environments_text) ≡ false
  pub policy-short : ltb max_text (length t.policy_text) ≡ false
  pub tables : open_tables t ≡ done s.tables
  pub fields : open_record s.tables t.record_text ≡ done s.fields
  pub logins : s.login_states ≡ empty_logins

pub opened-inv : (t : Texts) (s : State) → opened t ≡ done s → OpenedFrom t s
unfolding opened check_length
opened-inv t s h =
    let (short₁, h₁) = if-done _ _ _ s h in
    let (short₂, h₂) = if-done _ _ _ s h₁ in
    let (short₃, h₃) = if-done _ _ _ s h₂ in
    let (short₄, h₄) = if-done _ _ _ s h₃ in
    let (ts, tables, h₅) = bind_done _ _ s h₄ in
    let (fs, fields, h₆) = bind_done _ _ s h₅ in
    subst (OpenedFrom t) (done-same h₆) (record {
      users-short = short₁;
      environments-short = short₂;
      policy-short = short₃;
      tables = tables;
      fields = fields;
      logins = refl;
    })

-- tables that were opened are opened again: with another record text, that alone decides
pub opened_with : (r : Bytes) (t : Texts) (s : State) → OpenedFrom t s → ltb max_text (length r) ≡ false →
    opened (with_record r t) ≡ (open_record s.tables r >>= λ fs. done (record { tables = s.tables; login_states = empty_logins; fields = fs }))
unfolding opened open_tables check_length with_record ◌>>=◌ ◌>>◌ refuse◌if◌
opened_with r t s o short = rw (o.users-short, o.environments-short, o.policy-short, short, o.tables)

-- ── An accepted record ──
pub record RecordFrom (ts : Tables) (s : Bytes) (fs : Fields) : Type 0 where
  pub tree : Members
  pub read : tree_of s ≡ Some tree
  pub once : twice tree ≡ false
  pub fits : count tree + quotas ts.users ≤ max_fields
  pub stored : store_members [] tree [] ≡ fs
  pub apart : All (λ f. any (conflicts_with (as_steps f.path)) ts.policy ≡ false) fs

pub record-inv : (ts : Tables) (s : Bytes) (fs : Fields) → open_record ts s ≡ done fs → RecordFrom ts s fs
unfolding open_record
record-inv ts s fs h =
    past-or _ _ _ fs h λ m read h₁.
    past-if _ _ _ fs h₁ λ once h₂.
    past-if _ _ _ fs h₂ λ fits h₃.
    past-if _ _ _ fs h₃ λ apart h₄.
    subst (RecordFrom ts s) (done-same h₄) (record {
      tree = m;
      read = read;
      once = once;
      fits = omega (arith, ltb-false);
      stored = refl;
      apart = any_false _ _ apart;
    })

pub record-again : (ts : Tables) (s : Bytes) (fs : Fields) → RecordFrom ts s fs → open_record ts s ≡ done fs
unfolding open_record ◌>>=◌ ◌>>◌ refuse◌if◌ ◌or◌
record-again ts s fs r =
    rw (r.read, r.once, le-ltb _ _ r.fits, r.stored, false-any _ fs r.apart)

-- one that is read, and whose fields are too many
pub record-grown : (ts : Tables) (s : Bytes) (m : Members) → tree_of s ≡ Some m → twice m ≡ false → max_fields < count m + quotas ts.users →
    open_record ts s ≡ refused (fault 9 4 0)
unfolding open_record ◌>>=◌ ◌>>◌ refuse◌if◌ ◌or◌
record-grown ts s m read once more = rw (read, once, lt-ltb _ _ more)
