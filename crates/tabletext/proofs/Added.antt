-- What a line adds to a table, or the number of its refusal, from what its tests found.
use Prim.Native.Nat.{ℕ, suc, ◌≤◌, ◌<◌}
use mathlib.Core.Path.{◌≡◌, refl, sym, ◌∙◌}
use Rattle.std.specs.Prelude.{Option, None, Some}
use Rattle.std.specs.Option.{option_map}
use mathlib.Core.Bool.{Bool, true, false, ◌&&◌}
use mathlib.Core.List.{List, [], ◌∷◌, ◌++◌}
use borrow.Author.Tests.{le-leb, lt-leb}
use lib.ListN.{length, take, set}
use lib.Seq.{take_all}
use Rattle.model.specs.Base.{Bytes, text, any, first_from, is_some, ◌≐◌, number}
use Rattle.model.specs.Limits.{max_key, max_name, max_users, max_quota, max_bindings, max_rules}
use Rattle.model.specs.Names.{is_name, is_key, is_plain}
use Rattle.model.specs.Paths.{Steps, steps_of}
use Rattle.model.specs.Refusals.{Result, refused, done, ◌>>=◌, ◌>>◌, refuse◌if◌, ◌or◌}
use Rattle.model.specs.Tables.{Binding, User, Access, Rule, user_named, every_role, users_table, same_binding, bound, environments_table, access_of, policy_table}
use Rattle.model.proofs.Lists.{by_cases, and_both}
use Rattle.model.proofs.Spelling.{Named, name-named, key-named}
use Rattle.layout.specs.Layout.{in_use}
use Rattle.tables.specs.Memory.{user_row, rule_row, user_in, users_in, access_is, access_in, access_byte, rule_in, policy_in}
use Rattle.layout.proofs.Used.{length-table}
use Rattle.refusals.specs.Numbers.{bare}
use Rattle.tables.specs.declared.memory.Access as code
use Rattle.tables.specs.declared.memory.Access.TheVariants as kind
use Rattle.tabletext.specs.Reading.{kept_or}
use Rattle.tabletext.proofs.Standing.{one_more}

-- ── A test that was called: it failed, or it was passed ──
pub failed : {a b : Bool} → b ≡ a → b ≡ false → a ≡ false
failed h e = sym h ∙ e

pub passed : {a b : Bool} → b ≡ a → b ≡ true → a ≡ true
passed h e = sym h ∙ e

-- ── A line's outcome, and what the code says of it: where it is refused, what was so stays so ──
pub refuses : {A : Type 0} (a : A) {x : Result ℕ A} {e : ℕ} → x ≡ refused e → (refused e ≡ bare x) × (a ≡ kept_or a x)
unfolding kept_or
refuses a h = rw h (refl, refl)

-- ── Names: none is empty, and none is cut ──
pub plain-named : (n : Bytes) → is_plain n ≡ true → Named max_name n
unfolding is_plain
plain-named n h = name-named n (and_both _ _ h).0

whole : {w : ℕ} {n : Bytes} → Named w n → take w n ≡ n
whole {w} {n} h = take_all w n h.high

-- ── Users ──
pub users-counted : (s : Bytes) {m : ℕ} → m ≡ length (in_use user_row max_users s) → m ≡ length (users_in s)
unfolding users_in
users-counted s h = h ∙ sym (length-table user_in user_row max_users s)

-- an element passes where a first one that passes is found
any-first : {A : Type 0} (p : A → Bool) (i : ℕ) (xs : List A) → any p xs ≡ is_some (first_from i p xs)
unfolding any first_from is_some
any-first p i [] = refl
any-first p i (x ∷ xs) = by_cases (p x) (λ e. rw e) (λ e. rw e (any-first p (suc i) xs))

-- whether the line's user, role and key are names
abbrev pub user_names : (Bytes → Bytes) → Bool
user_names val = is_name (val (text "user")) && is_name (val (text "role")) && is_name (val (text "key"))

module _ (val : Bytes → Bytes) (us : List User) where
  pub user-unnamed : user_names val ≡ false → users_table.row val us ≡ refused 2
  unfolding users_table ◌>>◌ refuse◌if◌
  user-unnamed h = rw h

  module _ (names : user_names val ≡ true) where
    pub user-every : (val (text "role") ≐ every_role) ≡ true → users_table.row val us ≡ refused 2
    unfolding users_table ◌>>◌ refuse◌if◌
    user-every h = rw (names, h)

    module _ (one : (val (text "role") ≐ every_role) ≡ false) where
      pub user-bad : number max_quota (val (text "allowance")) ≡ None → users_table.row val us ≡ refused 2
      unfolding users_table ◌>>◌ ◌>>=◌ refuse◌if◌ ◌or◌
      user-bad h = rw (names, one, h)

      module _ {quota : ℕ} (q : number max_quota (val (text "allowance")) ≡ Some quota) where
        pub user-doubled : {t : ℕ × User} → user_named (val (text "user")) us ≡ Some t → users_table.row val us ≡ refused 6
        unfolding users_table ◌>>◌ ◌>>=◌ refuse◌if◌ ◌or◌ user_named is_some
        user-doubled h = rw (names, one, q, any-first _ 0 us, h)

        -- there are m users
        module _ (new : user_named (val (text "user")) us ≡ None) {m : ℕ} (counted : m ≡ length us) where
          pub user-full : max_users ≤ m → users_table.row val us ≡ refused 4
          unfolding users_table ◌>>◌ ◌>>=◌ refuse◌if◌ ◌or◌ user_named is_some
          user-full h = rw (names, one, q, any-first _ 0 us, new, ← counted, le-leb max_users m h)

          -- the user that was pushed is the line's
          pub user-added : {name role key : Bytes} {vs : List User}
              → m < max_users → name ≡ val (text "user") → role ≡ val (text "role") → key ≡ val (text "key")
              → vs ≡ take max_users (us ++ record { name = take max_name name; role = take max_name role; key = take max_name key; quota = quota; environment = [] } ∷ [])
              → (done tt ≡ bare (users_table.row val us)) × (vs ≡ kept_or us (users_table.row val us))
          unfolding users_table ◌>>◌ ◌>>=◌ refuse◌if◌ ◌or◌ user_named is_some kept_or
          user-added h n r k e =
              let (two, key) = and_both _ _ names in
              let (name, role) = and_both _ _ two in
              rw (names, one, q, any-first _ 0 us, new, ← counted, lt-leb max_users m h)
              (refl, rw (e, one_more max_users us _ counted h, n, r, k, whole (name-named _ name), whole (name-named _ role), whole (name-named _ key)))

-- ── Environment lines ──
module _ (val : Bytes → Bytes) where
  -- whether the line's user is a name, its name plain, and its value a key
  abbrev pub binding_names : Bool
  binding_names = is_name (val (text "user")) && is_plain (val (text "name")) && is_key (val (text "value"))

  abbrev pub new_binding : Binding
  new_binding = record { name = val (text "name"); value = val (text "value") }

module _ (val : Bytes → Bytes) (us : List User) where
  pub binding-unnamed : binding_names val ≡ false → environments_table.row val us ≡ refused 2
  unfolding environments_table ◌>>◌ refuse◌if◌
  binding-unnamed h = rw h

  module _ (names : binding_names val ≡ true) where
    pub binding-lost : user_named (val (text "user")) us ≡ None → environments_table.row val us ≡ refused 7
    unfolding environments_table ◌>>◌ ◌>>=◌ refuse◌if◌ ◌or◌
    binding-lost h = rw (names, h)

    module _ {i : ℕ} {u : User} (found : user_named (val (text "user")) us ≡ Some (i, u)) where
      pub binding-doubled : any (same_binding (new_binding val)) u.environment ≡ true → environments_table.row val us ≡ refused 6
      unfolding environments_table ◌>>◌ ◌>>=◌ refuse◌if◌ ◌or◌
      binding-doubled h = rw (names, found, h)

      -- there are m lines
      module _ (new : any (same_binding (new_binding val)) u.environment ≡ false) {m : ℕ} (counted : m ≡ length u.environment) where
        pub binding-full : max_bindings ≤ m → environments_table.row val us ≡ refused 4
        unfolding environments_table ◌>>◌ ◌>>=◌ refuse◌if◌ ◌or◌
        binding-full h = rw (names, found, new, ← counted, le-leb max_bindings m h)

        -- the line that was pushed is this one
        pub binding-added : {name value : Bytes} {vs : List User} → m < max_bindings → name ≡ val (text "name") → value ≡ val (text "value")
            → vs ≡ set us i (bound u (record { name = take max_name name; value = take max_key value }))
            → (done tt ≡ bare (environments_table.row val us)) × (vs ≡ kept_or us (environments_table.row val us))
        unfolding environments_table ◌>>◌ ◌>>=◌ refuse◌if◌ ◌or◌ kept_or
        binding-added h n v e =
            let (two, value) = and_both _ _ names in
            let name = (and_both (is_name (val (text "user"))) _ two).1 in
            rw (names, found, new, ← counted, lt-leb max_bindings m h) (refl, rw (e, n, v, whole (plain-named _ name), whole (key-named _ value)))

-- ── Policy ──
-- what an answer says of an access
module _ {m n : Bytes} (is : m ≡ n) {r : Option code.Access} (h : option_map access_is r ≡ access_of m) where
  pub access-told : {o : Option code.Access} → r ≡ o → access_of n ≡ option_map access_is o
  access-told e = rw (← is, ← h, e)

-- its byte says which it is
pub access-byte : (a : code.Access) → access_in (access_byte (access_is a)) ≡ access_is a
access-byte kind.Read = refl
access-byte kind.Write = refl

pub rules-counted : (s : Bytes) {m : ℕ} → m ≡ length (in_use rule_row max_rules s) → m ≡ length (policy_in s)
unfolding policy_in
rules-counted s h = h ∙ sym (length-table rule_in rule_row max_rules s)

module _ (val : Bytes → Bytes) (rs : List Rule) where
  pub rule-unnamed : is_name (val (text "role")) ≡ false → policy_table.row val rs ≡ refused 2
  unfolding policy_table ◌>>◌ refuse◌if◌
  rule-unnamed h = rw h

  module _ (role : is_name (val (text "role")) ≡ true) where
    pub rule-bad : access_of (val (text "access")) ≡ None → policy_table.row val rs ≡ refused 2
    unfolding policy_table ◌>>◌ ◌>>=◌ refuse◌if◌ ◌or◌
    rule-bad h = rw (role, h)

    module _ {a : Access} (access : access_of (val (text "access")) ≡ Some a) where
      pub rule-unread : steps_of (val (text "path")) ≡ None → policy_table.row val rs ≡ refused 3
      unfolding policy_table ◌>>◌ ◌>>=◌ refuse◌if◌ ◌or◌
      rule-unread h = rw (role, access, h)

      -- there are m lines
      module _ {p : Steps} (path : steps_of (val (text "path")) ≡ Some p) {m : ℕ} (counted : m ≡ length rs) where
        pub rule-full : max_rules ≤ m → policy_table.row val rs ≡ refused 4
        unfolding policy_table ◌>>◌ ◌>>=◌ refuse◌if◌ ◌or◌
        rule-full h = rw (role, access, path, ← counted, le-leb max_rules m h)

        -- the line that was pushed is this one
        pub rule-added : {name : Bytes} {vs : List Rule} → m < max_rules → name ≡ val (text "role")
            → vs ≡ take max_rules (rs ++ record { role = take max_name name; access = a; path = p } ∷ [])
            → (done tt ≡ bare (policy_table.row val rs)) × (vs ≡ kept_or rs (policy_table.row val rs))
        unfolding policy_table ◌>>◌ ◌>>=◌ refuse◌if◌ ◌or◌ kept_or
        rule-added h n e =
            rw (role, access, path, ← counted, lt-leb max_rules m h) (refl, rw (e, one_more max_rules rs _ counted h, n, whole (name-named _ role)))
