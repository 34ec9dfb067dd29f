-- Three tables' texts opened in one memory: the readings, one after the other, and a conflict decide, in the order of the definition.
use Prim.Native.Nat.{ℕ, suc}
use mathlib.Core.Path.{◌≡◌, refl, sym, ap, ◌∙◌}
use Rattle.std.specs.Prelude.{Option, None, Some}
use mathlib.Core.List.{List, [], ◌∷◌}
use native.Mathlib.Omega.{arith}
use borrow.Author.Tests.{not-false}
use lib.ListN.{drop}
use Rattle.model.specs.Base.{Bytes}
use Rattle.model.specs.Refusals.{Result, refused, done, ◌>>=◌, ◌>>◌}
use Rattle.model.specs.Table.{Table, Line, ended, broken, lines, split, in_line, is_head, read_row, read_rows, read_lines, read_table}
use Rattle.model.specs.Tables.{User, Rule, Tables}
use Rattle.model.specs.Opening.{Fault, fault, from, conflict_from, refuse_at, check_policy, open_tables}
use Rattle.model.proofs.Lists.{refused-done, done-same, if-done}
use Rattle.tables.specs.Memory.{users_bytes, policy_in, tables_in}
use Rattle.tabletext.specs.Reading.{in_users, in_policy, table_of, in_line_of, if_done, rows_as_far, lines_as_far, tables_as_far, ReadsTable}
use Rattle.tabletext.specs.declared.read.Table.TheVariants.{Users, Environments, Policy}
use Rattle.tabletext.specs.declared.read.TableFault.{TableFault}
use Rattle.std.specs.Prelude as std
use Rattle.std.specs.Prelude.{Ok, Err}
use Rattle.refusals.specs.Numbers.{answer_by, bare}
use Rattle.opening.specs.declared.answer.Fault as code
use Rattle.opening.specs.Answers.{texts_of, fault_of}

-- ── A text read to its end: what its lines added is what was read ──
module _ {A : Type 0} (t : Table A) where
  rows-far : (hs : List Bytes) (n : ℕ) (a b : A) (ls : List Line) → read_rows t hs n a ls ≡ done b → b ≡ rows_as_far t hs a ls
  unfolding read_rows rows_as_far in_line if_done ◌>>=◌
  rows-far hs n a b [] h = sym (done-same h)
  rows-far hs n a b (l ∷ ls) h = go (read_row t hs a l) h (λ c. rows-far hs (suc n) c b ls)
    where
      go : (q : Result ℕ A) → (in_line n q >>= λ c. read_rows t hs (suc n) c ls) ≡ done b
          → ((c : A) → read_rows t hs (suc n) c ls ≡ done b → b ≡ rows_as_far t hs c ls) → b ≡ if_done a (λ c. rows_as_far t hs c ls) q
      go (refused e) k f = refused-done k
      go (done c) k f = f c k

  lines-far : (a b : A) (ls : List Line) → read_lines t a ls ≡ done b → b ≡ lines_as_far t a ls
  unfolding read_lines lines_as_far
  lines-far a b [] h = refused-done h
  lines-far a b (broken l ∷ ls) h = refused-done h
  lines-far a b (ended l ∷ ls) h =
      let (head, rest) = if-done _ _ _ b h in
      rw (not-false (is_head t (split l)) head) (rows-far (split l) 2 a b ls rest)

  -- the result that an answer tells, which is that of the text k
  module _ (a b : A) (s : Bytes) (r : std.Result (Unit {0}) TableFault) (answered : ReadsTable t a s r b)
      (k : ℕ) (q : std.Result (Unit {0}) code.Fault) (told : answer_by fault_of q ≡ from k (answer_by in_line_of r)) where
    told-is : answer_by fault_of q ≡ from k (bare (read_table t a s))
    told-is = told ∙ ap (from k) answered.0

    read_done : q ≡ Ok tt → read_table t a s ≡ done b
    unfolding read_table tables_as_far from
    read_done is = go (read_table t a s) refl (ap (answer_by fault_of) (sym is) ∙ told-is)
      where
        go : (q : Result (ℕ × ℕ) A) → read_table t a s ≡ q → done tt ≡ from k (bare q) → q ≡ done b
        go (refused e) i h = refused-done (sym h)
        go (done c) i h = ap done (lines-far a c (lines s) i ∙ sym answered.1)

    read-refused : {f : code.Fault} → q ≡ Err f → from k (read_table t a s) ≡ refused (fault_of f)
    unfolding from
    read-refused {f} is = go (read_table t a s) (ap (answer_by fault_of) (sym is) ∙ told-is)
      where
        go : (q : Result (ℕ × ℕ) A) → refused (fault_of f) ≡ from k (bare q) → from k q ≡ refused (fault_of f)
        go (refused d) h = cc
        go (done c) h = refused-done h

-- ── A table u that reads into a whole what the table t reads by itself ──
then-in : {E A B C : Type 0} (c : Result E C) (x : Result E A) (g : A → Result E B) → (c >> (x >>= g)) ≡ ((c >> x) >>= g)
unfolding ◌>>=◌ ◌>>◌
then-in (refused e) x g = refl
then-in (done a) x g = refl

module _ {A B : Type 0} (f : A → B) (t : Table A) (u : Table B) (columns : u.columns ≡ t.columns)
    (rows : (val : Bytes → Bytes) (a : A) → u.row val (f a) ≡ (t.row val a >>= λ b. done (f b))) where
  row_in : (hs : List Bytes) (a : A) (l : Line) → read_row u hs (f a) l ≡ (read_row t hs a l >>= λ b. done (f b))
  unfolding read_row ◌>>=◌
  row_in hs a (broken l) = refl
  row_in hs a (ended l) = rw rows (then-in _ _ _)

  rows_in : (hs : List Bytes) (n : ℕ) (a : A) (ls : List Line) → read_rows u hs n (f a) ls ≡ (read_rows t hs n a ls >>= λ b. done (f b))
  unfolding read_rows in_line ◌>>=◌
  rows_in hs n a [] = refl
  rows_in hs n a (l ∷ ls) = rw (row_in hs a l) (go (read_row t hs a l) (λ b. rows_in hs (suc n) b ls))
    where
      go : (q : Result ℕ A) → ((b : A) → read_rows u hs (suc n) (f b) ls ≡ (read_rows t hs (suc n) b ls >>= λ c. done (f c)))
          → (in_line n (q >>= λ b. done (f b)) >>= λ b. read_rows u hs (suc n) b ls)
          ≡ ((in_line n q >>= λ b. read_rows t hs (suc n) b ls) >>= λ c. done (f c))
      go (refused e) k = refl
      go (done b) k = k b

  head_in : (hs : List Bytes) → is_head u hs ≡ is_head t hs
  unfolding is_head
  head_in hs = rw columns

  lines-in : (a : A) (ls : List Line) → read_lines u (f a) ls ≡ (read_lines t a ls >>= λ b. done (f b))
  unfolding read_lines ◌>>=◌
  lines-in a [] = refl
  lines-in a (broken l ∷ ls) = refl
  lines-in a (ended l ∷ ls) = rw (head_in (split l), rows_in (split l) 2 a ls) (then-in _ _ _)

  -- what follows the reading of the one follows the reading of the other
  table-in : (k : ℕ) (a : A) (s : Bytes) {C : Type 0} (F : A → Result Fault C) (G : B → Result Fault C) → ((b : A) → F b ≡ G (f b))
      → (from k (read_table t a s) >>= F) ≡ (from k (read_table u (f a) s) >>= G)
  unfolding read_table from ◌>>=◌
  table-in k a s {C} F G h = rw (lines-in a (lines s)) (go (read_lines t a (lines s)))
    where
      go : (q : Result (ℕ × ℕ) A) → (from k q >>= F) ≡ (from k (q >>= λ b. done (f b)) >>= G)
      go (refused e) = refl
      go (done b) = h b

-- ── A policy that was read: a conflict in it decides ──
module _ (rs : List Rule) where
  policy-conflict : {n : ℕ} → conflict_from 2 [] rs ≡ Some n → check_policy rs ≡ refused (fault 5 3 n)
  unfolding check_policy refuse_at
  policy-conflict e = rw e

  policy-free : conflict_from 2 [] rs ≡ None → check_policy rs ≡ done tt
  unfolding check_policy refuse_at
  policy-free e = rw e

-- ── A memory without users and policy ──
abbrev pub no_tables : Tables
no_tables = record { users = []; policy = [] }

-- ── The three readings, each in both tables ──
module _ (users environments policy : Bytes) where
  with_policy : Tables → Result Fault Tables
  with_policy m = from 3 (read_table (table_of Policy) m policy) >>= λ n. check_policy n.policy >> done n

  with_environments : Tables → Result Fault Tables
  with_environments m = from 2 (read_table (table_of Environments) m environments) >>= with_policy

  abbrev opening : Result Fault Tables
  opening = open_tables (texts_of users environments policy [])

  in_both : (m : Tables) → m ≡ no_tables → opening ≡ (from 1 (read_table (table_of Users) m users) >>= with_environments)
  unfolding open_tables texts_of with_environments with_policy in_users in_policy
  in_both m start =
      let whole : List Rule → List User → Tables = λ rs us. record { users = us; policy = rs } in
      rw start
      (table-in (whole []) _ _ refl (λ val us. refl) 1 [] users _ _ (λ us.
      table-in (whole []) _ _ refl (λ val us. refl) 2 us environments _ _ (λ vs.
      table-in (λ rs. whole rs vs) _ _ refl (λ val rs. refl) 3 [] policy _ _ (λ rs. refl))))

  -- from no tables to the tables m₁ with the answer r₁, which is told as q₁: a refusal decides
  module _ {m₀ : Tables} (start : m₀ ≡ no_tables) {m₁ : Tables} (r₁ : std.Result (Unit {0}) TableFault) (first : ReadsTable (table_of Users) m₀ users r₁ m₁)
      (q₁ : std.Result (Unit {0}) code.Fault) (told₁ : answer_by fault_of q₁ ≡ from 1 (answer_by in_line_of r₁)) where
    started : opening ≡ (from 1 (read_table (table_of Users) m₀ users) >>= with_environments)
    started = in_both m₀ start

    pub users-refused : {f : code.Fault} → q₁ ≡ Err f → refused (fault_of f) ≡ opening
    unfolding ◌>>=◌
    users-refused is = sym (started ∙ rw (read-refused _ _ m₁ users r₁ first 1 q₁ told₁ is))

    module _ (done₁ : q₁ ≡ Ok tt) where
      users-done : opening ≡ with_environments m₁
      unfolding from ◌>>=◌
      users-done = started ∙ rw (read_done _ _ m₁ users r₁ first 1 q₁ told₁ done₁)

      -- then to m₂ with the answer r₂
      module _ {m₂ : Tables} (r₂ : std.Result (Unit {0}) TableFault) (second : ReadsTable (table_of Environments) m₁ environments r₂ m₂)
          (q₂ : std.Result (Unit {0}) code.Fault) (told₂ : answer_by fault_of q₂ ≡ from 2 (answer_by in_line_of r₂)) where
        pub environments-refused : {f : code.Fault} → q₂ ≡ Err f → refused (fault_of f) ≡ opening
        unfolding with_environments ◌>>=◌
        environments-refused is = sym (users-done ∙ rw (read-refused _ m₁ m₂ environments r₂ second 2 q₂ told₂ is))

        module _ (done₂ : q₂ ≡ Ok tt) where
          environments-done : opening ≡ with_policy m₂
          unfolding with_environments from ◌>>=◌
          environments-done = users-done ∙ rw (read_done _ m₁ m₂ environments r₂ second 2 q₂ told₂ done₂)

          -- then to the tables in the bytes s with the answer r₃
          module _ (s : Bytes) (r₃ : std.Result (Unit {0}) TableFault) (third : ReadsTable (table_of Policy) m₂ policy r₃ (tables_in s))
              (q₃ : std.Result (Unit {0}) code.Fault) (told₃ : answer_by fault_of q₃ ≡ from 3 (answer_by in_line_of r₃)) where
            pub policy-refused : {f : code.Fault} → q₃ ≡ Err f → refused (fault_of f) ≡ opening
            unfolding with_policy ◌>>=◌
            policy-refused is = sym (environments-done ∙ rw (read-refused _ m₂ (tables_in s) policy r₃ third 3 q₃ told₃ is))

            -- and o is the line of the first conflict in the policy behind the users
            module _ (done₃ : q₃ ≡ Ok tt) {o : Option ℕ} (line : o ≡ conflict_from 2 [] (policy_in (drop users_bytes s))) where
              checked : {q : Result Fault (Unit {0})} → check_policy (policy_in (drop users_bytes s)) ≡ q → (q >> done (tables_in s)) ≡ opening
              unfolding with_policy tables_in from ◌>>=◌
              checked e = sym (environments-done ∙ rw (read_done _ m₂ (tables_in s) policy r₃ third 3 q₃ told₃ done₃, e))

              pub in-conflict : {n : ℕ} → o ≡ Some n → refused (fault 5 3 n) ≡ opening
              unfolding ◌>>◌
              in-conflict is = checked (policy-conflict (policy_in (drop users_bytes s)) (sym line ∙ is))

              pub accepted : o ≡ None → done (tables_in s) ≡ opening
              unfolding ◌>>◌
              accepted is = checked (policy-free (policy_in (drop users_bytes s)) (sym line ∙ is))
