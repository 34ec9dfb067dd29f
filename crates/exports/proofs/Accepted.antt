-- No refusal of an opening has the number 0, which says that it was accepted.
use Prim.Native.Nat.{ℕ, suc, ◌<◌}
use mathlib.Core.Path.{◌≡◌, refl, sym, ◌∙◌}
use mathlib.Core.Bool.{Bool, true, false}
use Rattle.std.specs.Prelude.{Option, None, Some}
use mathlib.Core.List.{List, [], ◌∷◌}
use native.Mathlib.Omega.{arith}
use Rattle.model.specs.Base.{Bytes}
use Rattle.model.specs.Refusals.{Result, refused, done, ◌>>=◌, ◌>>◌, refuse◌if◌, ◌or◌}
use Rattle.model.specs.Table.{Table, Line, ended, broken, lines, split, in_line, read_row, read_rows, read_lines, read_table}
use Rattle.model.specs.Tables.{User, Rule, Tables, users_table, environments_table, policy_table}
use Rattle.model.specs.Opening.{Fault, Texts, State, fault, from, check_length, conflict_from, refuse_at, check_policy, open_tables, open_record, opened}
use Rattle.exports.specs.Numbers.{fault_number}

-- what is refused has a number above 0
abbrev pub ByNumber : {E A : Type 0} → (E → ℕ) → Result E A → Type 0
ByNumber number (refused e) = 0 < number e
ByNumber number (done a) = Unit {0}

module _ {E : Type 0} (number : E → ℕ) where
  bound : {A B : Type 0} (x : Result E A) (f : A → Result E B) → ByNumber number x → ((a : A) → ByNumber number (f a)) → ByNumber number (x >>= f)
  unfolding ◌>>=◌
  bound (refused e) f h k = h
  bound (done a) f h k = k a

  next : {A B : Type 0} (x : Result E A) (y : Result E B) → ByNumber number x → ByNumber number y → ByNumber number (x >> y)
  unfolding ◌>>◌
  next (refused e) y h k = h
  next (done a) y h k = k

  refusal : (e : E) (b : Bool) → 0 < number e → ByNumber number (refuse e if b)
  unfolding refuse◌if◌
  refusal e true h = h
  refusal e false h = tt

  missing : {A : Type 0} (o : Option A) (e : E) → 0 < number e → ByNumber number (o or e)
  unfolding ◌or◌
  missing None e h = h
  missing (Some a) e h = tt

-- ── A table ──
abbrev first : ℕ × ℕ → ℕ
first p = p.0

abbrev itself : ℕ → ℕ
itself n = n

in-line : {A : Type 0} (n : ℕ) (x : Result ℕ A) → ByNumber itself x → ByNumber first (in_line n x)
unfolding in_line
in-line n (refused e) h = h
in-line n (done a) h = tt

in-text : {A : Type 0} (n : ℕ) (x : Result (ℕ × ℕ) A) → ByNumber first x → ByNumber (λ f. f.number) (from n x)
unfolding from fault
in-text n (refused e) h = h
in-text n (done a) h = tt

module _ {A : Type 0} (t : Table A) (rows : (val : Bytes → Bytes) (a : A) → ByNumber itself (t.row val a)) where
  row-numbered : (hs : List Bytes) (a : A) (l : Line) → ByNumber itself (read_row t hs a l)
  unfolding read_row
  row-numbered hs a (broken l) = omega arith
  row-numbered hs a (ended l) = next itself _ _ (refusal itself 2 _ (omega arith)) (rows _ a)

  rows-numbered : (hs : List Bytes) (n : ℕ) (a : A) (ls : List Line) → ByNumber first (read_rows t hs n a ls)
  unfolding read_rows
  rows-numbered hs n a [] = tt
  rows-numbered hs n a (l ∷ ls) = bound first _ _ (in-line n _ (row-numbered hs a l)) (λ b. rows-numbered hs (suc n) b ls)

  lines-numbered : (a : A) (ls : List Line) → ByNumber first (read_lines t a ls)
  unfolding read_lines
  lines-numbered a [] = omega arith
  lines-numbered a (broken h ∷ ls) = omega arith
  lines-numbered a (ended h ∷ ls) = next first _ _ (refusal first (1, 0) _ (omega arith)) (rows-numbered (split h) 2 a ls)

  table-numbered : (a : A) (s : Bytes) → ByNumber first (read_table t a s)
  unfolding read_table
  table-numbered a s = lines-numbered a (lines s)

user-numbered : (val : Bytes → Bytes) (us : List User) → ByNumber itself (users_table.row val us)
unfolding users_table
user-numbered val us =
    next itself _ _ (refusal itself 2 _ (omega arith))
    (next itself _ _ (refusal itself 2 _ (omega arith))
    (bound itself _ _ (missing itself _ 2 (omega arith)) (λ quota.
    next itself _ _ (refusal itself 6 _ (omega arith))
    (next itself _ _ (refusal itself 4 _ (omega arith)) tt))))

binding-numbered : (val : Bytes → Bytes) (us : List User) → ByNumber itself (environments_table.row val us)
unfolding environments_table
binding-numbered val us =
    next itself _ _ (refusal itself 2 _ (omega arith))
    (bound itself _ _ (missing itself _ 7 (omega arith)) (λ u.
    next itself _ _ (refusal itself 6 _ (omega arith))
    (next itself _ _ (refusal itself 4 _ (omega arith)) tt)))

rule-numbered : (val : Bytes → Bytes) (rs : List Rule) → ByNumber itself (policy_table.row val rs)
unfolding policy_table
rule-numbered val rs =
    next itself _ _ (refusal itself 2 _ (omega arith))
    (bound itself _ _ (missing itself _ 2 (omega arith)) (λ access.
    bound itself _ _ (missing itself _ 3 (omega arith)) (λ path.
    next itself _ _ (refusal itself 4 _ (omega arith)) tt)))

-- ── The four texts ──
abbrev number_in : Fault → ℕ
number_in f = f.number

policy-numbered : (rs : List Rule) → ByNumber number_in (check_policy rs)
unfolding check_policy refuse_at fault
policy-numbered rs = go (conflict_from 2 [] rs)
  where
    go : (o : Option ℕ) → ByNumber number_in (refuse_at o)
    go None = tt
    go (Some n) = omega arith

tables-numbered : (t : Texts) → ByNumber number_in (open_tables t)
unfolding open_tables
tables-numbered t =
    bound number_in _ _ (in-text 1 _ (table-numbered users_table user-numbered [] _)) (λ named.
    bound number_in _ _ (in-text 2 _ (table-numbered environments_table binding-numbered named _)) (λ users.
    bound number_in _ _ (in-text 3 _ (table-numbered policy_table rule-numbered [] _)) (λ policy.
    next number_in _ _ (policy-numbered policy) tt)))

record-numbered : (t : Tables) (s : Bytes) → ByNumber number_in (open_record t s)
unfolding open_record fault
record-numbered t s =
    bound number_in _ _ (missing number_in _ _ (omega arith)) (λ m.
    next number_in _ _ (refusal number_in _ _ (omega arith))
    (next number_in _ _ (refusal number_in _ _ (omega arith))
    (next number_in _ _ (refusal number_in _ _ (omega arith)) tt)))

length-numbered : (n : ℕ) (s : Bytes) → ByNumber number_in (check_length n s)
unfolding check_length fault
length-numbered n s = refusal number_in _ _ (omega arith)

pub opened-numbered : (t : Texts) → ByNumber number_in (opened t)
unfolding opened
opened-numbered t =
    next number_in _ _ (length-numbered 1 _)
    (next number_in _ _ (length-numbered 2 _)
    (next number_in _ _ (length-numbered 3 _)
    (next number_in _ _ (length-numbered 4 _)
    (bound number_in _ _ (tables-numbered t) (λ tables.
    bound number_in _ _ (record-numbered tables _) (λ fields. tt))))))

-- so where the number is 0 the opening was accepted
pub zero-accepted : (t : Texts) {n : ℕ} → n ≡ fault_number (opened t) → n ≡ 0 → (s : State) × (opened t ≡ done s)
unfolding fault_number
zero-accepted t is empty = go (opened t) (opened-numbered t) (sym is ∙ empty)
  where
    go : (o : Result Fault State) → ByNumber number_in o → fault_number o ≡ 0 → (s : State) × (o ≡ done s)
    go (refused f) h z = absurd (omega arith)
    go (done s) h z = (s, refl)
