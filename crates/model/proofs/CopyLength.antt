-- How long a copy is at most, from the limits of the tables.
use Prim.Native.Nat.{ℕ, suc, ◌+◌, ◌*◌, ◌≤◌}
use mathlib.Core.Path.{◌≡◌}
use Rattle.std.specs.Prelude.{Some}
use mathlib.Core.List.{List, [], ◌∷◌, map}
use lib.ListN.{length, length-append}
use native.Mathlib.Nat.{mul-suc}
use native.Mathlib.Omega.{arith}
use Rattle.model.specs.Base.{text, keep, joined, between, All}
use Rattle.model.specs.Limits.{max_name, max_key, max_path_text, max_fields, max_copy}
use Rattle.model.specs.Fields.{Fields}
use Rattle.model.specs.SavedText.{saved}
use Rattle.model.specs.Tables.{Binding, User, Access, READ, WRITE, Rule, Tables, user_at}
use Rattle.model.specs.Rights.{is_for}
use Rattle.model.specs.Serving.{access_text, table_line, rule_line, binding_line, copy_of}
use Rattle.model.proofs.Lists.{all-imp, all_keep, all-elem, length-keep-le}
use Rattle.model.proofs.Spelling.{name-named, key-named, steps-length}
use Rattle.model.proofs.SavedLength.{saved_field}
use Rattle.model.proofs.TablesRead.{ValidBinding, ValidUser, ValidRule, ValidTables}

-- ── Joining ──
pub joined_length : {A B : Type 0} (f : A → List B) (k : ℕ) (xs : List A) →
    All (λ x. length (f x) ≤ k) xs → length (joined (map f xs)) ≤ k * length xs
unfolding joined
joined_length f k [] h = omega arith
joined_length f k (x ∷ xs) h =
    omega (arith, h.0, joined_length f k xs h.1, length-append (f x) (joined (map f xs)), mul-suc k (length xs))

-- ── Lines ──
access-length : (a : Access) → length (access_text a) ≤ 5
unfolding access_text text
access-length READ = omega arith
access-length WRITE = omega arith

-- the role, the access and the path, with `;` between and 0A
abbrev rule_text : ℕ
rule_text = max_name + 1 + 5 + 1 + max_path_text + 1

-- the name and the value
abbrev binding_text : ℕ
binding_text = max_name + 1 + max_key + 1

-- any record
abbrev pub saved_text : ℕ
saved_text = suc saved_field * max_fields

rule-length : (u : User) (r : Rule) → ValidUser u → ValidRule r → length (rule_line u r) ≤ rule_text
unfolding rule_line table_line between text
rule-length u r v w = simp length-append (omega (
  arith,
  (name-named u.role v.role).high,
  access-length r.access,
  steps-length w.read.0 r.path w.read.1,
))

binding-length : (b : Binding) → ValidBinding b → length (binding_line b) ≤ binding_text
unfolding binding_line table_line between text
binding-length b v = simp length-append (omega (arith, (name-named b.name v.name).high, (key-named b.value v.value).high))

-- ── The copy ──
-- the two heads, all lines, any record, and 0A
pub copy-length : (ts : Tables) (i : ℕ) (u : User) (gs : Fields) → ValidTables ts → user_at ts.users i ≡ Some u →
    length (saved gs) ≤ saved_text → length (copy_of ts.policy u gs) ≤ max_copy
unfolding copy_of user_at table_line between text joined
copy-length ts i u gs v e k =
    let w = all-elem ValidUser ts.users i u e v.users.each in
    let rs = keep (is_for u) ts.policy in
    let rules = all-imp ValidRule _ (λ r. rule-length u r w) rs (all_keep ValidRule (is_for u) ts.policy v.policy.each) in
    let bindings = all-imp ValidBinding _ binding-length u.environment w.environment.each in
    simp length-append (omega (
      arith,
      v.policy.few,
      w.environment.few,
      length-keep-le (is_for u) ts.policy,
      joined_length (rule_line u) rule_text rs rules,
      joined_length binding_line binding_text u.environment bindings,
    ))
