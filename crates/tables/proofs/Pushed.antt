-- Rows of zeros into which a line, a user or a policy line was written: each holds the encoding of what was written, and is read back.
use Prim.Native.Nat.{ℕ, ◌+◌, ◌*◌, ◌-◌, ◌/◌, ◌%◌, ◌≤◌, ◌<◌, min}
use mathlib.Core.Path.{◌≡◌, refl, sym, ap, ◌∙◌}
use mathlib.Core.Bool.{false}
use mathlib.Core.List.{[], ◌∷◌, ◌++◌, append-nil, append_assoc}
use native.Mathlib.Omega.{arith}
use borrow.Author.Tests.{ne_eqb}
use lib.ListN.{length, get_or, take, drop, length-replicate, get_or-append}
use lib.Seq.{take_all, take_at, drop_at, drop-drop, get_or-drop, length-take-le}
use Rattle.rows.specs.Rows.{replaced, written}
use Rattle.rows.proofs.Positions.{over}
use Rattle.rows.proofs.Writing.{written-clipped, take-written}
use Rattle.model.specs.Base.{Bytes, joined}
use Rattle.model.specs.Limits.{max_name, max_key, max_bindings, max_depth}
use Rattle.model.specs.Tables.{Binding, User, Rule}
use Rattle.layout.specs.Layout.{is_empty, name_row, key_row, encode_name, encode_table, Canonical, CanonicalName}
use Rattle.layout.proofs.Named.{Named, named}
use Rattle.layout.proofs.Canonical.{name-encoded, counted-encoded, canonical-none}
use Rattle.layout.proofs.Tight.{zeros, zero-at}
use Rattle.layout.proofs.Used.{table_none}
use Rattle.steps.specs.Steps.{step_row, steps_slot, step_in, steps_in, encode_step, encode_steps, CanonicalSteps}
use Rattle.steps.specs.Environments.{binding_row, bindings_bytes, binding_in, bindings_in, encode_binding, encode_bindings}
use Rattle.tables.specs.Memory.{user_row, rule_row, role_at, key_at, quota_at, lines_at, access_at, path_at, access_in, access_byte, user_in, rule_in}
use Rattle.tables.specs.Memory.{encode_quota, encode_user, encode_rule, CanonicalUser}

-- a text that was written inside, and what stands behind it
written_from : (i : ℕ) (xs l : Bytes) → i + length xs ≤ length l → drop i (written i xs l) ≡ xs ++ drop (i + length xs) l
written_from i xs l h =
    rw (written-clipped i xs l, take_all (length l - i) xs (omega arith))
    (drop_at (take i l) (xs ++ drop (i + length xs) l) i (length-take-le i l (omega arith)))

-- ── A name, cut to its room, and what stands behind it ──
-- a row over which a name was written
abbrev named-over : Bytes → Bytes → Bytes
named-over name old = written 0 (min (length name) (length old - 1) ∷ take (length old - 1) name) old

module _ (w : ℕ) (name : Bytes) where
  abbrev cut : Bytes
  cut = encode_name (1 + w) (take w name)

  -- such a name is read back, and no other bytes mean it
  cut-named : Named w name cut
  cut-named =
      let old = zeros (1 + w) in
      rw (← name-encoded w name old refl refl) (named w name old (length-replicate (1 + w) 0) refl)

  cut-canonical : CanonicalName (1 + w) cut
  cut-canonical = rw cut-named.is

  -- it can be told from what stands behind it
  module _ (rest : Bytes) where
    take-cut : take (1 + w) (cut ++ rest) ≡ cut
    take-cut = take_at cut rest (1 + w) cut-named.long

    drop-cut : drop (1 + w) (cut ++ rest) ≡ rest
    drop-cut = drop_at cut rest (1 + w) cut-named.long

    -- its first byte says that the row is in use
    cut-full : 0 < w → 0 < length name → is_empty (cut ++ rest) ≡ false
    unfolding is_empty
    cut-full room Some =
        let first = get_or-append cut rest 0 0 (omega (arith, cut-named.long)) in
        ne_eqb (get_or (cut ++ rest) 0 0) 0 (λ z. omega (arith, cut-named.first, first))

-- ── An environment line ──
module _ (name value : Bytes) where
  abbrev line : Binding
  line = record { name = take max_name name; value = take max_key value }

  -- a value and a name written into zeros: nothing else is there
  pub binding-put : {old n v : Bytes} → old ≡ zeros binding_row
      → v ≡ named-over value (take key_row (drop name_row old)) → n ≡ named-over name (take name_row (replaced name_row key_row v old))
      → replaced 0 name_row n (replaced name_row key_row v old) ≡ encode_binding line
  unfolding encode_binding
  binding-put {old} {v = v} clean ve ne =
      let ve = name-encoded max_key value (take key_row (drop name_row old)) (rw clean) ve in
      let ne = name-encoded max_name name (take name_row (replaced name_row key_row v old)) (rw clean) ne in
      rw (clean, ve, ne, append-nil)

  -- so the line is read back, and the row is in use
  pub binding-read : binding_in (encode_binding line) ≡ line
  unfolding binding_in encode_binding
  binding-read =
      let rest = cut max_key value in
      rw (take-cut max_name name rest, drop-cut max_name name rest, take_all key_row rest (omega (arith, (cut-named max_key value).long)), (cut-named max_name name).is, (cut-named max_key value).is)

  pub binding-canonical : Canonical encode_binding binding_in (encode_binding line)
  binding-canonical = ap encode_binding (sym binding-read)

  pub binding-full : 0 < length name → is_empty (encode_binding line) ≡ false
  unfolding encode_binding
  binding-full Some = cut-full max_name name (cut max_key value) (omega arith) Some

-- ── A user ──
module _ (name role key : Bytes) (quota : ℕ) where
  abbrev user : User
  user = record { name = take max_name name; role = take max_name role; key = take max_name key; quota = quota; environment = [] }

  -- behind the names: the quota, and no lines
  abbrev numbers : Bytes
  numbers = quota % 256 ∷ quota / 256 ∷ zeros bindings_bytes

  apart : encode_user user ≡ cut max_name name ++ (cut max_name role ++ (cut max_name key ++ numbers))
  unfolding encode_user encode_quota encode_bindings encode_table joined
  apart = simp append_assoc

  -- a quota and three names written into zeros: nothing else is there
  pub user-put : {old s n r k : Bytes} → old ≡ zeros user_row → s ≡ written quota_at (quota % 256 ∷ quota / 256 ∷ []) old
      → let s₁ = replaced key_at name_row k s in
      let s₂ = replaced role_at name_row r s₁ in
      k ≡ named-over key (take name_row (drop key_at s)) → r ≡ named-over role (take name_row (drop role_at s₁)) → n ≡ named-over name (take name_row s₂)
      → replaced 0 name_row n s₂ ≡ encode_user user
  unfolding written
  user-put {s = s} {r = r} {k = k} clean e ke re ne =
      let s₁ = replaced key_at name_row k s in
      let ke = name-encoded max_name key (take name_row (drop key_at s)) (rw (e, clean)) ke in
      let re = name-encoded max_name role (take name_row (drop role_at s₁)) (rw (e, clean)) re in
      let ne = name-encoded max_name name (take name_row (replaced role_at name_row r s₁)) (rw (e, clean)) ne in
      rw (apart, e, clean, ke, re, ne)

  -- what stands from each part on
  behind-name : drop role_at (encode_user user) ≡ cut max_name role ++ (cut max_name key ++ numbers)
  behind-name = rw apart (drop-cut max_name name _)

  behind-role : drop key_at (encode_user user) ≡ cut max_name key ++ numbers
  behind-role = sym (drop-drop name_row role_at (encode_user user)) ∙ rw behind-name (drop-cut max_name role _)

  behind-key : drop quota_at (encode_user user) ≡ numbers
  behind-key = sym (drop-drop name_row key_at (encode_user user)) ∙ rw behind-role (drop-cut max_name key _)

  no_lines : drop lines_at (encode_user user) ≡ zeros bindings_bytes
  no_lines = sym (drop-drop 2 quota_at (encode_user user)) ∙ rw behind-key

  -- so the user is read back, and the row is in use
  pub user-read : user_in (encode_user user) ≡ user
  unfolding user_in bindings_in
  user-read =
      let row = encode_user user in
      let low : get_or row quota_at 0 ≡ quota % 256 = sym (get_or-drop quota_at row 0 0) ∙ rw behind-key in
      let high : get_or row (quota_at + 1) 0 ≡ quota / 256 = sym (get_or-drop quota_at row 1 0) ∙ rw behind-key in
      let both : quota % 256 + 256 * (quota / 256) ≡ quota = omega arith in
      let lines = table_none binding_in binding_row max_bindings (zeros bindings_bytes) (omega arith) (zero-at bindings_bytes 0) in
      rw (low, high, both, no_lines, lines, behind-name, behind-role, apart, take-cut max_name name _, take-cut max_name role _, take-cut max_name key _, (cut-named max_name name).is, (cut-named max_name role).is, (cut-named max_name key).is)

  pub user-canonical : CanonicalUser (encode_user user)
  unfolding encode_quota
  user-canonical = record {
    name = rw (apart, take-cut max_name name _) (cut-canonical max_name name);
    role = rw (behind-name, take-cut max_name role _) (cut-canonical max_name role);
    key = rw (behind-role, take-cut max_name key _) (cut-canonical max_name key);
    quota = rw (behind-key, user-read);
    environment = rw no_lines (canonical-none (Canonical encode_binding binding_in) binding_row max_bindings (omega arith));
  }

  pub user-full : 0 < length name → is_empty (encode_user user) ≡ false
  user-full Some = rw apart (cut-full max_name name _ (omega arith) Some)

-- ── A policy line ──
module _ (role : Bytes) (access : ℕ) (steps : Bytes) where
  abbrev rule : Rule
  rule = record { role = take max_name role; access = access_in access; path = steps_in steps }

  abbrev bytes : Bytes
  bytes = cut max_name role ++ access ∷ steps

  -- an access, steps and a role written into zeros: nothing else is there
  pub rule-put : {old s n : Bytes} → old ≡ zeros rule_row → length steps ≡ steps_slot → s ≡ written access_at (access ∷ steps) old
      → n ≡ named-over role (take name_row s) → replaced 0 name_row n s ≡ bytes
  rule-put {old} {s = s} clean ls e ne =
      let l : length old ≡ rule_row = ap length clean in
      let ne = name-encoded max_name role (take name_row s) (rw (e, take-written name_row access_at (access ∷ steps) old (omega arith), clean)) ne in
      let None = over old (access_at + length (access ∷ steps)) (omega arith) in
      let text : drop access_at (written access_at (access ∷ steps) old) ≡ access ∷ steps = rw (written_from access_at (access ∷ steps) old (omega arith), None) (append-nil (access ∷ steps)) in
      rw (e, ne, text)

  -- so the line is read back, and the row is in use
  pub rule-read : rule_in bytes ≡ rule
  unfolding rule_in
  rule-read =
      let tail = drop-cut max_name role (access ∷ steps) in
      let byte : get_or bytes access_at 0 ≡ access = sym (get_or-drop access_at bytes 0 0) ∙ rw tail in
      let path : drop path_at bytes ≡ steps = sym (drop-drop 1 access_at bytes) ∙ rw tail in
      rw (take-cut max_name role (access ∷ steps), byte, path, (cut-named max_name role).is)

  -- where the access is a byte of one and the steps are written as their meaning is, so is the row
  pub rule-canonical : CanonicalSteps steps → access ≡ access_byte (access_in access) → Canonical encode_rule rule_in bytes
  unfolding encode_rule encode_steps steps_in
  rule-canonical s a = rw (rule-read, ← a, ← counted-encoded encode_step step_in step_row max_depth steps s)

  pub rule-full : 0 < length role → is_empty bytes ≡ false
  rule-full Some = cut-full max_name role (access ∷ steps) (omega arith) Some
