-- The four texts opened: the lengths decide first, then the tables, then the record; a refusal keeps the state.
use Prim.Native.Nat.{ℕ, ◌≤◌}
use mathlib.Core.Path.{◌≡◌, refl, sym, ap, ap₂, ◌∙◌}
use mathlib.Core.List.{[]}
use borrow.Author.Tests.{ltb-false}
use lib.Dec.{ltb}
use lib.ListN.{length}
use Rattle.model.specs.Base.{Bytes}
use Rattle.model.specs.Limits.{max_text}
use Rattle.model.specs.Fields.{Fields}
use Rattle.model.specs.Tables.{Tables}
use Rattle.model.specs.Refusals.{Result, refused, done, ◌>>=◌, refuse◌if◌, Opened}
use Rattle.model.specs.Opening.{State, Texts, Fault, fault, check_length, empty_logins, open_tables, open_record, opened, kept, after_opening}
use Rattle.model.proofs.Lists.{by_cases, refused-done}
use Rattle.layout.proofs.Tight.{zeros}
use Rattle.tables.specs.Memory.{tables_in, CanonicalTables}
use Rattle.tables.proofs.Encoded.{tables-encoded}
use Rattle.masks.specs.Readers.{readers_of, Agreed}
use Rattle.record.specs.Slots.{fields_in, masks_in, CanonicalFields}
use Rattle.record.proofs.Canonical.{fields-encoded}
use Rattle.std.specs.Prelude as std
use Rattle.std.specs.Prelude.{Ok, Err}
use Rattle.refusals.specs.Numbers.{answer_by, bare}
use Rattle.opening.specs.declared.answer.Fault as code
use Rattle.sessions.specs.Logins.{login_numbers}
use Rattle.opening.specs.Memory.{Arrays, arrays, state_in, Agree, encode_opened}
use Rattle.opening.specs.Answers.{texts_of, fault_of, opening_result, arrays_after, Opens}
use Rattle.opening.proofs.Zeros.{no-logins}

-- the state that opened tables and fields make
abbrev pub fresh : Tables → Fields → State
fresh tables fields = record { tables = tables; login_states = empty_logins; fields = fields }

-- a text that is not refused is short enough
short : (t : ℕ) (s : Bytes) → check_length t s ≡ done tt → length s ≤ max_text
unfolding check_length refuse◌if◌
short t s h = by_cases (ltb max_text (length s)) (λ a. let r : refused (fault 10 t 0) ≡ done tt = rw a at h in refused-done r) (λ a. ltb-false _ _ a)

-- a text's length was checked with this answer
abbrev Checks : ℕ → Bytes → std.Result (Unit {0}) code.Fault → Type 0
Checks t s q = answer_by fault_of q ≡ check_length t s

module _ (u e p r : Bytes) where
  -- the first text that is too long decides
  module _ (q₁ : std.Result (Unit {0}) code.Fault) (first : Checks 1 u q₁) where
    pub users-long : {f : code.Fault} → q₁ ≡ Err f → opened (texts_of u e p r) ≡ refused (fault_of f)
    unfolding texts_of opened Opened
    users-long i = rw (← first, i)

    module _ (short₁ : q₁ ≡ Ok tt) (q₂ : std.Result (Unit {0}) code.Fault) (second : Checks 2 e q₂) where
      pub environments-long : {f : code.Fault} → q₂ ≡ Err f → opened (texts_of u e p r) ≡ refused (fault_of f)
      unfolding texts_of opened Opened
      environments-long i = rw (← first, short₁, ← second, i)

      module _ (short₂ : q₂ ≡ Ok tt) (q₃ : std.Result (Unit {0}) code.Fault) (third : Checks 3 p q₃) where
        pub policy-long : {f : code.Fault} → q₃ ≡ Err f → opened (texts_of u e p r) ≡ refused (fault_of f)
        unfolding texts_of opened Opened
        policy-long i = rw (← first, short₁, ← second, short₂, ← third, i)

        module _ (short₃ : q₃ ≡ Ok tt) (q₄ : std.Result (Unit {0}) code.Fault) (fourth : Checks 4 r q₄) where
          pub record-long : {f : code.Fault} → q₄ ≡ Err f → opened (texts_of u e p r) ≡ refused (fault_of f)
          unfolding texts_of opened Opened
          record-long i = rw (← first, short₁, ← second, short₂, ← third, short₃, ← fourth, i)

          -- no text is
          module _ (short₄ : q₄ ≡ Ok tt) where
            pub lengths : (length u ≤ max_text) × (length e ≤ max_text) × (length p ≤ max_text) × (length r ≤ max_text)
            lengths = (
              short 1 u (sym first ∙ ap (answer_by fault_of) short₁),
              short 2 e (sym second ∙ ap (answer_by fault_of) short₂),
              short 3 p (sym third ∙ ap (answer_by fault_of) short₃),
              short 4 r (sym fourth ∙ ap (answer_by fault_of) short₄),
            )

            -- then the tables decide, which do not look at the record, and then the record
            opened-short : opened (texts_of u e p r)
                ≡ (open_tables (texts_of u e p []) >>= λ tables. open_record tables r >>= λ fields. done (fresh tables fields))
            unfolding texts_of opened open_tables Opened
            opened-short = rw (← first, short₁, ← second, short₂, ← third, short₃, ← fourth, short₄)

            module _ (answer : std.Result (Unit {0}) code.Fault) (tables : Tables) (read : opening_result answer tables ≡ open_tables (texts_of u e p [])) where
              pub tables-refused : {f : code.Fault} → answer ≡ Err f → opened (texts_of u e p r) ≡ refused (fault_of f)
              unfolding ◌>>=◌
              tables-refused i = opened-short ∙ rw (← read, i)

              module _ (accepted : answer ≡ Ok tt) (answer₁ : std.Result (Unit {0}) code.Fault) (fields : Fields) (loaded : opening_result answer₁ fields ≡ open_record tables r) where
                pub record-refused : {f : code.Fault} → answer₁ ≡ Err f → opened (texts_of u e p r) ≡ refused (fault_of f)
                unfolding ◌>>=◌
                record-refused i = opened-short ∙ rw (← read, accepted, ← loaded, i)

                pub opened-done : answer₁ ≡ Ok tt → opened (texts_of u e p r) ≡ done (fresh tables fields)
                unfolding ◌>>=◌
                opened-done i = opened-short ∙ rw (← read, accepted, ← loaded, i)

-- what a refusal, handed on as it is, answers and keeps
pub refusal : (texts : Texts) (a : Arrays) {answer : std.Result (Unit {0}) code.Fault} {f g : code.Fault} → answer ≡ Err g → g ≡ f → opened texts ≡ refused (fault_of f)
    → Opens a texts answer a
unfolding after_opening kept fault
refusal texts a i is h = record { answered = rw (i, is, h); state = rw h; bytes = rw h; agrees = λ d. cc }

-- what an accepted opening answers and leaves
pub acceptance : (texts : Texts) (before : Arrays) (tables fields : Bytes) → opened texts ≡ done (fresh (tables_in tables) (fields_in fields))
    → CanonicalTables tables → CanonicalFields fields → Agreed (tables_in tables) (fields_in fields) (masks_in fields) → Opens before texts (Ok tt) (arrays tables (zeros login_numbers) fields)
unfolding after_opening kept state_in encode_opened
acceptance texts before tables fields h t f a =
    let written = tables-encoded tables t in
    let stored = fields-encoded fields (readers_of (tables_in tables)) f a in
    record { answered = rw h; state = rw (h, no-logins); bytes = rw h (ap₂ (λ (x y : Bytes). arrays x (zeros login_numbers) y) written stored); agrees = λ _. a }

-- so the same texts leave the same bytes, whatever the arrays held
pub same_bytes : (texts : Texts) (a b x y : Arrays) → Opens a texts (Ok tt) x → Opens b texts (Ok tt) y → x ≡ y
same_bytes texts a b x y one two = one.bytes ∙ go (opened texts) one.answered ∙ sym two.bytes
  where
    go : (o : Result Fault State) → done tt ≡ bare o → arrays_after a o ≡ arrays_after b o
    go (refused f) e = refused-done (sym e)
    go (done s) e = refl

-- an opening, accepted or refused, leaves masks that agree with the policy where they did
pub opening-agrees : (texts : Texts) (before after : Arrays) (answer : std.Result (Unit {0}) code.Fault) → Opens before texts answer after → Agree before → Agree after
opening-agrees texts before after (Ok u) o a = o.agrees refl
opening-agrees texts before after (Err f) o a = rw o.bytes (go (opened texts) o.answered)
  where
    go : (d : Result Fault State) → refused (fault_of f) ≡ bare d → Agree (arrays_after before d)
    go (refused g) e = a
    go (done s) e = refused-done e
