-- A table's text by positions: the columns of its head, and what its lines add from a position on.
use Prim.Native.Nat.{ℕ, ◌+◌, ◌-◌, ◌≤◌, ◌<◌}
use mathlib.Core.Path.{◌≡◌, refl, sym, ap, ◌∙◌}
use mathlib.Core.Bool.{Bool, true, false}
use mathlib.Core.List.{List, [], ◌∷◌}
use native.Mathlib.Nat.{sub-zero}
use native.Mathlib.Numerals.{add-one}
use lib.Dec.{ltb}
use lib.ListN.{length, get_or, take, drop}
use borrow.Author.Tests.{eq-eqb, ne_eqb, ltb-true, ltb-false}
use Rattle.rows.specs.Positions.{run_end}
use Rattle.rows.proofs.Positions.{here, over}
use Rattle.model.specs.Base.{Bytes, all, among}
use Rattle.model.specs.Refusals.{Result, refused, done, ◌>>=◌, ◌>>◌, refuse◌if◌}
use Rattle.model.specs.Table.{Table, ended, lines, split, under, same_length, in_line, is_head, read_row, read_rows, read_lines, read_table}
use Rattle.model.proofs.Lists.{by_cases}
use Rattle.lexical.specs.Classes.{is_not}
use Rattle.lines.proofs.Lines.{line-ended, line-broken, lines-over}
use Rattle.std.specs.Prelude as std
use Rattle.std.specs.Prelude.{Ok, Err}
use Rattle.refusals.specs.declared.Refusal.{Refusal}
use Rattle.refusals.specs.declared.Refusal.TheVariants.{Head, Row}
use Rattle.refusals.specs.Numbers.{number_of, numbered, bare}
use Rattle.tabletext.specs.Reading.{kept_or, if_done, rows_as_far, lines_as_far, tables_as_far, ReadsTable}

-- ── A head has the columns cs from the column j on ──
abbrev pub has_from : List Bytes → List Bytes → ℕ → Bool
has_from hs cs j = all (λ c. among c hs) (drop j cs)

module _ (hs cs : List Bytes) (j : ℕ) where
  pub columns-over : length cs ≤ j → has_from hs cs j ≡ true
  unfolding all
  columns-over h = rw (over cs j h)

  -- n is the name of the column j: the head lacks it, or has it
  module _ (below : j < length cs) (n : Bytes) (is : n ≡ get_or cs j []) where
    pub column-missing : among n hs ≡ false → has_from hs cs j ≡ false
    unfolding all
    column-missing e = rw (here [] cs j below, ← is, e)

    pub column-there : among n hs ≡ true → has_from hs cs j ≡ has_from hs cs (j + 1)
    unfolding all
    column-there e = rw (here [] cs j below, ← is, e)

-- ── A line of m values under a head of n columns: another number is refused ──
module _ {A : Type 0} (t : Table A) (hs : List Bytes) (a : A) (l : Bytes) {m n : ℕ} (values : m ≡ length (split l)) (columns : n ≡ length hs) where
  pub row-short : (m ≡ n → ⊥) → read_row t hs a (ended l) ≡ refused 2
  unfolding read_row same_length ◌>>◌ refuse◌if◌
  row-short h = rw (← values, ← columns, ne_eqb m n h)

  pub row-whole : m ≡ n → read_row t hs a (ended l) ≡ t.row (under hs (split l)) a
  unfolding read_row same_length ◌>>◌ refuse◌if◌
  row-whole h = rw (← values, ← columns, eq-eqb m n h)

-- ── What an answer says of a row ──
module _ {A : Type 0} where
  answer-refused : (q : Result ℕ A) (e : ℕ) → refused e ≡ bare q → q ≡ refused e
  answer-refused (refused d) e h = cc
  answer-refused (done b) e h = cc

  answer-done : (q : Result ℕ A) (a : A) → done tt ≡ bare q → q ≡ done (kept_or a q)
  unfolding kept_or
  answer-done (refused d) a h = cc
  answer-done (done b) a h = refl

-- ── A table's text ──
-- the line n stands at the position `at`, and the lines before it made a of what there was
pub record Left {A : Type 0} (t : Table A) (a₀ : A) (s : Bytes) (hs : List Bytes) (n at : ℕ) (a : A) : Type 0 where
  pub answer : read_table t a₀ s ≡ read_rows t hs n a (lines (drop at s))
  pub added : tables_as_far t a₀ s ≡ rows_as_far t hs a (lines (drop at s))

-- the head ends at e: the text is over there, or the head is another one, or it is the table's
module _ {A : Type 0} (t : Table A) (a : A) (s : Bytes) (e : ℕ) (is : e ≡ run_end (is_not 0x0A) s 0) where
  pub head-broken : e ≡ length s → ReadsTable t a s (Err (record { refusal = Head; line = 0 })) a
  unfolding read_table read_lines tables_as_far lines_as_far
  head-broken q =
      by_cases (ltb 0 (length s))
      (λ p. rw (line-broken s 0 e is (ltb-true 0 (length s) p) q) (refl, refl))
      (λ p. rw (lines-over s 0 (ltb-false 0 (length s) p)) (refl, refl))

  module _ (ends : e < length s) where
    head-ended : lines s ≡ ended (take e s) ∷ lines (drop (e + 1) s)
    head-ended = line-ended s 0 e is ends ∙ rw sub-zero

    pub head-other : is_head t (split (take e s)) ≡ false → ReadsTable t a s (Err (record { refusal = Head; line = 0 })) a
    unfolding read_table read_lines tables_as_far lines_as_far ◌>>◌ refuse◌if◌
    head-other f = rw (head-ended, f) (refl, refl)

    pub head-right : is_head t (split (take e s)) ≡ true → Left t a s (split (take e s)) 2 (e + 1) a
    unfolding read_table read_lines tables_as_far lines_as_far ◌>>◌ refuse◌if◌
    head-right f = record { answer = rw (head-ended, f); added = rw (head-ended, f) }

-- what is left at a line: nothing; a line that the text's end breaks; one that ends at e, with the answer r and with b after it
module _ {A : Type 0} (t : Table A) (a₀ : A) (s : Bytes) (hs : List Bytes) (n at : ℕ) (a : A) (left : Left t a₀ s hs n at a) where
  pub left-none : length s ≤ at → ReadsTable t a₀ s (Ok tt) a
  unfolding read_rows rows_as_far
  left-none h = rw (left.answer, left.added, lines-over s at h) (refl, refl)

  module _ (e : ℕ) (is : e ≡ run_end (is_not 0x0A) s at) where
    pub left-broken : at < length s → e ≡ length s → ReadsTable t a₀ s (Err (record { refusal = Row; line = n })) a
    unfolding read_rows rows_as_far read_row in_line if_done ◌>>=◌
    left-broken p q = rw (left.answer, left.added, line-broken s at e is p q) (refl, refl)

    module _ (ends : e < length s) (r : std.Result (Unit {0}) Refusal) (b : A)
        (answer : numbered r ≡ bare (read_row t hs a (ended (take (e - at) (drop at s)))))
        (kept : b ≡ kept_or a (read_row t hs a (ended (take (e - at) (drop at s))))) where
      pub left-refused : (d : Refusal) → r ≡ Err d → ReadsTable t a₀ s (Err (record { refusal = d; line = n })) b
      unfolding read_rows rows_as_far in_line if_done kept_or ◌>>=◌
      left-refused d told =
          let q = answer-refused (read_row t hs a (ended (take (e - at) (drop at s)))) (number_of d) (sym (ap numbered told) ∙ answer) in
          rw (kept, left.answer, left.added, line-ended s at e is ends, q) (refl, refl)

      pub left-done : r ≡ Ok tt → Left t a₀ s hs (n + 1) (e + 1) b
      unfolding read_rows rows_as_far in_line if_done ◌>>=◌
      left-done told =
          let q = answer-done (read_row t hs a (ended (take (e - at) (drop at s)))) a (sym (ap numbered told) ∙ answer) in
          let line = line-ended s at e is ends in
          record { answer = left.answer ∙ rw (line, q, ← kept, add-one n); added = left.added ∙ rw (line, q, ← kept) }
