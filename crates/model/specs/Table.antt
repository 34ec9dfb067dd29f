-- Document 01, "Tables": one reader for the three tables. A table is the names of its columns and what a line of values adds to what was read above it.
use Rattle.std.specs.Prelude.{ℕ, suc, List, [], ◌∷◌, Bool, not, ◌&&◌, eqb, length, if◌then◌else◌}
use Rattle.model.specs.Base.{Bytes, all, among, ◌≐◌}
use Rattle.model.specs.Refusals.{Result, refused, done, ◌>>=◌, ◌>>◌, refuse◌if◌}
use Rattle.model.specs.Base
use Rattle.model.specs.Refusals

pub record Table (A : Type 0) : Type 0 where
  pub columns : List Bytes
  -- from the value under each column's name, and from what was read above: the same with this line, or a refusal's number
  pub row : (Bytes → Bytes) → A → Result ℕ A

-- ── Lines ──
-- "Every line ends with byte 0A": a text's last line may lack it
pub data Line : Type 0 where
  ended : Bytes → Line
  broken : Bytes → Line

unfoldable pub on_first_line : ℕ → List Line → List Line
on_first_line x [] = broken (x ∷ []) ∷ []
on_first_line x (ended l ∷ ls) = ended (x ∷ l) ∷ ls
on_first_line x (broken l ∷ ls) = broken (x ∷ l) ∷ ls

unfoldable pub lines : Bytes → List Line
lines [] = []
lines (x ∷ s) = let r = lines s in if eqb x 0x0A then ended [] ∷ r else on_first_line x r

unfoldable pub on_first : ℕ → List Bytes → List Bytes
on_first x [] = (x ∷ []) ∷ []
on_first x (f ∷ fs) = (x ∷ f) ∷ fs

-- "separated by `;`"
unfoldable pub split : Bytes → List Bytes
split [] = [] ∷ []
split (x ∷ s) = let r = split s in if eqb x 0x3B then [] ∷ r else on_first x r

-- ── Rows ──
-- "lines of values in that order": a line's value under a column's name
unfoldable pub under : List Bytes → List Bytes → Bytes → Bytes
under [] vs n = []
under (h ∷ hs) [] n = []
under (h ∷ hs) (v ∷ vs) n = let r = under hs vs n in if h ≐ n then v else r

unfoldable pub same_length : {A B : Type 0} → List A → List B → Bool
same_length xs ys = eqb (length xs) (length ys)

-- a refusal with its line
unfoldable pub in_line : {A : Type 0} → ℕ → Result ℕ A → Result (ℕ × ℕ) A
in_line n (refused e) = refused (e, n)
in_line n (done a) = done a

module _ {A : Type 0} (t : Table A) where
  -- "1 head not exactly its names, each once": in any order
  unfoldable pub is_head : List Bytes → Bool
  is_head hs = same_length hs t.columns && all (λ c. among c hs) t.columns

  -- "2 wrong number of fields, .. or no final 0A"
  unfoldable pub read_row : List Bytes → A → Line → Result ℕ A
  read_row hs a (broken l) = refused 2
  read_row hs a (ended l) = do
    refuse 2 if not (same_length (split l) hs)
    t.row (under hs (split l)) a

  -- "Then each line from the top": the lines from number n on
  unfoldable pub read_rows : List Bytes → ℕ → A → List Line → Result (ℕ × ℕ) A
  read_rows hs n a [] = done a
  read_rows hs n a (l ∷ ls) = do
    a₁ ← in_line n (read_row hs a l)
    read_rows hs (suc n) a₁ ls

  -- "a line of column names, in any order, then lines of values", "the head being 1; the line is 0 for refusals .. 1"
  unfoldable pub read_lines : A → List Line → Result (ℕ × ℕ) A
  read_lines a [] = refused (1, 0)
  read_lines a (broken h ∷ ls) = refused (1, 0)
  read_lines a (ended h ∷ ls) = do
    refuse (1, 0) if not (is_head (split h))
    read_rows (split h) 2 a ls

  unfoldable pub read_table : A → Bytes → Result (ℕ × ℕ) A
  read_table a s = read_lines a (lines s)

unfoldable pub Opened : Unit {0}
unfolding Base.Opened Refusals.Opened on_first_line lines on_first split under same_length in_line is_head read_row read_rows read_lines read_table
Opened = tt
