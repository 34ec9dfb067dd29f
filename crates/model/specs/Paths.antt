-- Document 01, "Record, names and paths": how a field's path and a policy's path are spelled and read.
use Rattle.std.specs.Prelude.{ℕ, zero, suc, List, [], ◌∷◌, ◌++◌, map, Bool, false, not, ◌&&◌, ◌||◌, leb, eqb, length}
use Rattle.std.specs.Prelude.{Option, None, Some}
use Rattle.model.specs.Base.{Bytes, text, joined, between, ◌>>=◌, ◌>>◌, ◌<|>◌, check, after, if_after, span, is_digit}
use Rattle.model.specs.Limits.{max_depth, max_listed, max_path_text}
use Rattle.model.specs.Names.{is_letter, name_byte, is_key, plain_byte, is_plain}
use Rattle.model.specs.Fields.{Keys}
use Rattle.model.specs.Fields

-- which of document 01's two own steps: `=~n`, `in~n`
pub data Operator : Type 0 where
  equals : Operator
  is_in : Operator

-- "A step is a list of names, any key, or an own step"
pub data Step : Type 0 where
  names : List Bytes → Step
  wildcard : Step
  environment : Operator → Bytes → Step

-- "In a policy, a path is `$` and 1 to 6 steps"
abbrev pub Steps : Type 0
Steps = List Step

-- ── "The standard spelling is `[*]`, `['a','b']` in the written order, or the own step" ──
unfoldable pub operator_text : Operator → Bytes
operator_text equals = text "=~"
operator_text is_in = text "in~"

unfoldable pub name_text : Bytes → Bytes
name_text n = text "'" ++ (n ++ text "'")

unfoldable pub step_text : Step → Bytes
step_text (names ns) = text "[" ++ (between (text ",") (map name_text ns) ++ text "]")
step_text wildcard = text "[*]"
step_text (environment e n) = text "[" ++ (operator_text e ++ (n ++ text "]"))

unfoldable pub steps_text : Steps → Bytes
steps_text p = text "$" ++ joined (map step_text p)

-- "a field's key counts as a list of one"
unfoldable pub as_steps : Keys → Steps
as_steps p = map (λ k. names (k ∷ [])) p

-- "A field's path is spelled as RFC 9535's normalized path: `$['e7']['cv']['29']`"
unfoldable pub keys_text : Keys → Bytes
keys_text p = steps_text (as_steps p)

-- ── Names in quotes ──
-- a name between two of the same quote
unfoldable pub read_quoted : Bytes → Bytes → Option (Bytes × Bytes)
read_quoted q s = do
  s₁ ← after q s
  let (n, r) = span name_byte s₁
  check (is_key n)
  r₁ ← after q r
  Some (n, r₁)

-- "names in either quote"
unfoldable pub read_either : Bytes → Option (Bytes × Bytes)
read_either s = read_quoted (text "'") s <|> read_quoted (text "\"") s

-- what `inner` reads, between brackets
unfoldable pub in_brackets : {A : Type 0} → (Bytes → Option (A × Bytes)) → Bytes → Option (A × Bytes)
in_brackets inner s = do
  s₁ ← after (text "[") s
  (a, r) ← inner s₁
  r₁ ← after (text "]") r
  Some (a, r₁)

-- ── A step in each spelling ──
unfoldable pub read_wildcard : Bytes → Option (Step × Bytes)
read_wildcard s = after (text "*") s >>= λ r. Some (wildcard, r)

unfoldable pub identifier_byte : ℕ → Bool
identifier_byte x = is_letter x || is_digit x || eqb x 0x5F

unfoldable pub starts_well : Bytes → Bool
starts_well [] = false
starts_well (x ∷ n) = not (is_digit x)

-- "n starts with a letter or `_`, then letters, digits, `_`"
unfoldable pub read_identifier : Bytes → Option (Step × Bytes)
read_identifier s = do
  let (n, r) = span identifier_byte s
  check (is_key n && starts_well n)
  Some (names (n ∷ []), r)

-- "`.n` .., `.*`"
unfoldable pub read_dotted : Bytes → Option (Step × Bytes)
read_dotted s = after (text ".") s >>= λ r. read_wildcard r <|> read_identifier r

-- "two of ours: `[=~n]`, `[in~n]`, n a plain name"
unfoldable pub read_environment : Operator → Bytes → Option (Step × Bytes)
read_environment o s = do
  s₁ ← after (operator_text o) s
  let (n, r) = span plain_byte s₁
  check (is_plain n)
  Some (environment o n, r)

-- names behind those read, with commas between, k more at most
unfoldable pub read_names : ℕ → List Bytes → Bytes → Option (List Bytes × Bytes)
read_names zero ns s = None
read_names (suc k) ns s = do
  (n, r) ← read_either s
  if_after (after (text ",") r) (read_names k (ns ++ n ∷ [])) (Some (ns ++ n ∷ [], r))

-- "1 to 4 names in either quote and commas between"
unfoldable pub read_list : Bytes → Option (Step × Bytes)
read_list s = read_names max_listed [] s >>= λ t. Some (names t.0, t.1)

-- what a step has between brackets
unfoldable pub read_selector : Bytes → Option (Step × Bytes)
read_selector s = read_wildcard s <|> read_environment equals s <|> read_environment is_in s <|> read_list s

unfoldable pub read_step : Bytes → Option (Step × Bytes)
read_step s = read_dotted s <|> in_brackets read_selector s

-- ── A whole path ──
-- k of what `one` reads at most, up to the text's end, behind those read
unfoldable pub read_all : {A : Type 0} → (Bytes → Option (A × Bytes)) → ℕ → List A → Bytes → Option (List A)
read_all one zero p [] = Some p
read_all one zero p (x ∷ s) = None
read_all one (suc k) p [] = Some p
read_all one (suc k) p (x ∷ s) = one (x ∷ s) >>= λ t. read_all one k (p ++ t.0 ∷ []) t.1

-- `$` and 1 to 6 of what `one` reads
unfoldable pub read_path : {A : Type 0} → (Bytes → Option (A × Bytes)) → Bytes → Option (List A)
read_path one s = do
  s₁ ← after (text "$") s
  p ← read_all one max_depth [] s₁
  check (leb 1 (length p))
  Some p

-- a policy path, whole
unfoldable pub steps_of : Bytes → Option Steps
steps_of s = do
  p ← read_path read_step s
  check (leb (length (steps_text p)) max_path_text)
  Some p

unfoldable pub read_key_step : Bytes → Option (Bytes × Bytes)
read_key_step s = in_brackets (read_quoted (text "'")) s

-- a field's path, whole
unfoldable pub keys_of : Bytes → Option Keys
keys_of s = read_path read_key_step s

unfoldable pub Opened : Unit {0}
unfolding Fields.Opened operator_text name_text step_text steps_text as_steps keys_text read_quoted read_either in_brackets read_wildcard identifier_byte starts_well read_identifier read_dotted read_environment read_names read_list read_selector read_step read_all read_path steps_of read_key_step keys_of
Opened = tt
