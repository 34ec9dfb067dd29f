-- Document 01, "Record, names and paths": record text. A text is read to a tree of objects; what is asked of it is asked of the tree.
use Rattle.std.specs.Prelude.{ℕ, zero, suc, ◌+◌, List, [], ◌∷◌, ◌++◌, Bool, false, ◌||◌, eqb, length, if◌then◌else◌}
use Rattle.std.specs.Prelude.{Option, None, Some}
use Rattle.model.specs.Base.{Bytes, text, among, ◌≐◌, ◌>>=◌, ◌>>◌, ◌<|>◌, check, after, if_after, span}
use Rattle.model.specs.Limits.{max_depth}
use Rattle.model.specs.Names.{name_byte, is_key}
use Rattle.model.specs.Values.{Value, read_value}
use Rattle.model.specs.Fields.{Keys, Fields, store, field_of}
use Rattle.model.specs.Fields

-- what a key holds: a value, or an object of members
mutual
  pub data Node : Type 0 where
    leaf : Value → Node
    object : Members → Node

  -- the members so far, and one more
  pub data Members : Type 0 where
    no_members : Members
    member : Members → Bytes → Node → Members

-- "RFC 8259's blanks before, between and after its tokens"
unfoldable pub is_blank : ℕ → Bool
is_blank x = eqb x 0x20 || eqb x 0x09 || eqb x 0x0A || eqb x 0x0D

unfoldable pub skip : Bytes → Bytes
skip s = (span is_blank s).1

-- a token, with the blanks behind it
unfoldable pub token : Bytes → Bytes → Option Bytes
token w s = after w s >>= λ r. Some (skip r)

-- "Keys that are no names .. are not in this grammar"
unfoldable pub read_key : Bytes → Option (Bytes × Bytes)
read_key s = do
  s₁ ← after (text "\"") s
  let (k, r) = span name_byte s₁
  check (is_key k)
  r₁ ← token (text "\"") r
  Some (k, r₁)

unfoldable pub read_leaf : Bytes → Option (Node × Bytes)
read_leaf s = read_value s >>= λ t. Some (leaf t.0, skip t.1)

-- behind a member: a comma and more members, or the closing brace
unfoldable pub read_more : (Bytes → Option (Members × Bytes)) → Members → Bytes → Option (Members × Bytes)
read_more more m s = if_after (token (text ",") s) more (token (text "}") s >>= λ r. Some (m, r))

-- one member or more behind those read, up to the closing brace: `inner` reads what a key holds, and the number bounds how many there are
unfoldable pub read_members : (Bytes → Option (Node × Bytes)) → ℕ → Members → Bytes → Option (Members × Bytes)
read_members inner zero m s = None
read_members inner (suc n) m s = do
  (k, s₁) ← read_key s
  s₂ ← token (text ":") s₁
  (v, s₃) ← inner s₂
  read_more (read_members inner n (member m k v)) (member m k v) s₃

unfoldable pub as_node : Members × Bytes → Option (Node × Bytes)
as_node t = Some (object t.0, t.1)

-- "An object may hold objects, six keys deep at most. Only the top object may be empty": an object with members, at most d keys deep
unfoldable pub read_object : ℕ → Bytes → Option (Members × Bytes)
read_object zero s = None
read_object (suc d) s = do
  s₁ ← token (text "{") s
  read_members (λ t. read_leaf t <|> (read_object d t >>= as_node)) (length s₁) no_members s₁

unfoldable pub read_empty : Bytes → Option (Members × Bytes)
read_empty s = do
  s₁ ← token (text "{") s
  s₂ ← token (text "}") s₁
  Some (no_members, s₂)

-- "Record text is a JSON object"
unfoldable pub tree_of : Bytes → Option Members
tree_of s = do
  (m, r) ← read_empty (skip s) <|> read_object max_depth (skip s)
  check (r ≐ [])
  Some m

-- ── What is asked of a tree ──
unfoldable pub keys_in : Members → List Bytes
keys_in no_members = []
keys_in (member m k v) = k ∷ keys_in m

-- "a key twice in one object"
unfoldable mutual
  pub twice_in : Node → Bool
  twice_in (leaf v) = false
  twice_in (object m) = twice m

  pub twice : Members → Bool
  twice no_members = false
  twice (member m k v) = let r = twice_in v || twice m in among k (keys_in m) || r

-- how many fields, also where they are more than the table has room for
unfoldable mutual
  pub count_in : Node → ℕ
  count_in (leaf v) = 1
  count_in (object m) = count m

  pub count : Members → ℕ
  count no_members = 0
  count (member m k v) = count m + count_in v

-- the value of the leaf at a path, if there is one: of the member under the key k, at what is left of the path
unfoldable mutual
  pub leaf_at : Node → Keys → Option Value
  leaf_at (leaf v) [] = Some v
  leaf_at (leaf v) (k ∷ p) = None
  leaf_at (object m) [] = None
  leaf_at (object m) (k ∷ p) = leaf_under m k p

  pub leaf_under : Members → Bytes → Keys → Option Value
  leaf_under no_members k p = None
  leaf_under (member m l v) k p = let r = leaf_under m k p in if k ≐ l then leaf_at v p else r

-- the fields of a tree that stands at the path p, put into fields in the order of the text
unfoldable mutual
  pub store_node : Keys → Node → Fields → Fields
  store_node p (leaf v) fs = store (field_of p v) fs
  store_node p (object m) fs = store_members p m fs

  pub store_members : Keys → Members → Fields → Fields
  store_members p no_members fs = fs
  store_members p (member m k v) fs = store_node (p ++ k ∷ []) v (store_members p m fs)

unfoldable pub Opened : Unit {0}
unfolding Fields.Opened is_blank skip token read_key read_leaf read_more read_members as_node read_object read_empty tree_of keys_in twice count leaf_under store_members
Opened = tt
