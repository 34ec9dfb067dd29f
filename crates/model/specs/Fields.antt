-- Document 01, "Record, names and paths": fields, their order, and the table that holds them.
use Prim.Native.Nat.{compare, Ordering}
use Rattle.std.specs.Prelude.{Option, None, Some}
use Rattle.std.specs.Prelude.{List, [], ◌∷◌, Bool, ◌&&◌, length, take}
use Rattle.model.specs.Base.{Bytes, all, is_some, within}
use Rattle.model.specs.Limits.{max_depth, max_fields}
use Rattle.model.specs.Names.{is_key}
use Rattle.model.specs.Values.{Value}
use Rattle.model.specs.Values

-- "a path of 1 to 6 keys (names)"
abbrev pub Keys : Type 0
Keys = List Bytes

unfoldable pub valid_keys : Keys → Bool
valid_keys p = within 1 max_depth (length p) && all is_key p

-- "A field is a path .. and a value"
pub record Field : Type 0 where
  pub path : Keys
  pub value : Value

-- the field at the path p that holds v: the one place where a field is made
abbrev pub field_of : Keys → Value → Field
field_of p v = record { path = p; value = v }

-- a record's fields, sorted by path
abbrev pub Fields : Type 0
Fields = List Field

-- ── "Fields are sorted by path, key by key, by byte value, a shorter name before a longer one it begins" ──
unfoldable pub and_then : Ordering → Ordering → Ordering
and_then Ordering.lt o = Ordering.lt
and_then Ordering.eq o = o
and_then Ordering.gt o = Ordering.gt

-- element by element, a list before a longer one that it begins
unfoldable pub lex : {A : Type 0} → (A → A → Ordering) → List A → List A → Ordering
lex o [] [] = Ordering.eq
lex o [] (y ∷ t) = Ordering.lt
lex o (x ∷ s) [] = Ordering.gt
lex o (x ∷ s) (y ∷ t) = let r = lex o s t in and_then (o x y) r

unfoldable pub order_key : Bytes → Bytes → Ordering
order_key k l = lex compare k l

unfoldable pub order_path : Keys → Keys → Ordering
order_path p q = lex order_key p q

-- the first where the order is less, the second where it is equal, else the third
unfoldable pub by_order : {A : Type 0} → Ordering → A → A → A → A
by_order Ordering.lt a b c = a
by_order Ordering.eq a b c = b
by_order Ordering.gt a b c = c

-- ── One search serves finding and putting: it ends at the first path that is not before p ──
-- the value that the field at p holds
unfoldable pub value_at : Keys → Fields → Option Value
value_at p [] = None
value_at p (g ∷ gs) = let r = value_at p gs in by_order (order_path p g.path) None (Some g.value) r

unfoldable pub holds : Keys → Fields → Bool
holds p fs = is_some (value_at p fs)

-- "a new field goes in at its sorted place and later ones move along"; a field of that path gets the value
unfoldable pub put : Field → Fields → Fields
put f [] = f ∷ []
put f (g ∷ gs) = let r = g ∷ put f gs in by_order (order_path f.path g.path) (f ∷ g ∷ gs) (f ∷ gs) r

-- "At most 256 fields are held"
unfoldable pub store : Field → Fields → Fields
store f fs = take max_fields (put f fs)

unfoldable pub Opened : Unit {0}
unfolding Values.Opened valid_keys and_then lex order_key order_path by_order value_at holds put store
Opened = tt
