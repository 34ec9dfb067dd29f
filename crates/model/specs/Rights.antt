-- Document 01, "Tables": what a user may read and write, and which paths conflict.
use Rattle.std.specs.Prelude.{List, [], ◌∷◌, map, Bool, true, false, ◌&&◌, ◌||◌}
use Rattle.model.specs.Base.{Bytes, any, keep, among, ◌≐◌}
use Rattle.model.specs.Fields.{Keys}
use Rattle.model.specs.Paths.{equals, is_in, Step, names, wildcard, environment, Steps}
use Rattle.model.specs.Tables.{Binding, User, Access, READ, WRITE, Rule, every_role}
use Rattle.model.specs.Tables

-- ── Matching ──
-- "Lines with one user and name form a list": of a user's environment lines, the values under the name n
unfoldable pub listed : List Binding → Bytes → List Bytes
listed bs n = map (λ b. b.value) (keep (λ b. b.name ≐ n) bs)

unfoldable pub first_is : Bytes → List Bytes → Bool
first_is k [] = false
first_is k (v ∷ vs) = k ≐ v

-- "a list that contains it, any key, `=~n` where it equals the first listed value of n for that user, `in~n` where it is any of them"
unfoldable pub admits : List Binding → Step → Bytes → Bool
admits bs (names ns) k = among k ns
admits bs wildcard k = true
admits bs (environment equals n) k = first_is k (listed bs n)
admits bs (environment is_in n) k = among k (listed bs n)

-- "A policy path matches a field path when both have as many steps and each step admits its key"
unfoldable pub matches : List Binding → Steps → Keys → Bool
matches bs [] [] = true
matches bs [] (k ∷ ks) = false
matches bs (t ∷ ts) [] = false
matches bs (t ∷ ts) (k ∷ ks) = let r = matches bs ts ks in admits bs t k && r

-- ── Rights ──
unfoldable pub is_writing : Access → Bool
is_writing READ = false
is_writing WRITE = true

unfoldable pub is_write : Rule → Bool
is_write r = is_writing r.access

-- a line of the user's role or of every role
unfoldable pub is_for : User → Rule → Bool
is_for u r = r.role ≐ u.role || r.role ≐ every_role

-- "may read it if a line of either kind does"
unfoldable pub may_read : List Rule → User → Keys → Bool
may_read rs u p = any (λ r. is_for u r && matches u.environment r.path p) rs

-- "A user may write a path if a WRITE line of the role matches it"
unfoldable pub may_write : List Rule → User → Keys → Bool
may_write rs u p = any (λ r. is_for u r && is_write r && matches u.environment r.path p) rs

-- ── Conflict; document 01: "tangle" ──
-- "Lists overlap if they share a name; any key and own steps overlap everything"
unfoldable pub overlap : Step → Step → Bool
overlap (names a) (names b) = any (λ n. among n b) a
overlap (names a) wildcard = true
overlap (names a) (environment o n) = true
overlap wildcard t = true
overlap (environment o n) t = true

-- the first is shorter, "and each of its steps overlaps the other's step there"
unfoldable pub is_above : Steps → Steps → Bool
is_above [] [] = false
is_above [] (u ∷ q) = true
is_above (t ∷ p) [] = false
is_above (t ∷ p) (u ∷ q) = let r = is_above p q in overlap t u && r

-- "Two paths tangle when one is shorter and each of its steps overlaps the other's step there"
unfoldable pub conflict : Steps → Steps → Bool
conflict p q = is_above p q || is_above q p

-- a path in conflict with a WRITE line
unfoldable pub conflicts_with : Steps → Rule → Bool
conflicts_with p r = is_write r && conflict p r.path

unfoldable pub Opened : Unit {0}
unfolding Tables.Opened listed first_is admits matches is_writing is_write is_for may_read may_write overlap is_above conflict conflicts_with
Opened = tt
