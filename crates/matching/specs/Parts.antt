-- Matching in two parts: what the path alone decides, and what a user's environment lines decide after that.
use Rattle.std.specs.Option.{option_map_or}
use Rattle.std.specs.Prelude.{Option, ◌≡◌, List, [], ◌∷◌, Bool, true, false, ◌&&◌}
use Rattle.model.specs.Base.{Bytes, any, among, ◌≐◌}
use Rattle.model.specs.Fields.{Keys}
use Rattle.model.specs.Paths.{Operator, equals, is_in, Step, names, wildcard, environment, Steps}
use Rattle.model.specs.Tables.{Binding}
use Rattle.model.specs.Rights.{admits}

-- the first line of a name decides for `=~n`; for `in~n` a line does that holds the key
abbrev pub decides : Operator → Bool → Bool
decides equals holds = true
decides is_in holds = holds

-- of a question to the lines: the first decides it, or says nothing of it and leaves it to those behind; without lines the answer is no
pub record Asked (says : Bytes → Bytes → Option Bool → Type 0) (asked : List Binding → Bool) : Type 0 where
  pub none : asked [] ≡ false
  pub first : (b : Binding) (bs : List Binding) (o : Option Bool) → says b.name b.value o → asked (b ∷ bs) ≡ option_map_or (λ a. a) o (asked bs)

-- a step admits a key, given the right environment lines
unfoldable pub may_admit : Step → Bytes → Bool
may_admit (names ns) k = among k ns
may_admit wildcard k = true
may_admit (environment o n) k = true

-- the environment lines let a step admit a key: only an environment step asks them
unfoldable pub is_met : List Binding → Step → Bytes → Bool
is_met bs (names ns) k = true
is_met bs wildcard k = true
is_met bs (environment o n) k = admits bs (environment o n) k

-- a step asks a user's environment lines
unfoldable pub asks : Step → Bool
asks (names ns) = false
asks wildcard = false
asks (environment o n) = true

-- some environment line has the value k
unfoldable pub has_value : List Binding → Bytes → Bool
has_value bs k = any (λ b. k ≐ b.value) bs

-- as many steps as keys, and each step passes the test with its key
unfoldable pub paired : (Step → Bytes → Bool) → Steps → Keys → Bool
paired test [] [] = true
paired test [] (k ∷ ks) = false
paired test (t ∷ ts) [] = false
paired test (t ∷ ts) (k ∷ ks) = let r = paired test ts ks in test t k && r

-- a policy path matches a field's path, given the right environment lines
unfoldable pub may_match : Steps → Keys → Bool
may_match ts ks = paired may_admit ts ks
