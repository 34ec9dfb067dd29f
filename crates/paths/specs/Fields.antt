-- What an answer of a key says, and what two paths share.
use Rattle.std.specs.Prelude.{ℕ, suc, ◌+◌, ◌-◌, [], ◌∷◌, take, drop, if◌then◌else◌}
use Rattle.std.specs.Prelude.{Option, option_map}
use Rattle.model.specs.Base.{Bytes, ◌≐◌}
use Rattle.model.specs.Fields.{Keys}

-- a key between `['` at `at` and `']` before e
unfoldable pub key_answer : Bytes → ℕ → Option ℕ → Option (Bytes × ℕ)
key_answer s at r = option_map (λ e. (take (e - 4 - at) (drop (at + 2) s), e)) r

-- how many first keys two paths share
unfoldable pub shared : Keys → Keys → ℕ
shared [] q = 0
shared (k ∷ p) [] = 0
shared (k ∷ p) (l ∷ q) = let r = suc (shared p q) in if k ≐ l then r else 0
