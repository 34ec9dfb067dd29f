-- The right that one line gives, and whom a line may admit.
use Rattle.std.specs.Prelude.{ℕ, ◌<◌, ◌≡◌, Bool, true, false, ◌&&◌, List, [], length, get_or}
use Rattle.std.specs.Prelude.{Option, None, Some}
use Rattle.model.specs.Base.{Bytes}
use Rattle.model.specs.Limits.{max_depth}
use Rattle.model.specs.Fields.{Keys}
use Rattle.model.specs.Paths.{Steps}
use Rattle.model.specs.Tables.{User, Rule, user_at}
use Rattle.model.specs.Rights.{matches, is_write, is_for}
use Rattle.masks.specs.Bits.{bit_at}
use Rattle.matching.specs.Parts.{has_value}

-- the path p may be read, by the line r, by the user u
unfoldable pub gives_read : Keys → Rule → User → Bool
gives_read p r u = is_for u r && matches u.environment r.path p

-- there is a user, who may read the path p by the line r
unfoldable pub reads_by_line : Keys → Rule → Option User → Bool
reads_by_line p r None = false
reads_by_line p r (Some u) = gives_read p r u

-- there is a user, one of whose environment lines has the value k
unfoldable pub holds_value : Bytes → Option User → Bool
holds_value k None = false
holds_value k (Some u) = has_value u.environment k

-- for each key of the path p the mask of those who hold it, where that was found out
pub record Found (us : List User) (p : Keys) (found : List (Option ℕ)) : Type 0 where
  pub long : length found ≡ max_depth
  pub holders : (i mask : ℕ) → get_or found i None ≡ Some mask → (k : ℕ) → bit_at mask k ≡ holds_value (get_or p i []) (user_at us k)

-- a mask of users that leaves out nobody for whom the steps match the path
pub record Covers (us : List User) (ts : Steps) (p : Keys) (mask : ℕ) : Type 0 where
  pub users : (k : ℕ) → bit_at mask k ≡ true → k < length us
  pub all : (k : ℕ) (u : User) → user_at us k ≡ Some u → bit_at mask k ≡ false → matches u.environment ts p ≡ false

-- the user u may write the path p by the line r
unfoldable pub gives_write : User → Keys → Rule → Bool
gives_write u p r = is_for u r && is_write r && matches u.environment r.path p
