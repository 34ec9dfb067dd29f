-- Fields as the readers give them: keys that are names, values within their limits.
use mathlib.Core.Path.{◌≡◌}
use mathlib.Core.Bool.{true}
use Rattle.model.specs.Values.{valid_value}
use Rattle.model.specs.Fields.{valid_keys, Field}

pub record Valid (f : Field) : Type 0 where
  pub path : valid_keys f.path ≡ true
  pub value : valid_value f.value ≡ true
