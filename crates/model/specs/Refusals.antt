-- Refusals: each has one ground, and of several the first that is asked for decides.
use Rattle.std.specs.Prelude.{Option, None, Some}
use Rattle.std.specs.Prelude.{Bool, true, false}

pub data Result (E A : Type 0) : Type 0 where
  refused : E → Result E A
  done : A → Result E A

infixl 20 ◌>>=◌
unfoldable pub ◌>>=◌ : {E A B : Type 0} → Result E A → (A → Result E B) → Result E B
refused e >>= f = refused e
done a >>= f = f a

infixl 20 ◌>>◌
unfoldable pub ◌>>◌ : {E A B : Type 0} → Result E A → Result E B → Result E B
refused e >> b = refused e
done a >> b = b

infix 10 refuse◌if◌
unfoldable pub refuse◌if◌ : {E : Type 0} → E → Bool → Result E (Unit {0})
refuse◌if◌ e true = refused e
refuse◌if◌ e false = done tt

-- what is there, or a refusal
infix 10 ◌or◌
unfoldable pub ◌or◌ : {E A : Type 0} → Option A → E → Result E A
◌or◌ None e = refused e
◌or◌ (Some a) e = done a

unfoldable pub Opened : Unit {0}
unfolding ◌>>=◌ ◌>>◌ refuse◌if◌ ◌or◌
Opened = tt
