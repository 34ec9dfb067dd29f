-- Bytes, lists and readers: what every later file is written with.
use Rattle.std.specs.Prelude.{ℕ, zero, suc, ◌+◌, ◌-◌, ◌*◌, ◌/◌, ◌%◌, List, [], ◌∷◌, ◌++◌, Bool, true, false, cond, ◌&&◌, ◌||◌, leb, ltb, eqb, if◌then◌else◌}
use Prim.Native.String.{String}
use Prim.Native.String as S
use Prim.Native.Char.{code}
use Rattle.std.specs.Prelude.{Option, None, Some}

-- a byte is a number below 256, a text the list of its bytes
abbrev pub Bytes : Type 0
Bytes = List ℕ

-- a quoted text of ASCII characters as its bytes
unfoldable pub text : String → Bytes
text S.[] = []
text (S.◌∷◌ c s) = code c ∷ text s

-- ── Lists ──
unfoldable pub any : {A : Type 0} → (A → Bool) → List A → Bool
any p [] = false
any p (x ∷ xs) = let r = any p xs in p x || r

unfoldable pub all : {A : Type 0} → (A → Bool) → List A → Bool
all p [] = true
all p (x ∷ xs) = let r = all p xs in p x && r

-- a property has every element
abbrev pub All : {A : Type 0} → (A → Type 0) → List A → Type 0
All P [] = Unit {0}
All P (x ∷ xs) = P x × All P xs

-- the elements that pass, in their order
unfoldable pub keep : {A : Type 0} → (A → Bool) → List A → List A
keep p [] = []
keep p (x ∷ xs) = let r = keep p xs in if p x then x ∷ r else r

unfoldable pub joined : {A : Type 0} → List (List A) → List A
joined [] = []
joined (l ∷ ls) = l ++ joined ls

unfoldable pub sum : List ℕ → ℕ
sum [] = 0
sum (n ∷ ns) = n + sum ns

-- n numbers from i on
unfoldable pub range : ℕ → ℕ → List ℕ
range i zero = []
range i (suc n) = i ∷ range (suc i) n

-- the first element that passes, with its index, counted from i
unfoldable pub first_from : {A : Type 0} → ℕ → (A → Bool) → List A → Option (ℕ × A)
first_from i p [] = None
first_from i p (x ∷ xs) = let r = first_from (suc i) p xs in if p x then Some (i, x) else r

unfoldable pub is_some : {A : Type 0} → Option A → Bool
is_some None = false
is_some (Some a) = true

-- two texts are the same
infix 40 ◌≐◌
unfoldable pub ◌≐◌ : Bytes → Bytes → Bool
[] ≐ [] = true
[] ≐ (y ∷ t) = false
(x ∷ s) ≐ [] = false
(x ∷ s) ≐ (y ∷ t) = let r = s ≐ t in eqb x y && r

unfoldable pub among : Bytes → List Bytes → Bool
among n l = any (λ m. n ≐ m) l

-- texts, with a text between each two
unfoldable pub between : Bytes → List Bytes → Bytes
between c [] = []
between c (x ∷ []) = x
between c (x ∷ (y ∷ l)) = x ++ (c ++ between c (y ∷ l))

-- ── Readers: a reader takes a text to what it read and the rest, or to nothing ──
infixl 20 ◌>>=◌
unfoldable pub ◌>>=◌ : {A B : Type 0} → Option A → (A → Option B) → Option B
None >>= f = None
Some a >>= f = f a

infixl 20 ◌>>◌
unfoldable pub ◌>>◌ : {A B : Type 0} → Option A → Option B → Option B
None >> b = None
Some a >> b = b

-- what the first reads, or else what the second does
infixl 30 ◌<|>◌
unfoldable pub ◌<|>◌ : {A : Type 0} → Option A → Option A → Option A
None <|> b = b
Some a <|> b = Some a

unfoldable pub check : Bool → Option (Unit {0})
check true = Some tt
check false = None

-- what stands behind the given beginning
unfoldable pub after : Bytes → Bytes → Option Bytes
after [] s = Some s
after (x ∷ w) [] = None
after (x ∷ w) (y ∷ s) = let r = after w s in if eqb x y then r else None

-- goes on with what stands behind a beginning, or else gives y
unfoldable pub if_after : {A : Type 0} → Option Bytes → (Bytes → A) → A → A
if_after None f y = y
if_after (Some r) f y = f r

unfoldable pub in_front : ℕ → Bytes × Bytes → Bytes × Bytes
in_front x p = (x ∷ p.0, p.1)

-- the longest beginning of bytes that pass, and the rest
unfoldable pub span : (ℕ → Bool) → Bytes → Bytes × Bytes
span p [] = ([], [])
span p (x ∷ s) = let r = in_front x (span p s) in if p x then r else ([], x ∷ s)

-- what stands before and behind the first byte c
unfoldable pub cut : ℕ → Bytes → Option (Bytes × Bytes)
cut c [] = None
cut c (x ∷ s) = let r = cut c s >>= λ p. Some (in_front x p) in if eqb x c then Some ([], s) else r

-- ── Numbers in decimal ──
unfoldable pub within : ℕ → ℕ → ℕ → Bool
within a b x = leb a x && leb x b

unfoldable pub is_digit : ℕ → Bool
is_digit x = within 48 57 x

-- the number that digits spell, n being what was read before
unfoldable pub worth : ℕ → Bytes → ℕ
worth n [] = n
worth n (d ∷ ds) = worth (n * 10 + (d - 48)) ds

-- decimal, no leading zero but in `0` itself
unfoldable pub is_decimal : Bytes → Bool
is_decimal [] = false
is_decimal (d ∷ []) = is_digit d
is_decimal (d ∷ (e ∷ ds)) = within 49 57 d && all is_digit (e ∷ ds)

-- a whole text that is a number of at most m
unfoldable pub number : ℕ → Bytes → Option ℕ
number m s = if is_decimal s && leb (worth 0 s) m then Some (worth 0 s) else None

-- the digits of n, of which there are at most k
unfoldable pub digits : ℕ → ℕ → Bytes
digits zero n = []
digits (suc k) n = let r = digits k (n / 10) ++ (48 + n % 10) ∷ [] in if ltb n 10 then (48 + n) ∷ [] else r

unfoldable pub decimal : ℕ → Bytes
decimal n = digits (suc n) n

-- every definition of this file at once, for a proof by computation
unfoldable pub Opened : Unit {0}
unfolding text any all keep joined sum range first_from is_some ◌≐◌ among between ◌>>=◌ ◌>>◌ ◌<|>◌ check after if_after in_front span cut within is_digit worth is_decimal number digits decimal
Opened = tt
