-- Values by positions: a number by its digits, and a value by the reader of its first byte's kind.
use Prim.Native.Nat.{ℕ, zero, suc, ◌+◌, ◌-◌, ◌≤◌, ◌<◌}
use mathlib.Core.Path.{◌≡◌, refl, sym, ap, ◌∙◌}
use Rattle.std.specs.Prelude.{Option, None, Some}
use mathlib.Core.Bool.{true, false, ◌&&◌, and-false, true≢false}
use mathlib.Core.List.{[], ◌∷◌}
use native.Mathlib.Omega.{arith}
use borrow.Author.Tests.{le-leb, ne_eqb}
use lib.Dec.{leb, eqb}
use lib.IntN.{ℤ, pos, negsuc, ◌-ℤ◌, +ℤ_idl}
use lib.ListN.{length, get_or, take, drop}
use mir.Syntax.{w32, w64}
use mir.Val.{SFits, to_z, of_z}
use mir.Facts.{to_z_pos, to_z-of_z}
use Rattle.rows.specs.Positions.{Reader, Reads, LeavesEnd, behind, placed, run_end}
use Rattle.rows.proofs.Positions.{here, over, run-within, placed-reads, placed-none, none-placed, reads-placed}
use Rattle.model.specs.Base.{Bytes, text, ◌>>=◌, ◌>>◌, ◌<|>◌, check, after, is_some, within, is_digit, is_decimal, worth, number}
use Rattle.model.specs.Values.{Value, truth, string, whole, read_string, read_pos, read_neg, read_value, value_text, Opened}
use Rattle.model.proofs.Lists.{by_cases}
use Rattle.model.proofs.Reading.{within-yes}
use Rattle.model.proofs.Spelling.{value-spells}
use Rattle.lexical.specs.declared.class.Class.TheVariants.{Text}
use Rattle.values.specs.declared.value.Scalar.{Scalar}
use Rattle.lexical.specs.Classes.{read_between, text_answer}
use Rattle.values.specs.Scalars.{value_in, read_word, value_answer}
use Rattle.lexical.proofs.Runs.{span-at, byte-stands, rest_of}
use Rattle.lexical.proofs.Between.{string-between, between-at}
use Rattle.lexical.proofs.Slices.{after-at, after-no}
use Rattle.lexical.proofs.Decimals.{number-some, number-none}

-- what a callee answered, once the variant is known
pub told : {A B : Type 0} (answer : A → B) {r v : A} {b : B} → answer r ≡ b → r ≡ v → b ≡ answer v
told answer h e = sym h ∙ ap answer e

-- ── A number as an i32: cast, and negated as an i64 ──
module _ (n : ℕ) (h : n ≤ 2147483647) where
  pub cast_fits : SFits w32 (pos n)
  cast_fits = record { sfits = omega arith }

  cast_is : to_z w32 n ≡ pos n
  cast_is = to_z_pos w32 (omega arith)

minus : (n : ℕ) → (n ≡ 0 → ⊥) → n ≤ 2147483648 → pos 0 -ℤ to_z w64 n ≡ negsuc (n - 1)
minus zero f h = absurd (f refl)
minus (suc k) f h = let is : to_z w64 (suc k) ≡ pos (suc k) = to_z_pos w64 (omega arith) in rw is (+ℤ_idl (negsuc k) ∙ ap negsuc (omega arith))

module _ (n : ℕ) (f : n ≡ 0 → ⊥) (h : n ≤ 2147483648) where
  pub big_fits : SFits w64 (pos n)
  big_fits = record { sfits = omega arith }

  pub minus-fits : SFits w64 (pos 0 -ℤ to_z w64 n)
  minus-fits = rw (minus n f h) (record { sfits = omega arith })

  small_is : to_z w64 (of_z w64 (pos 0 -ℤ to_z w64 n)) ≡ negsuc (n - 1)
  small_is = to_z-of_z minus-fits ∙ minus n f h

  pub small_fits : SFits w32 (to_z w64 (of_z w64 (pos 0 -ℤ to_z w64 n)))
  small_fits = rw small_is (record { sfits = omega arith })

  pub minus_is : to_z w32 (of_z w32 (to_z w64 (of_z w64 (pos 0 -ℤ to_z w64 n)))) ≡ negsuc (n - 1)
  minus_is = to_z-of_z small_fits ∙ small_is

-- ── A number at a position ──
-- the digits from `at` on, which end at `to`
abbrev pub digits_to : Bytes → ℕ → ℕ → Bytes
digits_to s at to = take (to - at) (drop at s)

module _ (s : Bytes) (at : ℕ) where
  -- one of 0 and more
  module _ (to : ℕ) (is : to ≡ run_end is_digit s at) where
    pub positive-bad : number 2147483647 (digits_to s at to) ≡ None → None ≡ placed read_pos s at
    unfolding read_pos check ◌>>◌
    positive-bad m = sym (placed-none read_pos s at (rw (span-at is_digit s at to is, number-none 2147483647 _ m)))

    pub positive-is : at ≤ length s → (n : ℕ) → number 2147483647 (digits_to s at to) ≡ Some n → Some (whole (to_z w32 n), to) ≡ placed read_pos s at
    unfolding read_pos check ◌>>◌
    positive-is h n m =
        let w = run-within is_digit s at to is h in
        let (d, v, l) = number-some 2147483647 _ n m in
        rw (cast_is n l) (sym (placed-reads read_pos s at _ to (record {
          from = w.0;
          to = w.1;
          is = rw (span-at is_digit s at to is, d, v, le-leb n 2147483647 l);
        })))

  -- one below 0: its digits stand behind the sign
  pub negative-unsigned : is_some (after (0x2D ∷ []) (drop at s)) ≡ false → None ≡ placed read_neg s at
  unfolding read_neg text ◌>>=◌
  negative-unsigned m = sym (placed-none read_neg s at (rw (after-no (0x2D ∷ []) (drop at s) m)))

  module _ (o : is_some (after (0x2D ∷ []) (drop at s)) ≡ true) (to : ℕ) (is : to ≡ run_end is_digit s (at + 1)) where
    signed : let d = digits_to s (at + 1) to in
        read_neg (drop at s) ≡ (check (is_decimal d && within 1 2147483648 (worth 0 d)) >> Some (whole (negsuc (worth 0 d - 1)), drop to s))
    unfolding read_neg text ◌>>=◌
    signed = rw ((byte-stands 0x2D s at o).1, span-at is_digit s (at + 1) to is)

    pub negative-bad : number 2147483648 (digits_to s (at + 1) to) ≡ None → None ≡ placed read_neg s at
    unfolding check within ◌>>◌
    negative-bad m = sym (placed-none read_neg s at (signed ∙ by_cases (leb 1 (worth 0 (digits_to s (at + 1) to)))
        (λ i. rw (i, number-none 2147483648 _ m))
        (λ i. rw (i, and-false))))

    pub negative-zero : (n : ℕ) → n ≡ 0 → number 2147483648 (digits_to s (at + 1) to) ≡ Some n → None ≡ placed read_neg s at
    unfolding check within ◌>>◌
    negative-zero n z m =
        let (d, v, l) = number-some 2147483648 _ n m in
        sym (placed-none read_neg s at (signed ∙ rw (d, v, z)))

    pub negative-is : (n : ℕ) (z : ℤ) → (n ≡ 0 → ⊥) → z ≡ negsuc (n - 1) → number 2147483648 (digits_to s (at + 1) to) ≡ Some n
        → Some (whole z, to) ≡ placed read_neg s at
    unfolding check ◌>>◌
    negative-is n z f i m =
        let w = run-within is_digit s (at + 1) to is (omega (arith, (byte-stands 0x2D s at o).0)) in
        let (d, v, l) = number-some 2147483648 _ n m in
        rw i (sym (placed-reads read_neg s at _ to (record {
          from = omega arith;
          to = w.1;
          is = signed ∙ rw (d, v, within-yes 1 2147483648 n (omega (arith, f)) l);
        })))

-- ── A value: what the reader of its kind reads ──
or-none : {A : Type 0} (o : Option A) → (o <|> None) ≡ o
unfolding ◌<|>◌
or-none None = refl
or-none (Some a) = refl

digit_not : (b : ℕ) → is_digit b ≡ true → (q : ℕ) → is_digit q ≡ false → eqb q b ≡ false
digit_not b h q n = ne_eqb q b (λ e. true≢false (sym h ∙ ap is_digit (sym e) ∙ n))

-- each first byte has its own reader: no other reads anything
pub true-first : (s : Bytes) → read_value (0x74 ∷ s) ≡ read_word (text "true") (truth true) (0x74 ∷ s)
unfolding Opened read_word
true-first s = simp or-none

pub false-first : (s : Bytes) → read_value (0x66 ∷ s) ≡ read_word (text "false") (truth false) (0x66 ∷ s)
unfolding Opened read_word
false-first s = simp or-none

pub quote-first : (s : Bytes) → read_value (0x22 ∷ s) ≡ read_string (0x22 ∷ s)
unfolding Opened
quote-first s = simp or-none

pub minus-first : (s : Bytes) → read_value (0x2D ∷ s) ≡ read_neg (0x2D ∷ s)
unfolding Opened
minus-first s = refl

pub digit-first : (b : ℕ) (s : Bytes) → is_digit b ≡ true → read_value (b ∷ s) ≡ read_pos (b ∷ s)
unfolding Opened
digit-first b s h =
    rw (digit_not b h 0x74 refl, digit_not b h 0x66 refl, digit_not b h 0x22 refl, digit_not b h 0x2D refl) (or-none (read_pos (b ∷ s)))

-- no value begins with any other byte
pub other-first : (b : ℕ) → (b ≡ 0x74 → ⊥) → (b ≡ 0x66 → ⊥) → (b ≡ 0x22 → ⊥) → (b ≡ 0x2D → ⊥) → is_digit b ≡ false → (s : Bytes) → read_value (b ∷ s) ≡ None
unfolding Opened
other-first b t f q m d s =
    rw (ne_eqb 0x74 b (λ e. t (sym e)), ne_eqb 0x66 b (λ e. f (sym e)), ne_eqb 0x22 b (λ e. q (sym e)), d, ne_eqb 0x2D b (λ e. m (sym e)))

module _ (s : Bytes) (at : ℕ) where
  pub word-is : at ≤ length s → (w : Bytes) (v : Value) → is_some (after w (drop at s)) ≡ true → Some (v, at + length w) ≡ placed (read_word w v) s at
  unfolding read_word ◌>>=◌
  word-is h w v y =
      let (e, k) = after-at w s at h y in
      sym (placed-reads (read_word w v) s at v (at + length w) (record { from = omega arith; to = k; is = rw e }))

  pub word-not : (w : Bytes) (v : Value) → is_some (after w (drop at s)) ≡ false → None ≡ placed (read_word w v) s at
  unfolding read_word ◌>>=◌
  word-not w v n = sym (placed-none (read_word w v) s at (rw (after-no w (drop at s) n)))

  string-placed : placed read_string s at ≡ (placed (read_between Text 0x22 0 32) s at >>= λ t. Some (string t.0, t.1))
  unfolding placed behind ◌>>=◌
  string-placed = rw (string-between (drop at s)) (go (read_between Text 0x22 0 32 (drop at s)))
    where
      go : (o : Option (Bytes × Bytes)) → behind s (o >>= λ t. Some (string t.0, t.1)) ≡ (behind s o >>= λ t. Some (string t.0, t.1))
      go None = refl
      go (Some t) = refl

  module _ (x : Option ℕ) (answer : text_answer s at x ≡ placed (read_between Text 0x22 0 32) s at) where
    pub string-not : x ≡ None → None ≡ placed read_string s at
    unfolding text_answer ◌>>=◌
    string-not i = sym (string-placed ∙ rw (told (text_answer s at) answer i))

    pub string-is : (e : ℕ) → x ≡ Some e → Some (string (take (e - 1 - (at + 1)) (drop (at + 1) s)), e) ≡ placed read_string s at
    unfolding text_answer ◌>>=◌
    string-is e i =
        let n : e - 1 - (at + 1) ≡ e - 2 - at = omega arith in
        sym (string-placed ∙ rw (told (text_answer s at) answer i, n))

    -- the part of the text that the string is
    pub string-inside : at ≤ length s → (e : ℕ) → x ≡ Some e → (at + 1 ≤ e - 1) × (e - 1 ≤ length s)
    string-inside h e i = let b = between-at Text 0x22 0 32 s at x answer h e i in (omega (arith, b.at_least), omega (arith, b.reads.to))

  -- ── What the function `value_at` answers ──
  pub value-over : length s ≤ at → None ≡ placed read_value s at
  unfolding Opened
  value-over h = sym (placed-none read_value s at (rw (over s at h)))

  -- what the reader of the first byte answers is the value
  pub value-is : at < length s → (f : Reader ℕ Value) → ((r : Bytes) → read_value (get_or s at 0 ∷ r) ≡ f (get_or s at 0 ∷ r)) → placed f s at ≡ placed read_value s at
  unfolding placed
  value-is h f own = ap (behind s) (rw (here 0 s at h) (sym (own _)))

-- ── For a caller of the function `value_at`: what its answer says ──
pub value-leaves : LeavesEnd read_value
value-leaves s t h = rest_of s (value_text t.0) t.1 (value-spells s t h).1

module _ (s : Bytes) (at : ℕ) (r : Option (Scalar × ℕ)) (answer : value_answer s r ≡ placed read_value s at) where
  pub value-bad : r ≡ None → read_value (drop at s) ≡ None
  value-bad i = none-placed read_value s at (told (value_answer s) answer i)

  pub value-reads : at ≤ length s → (v : Scalar) (e : ℕ) → r ≡ Some (v, e) → Reads read_value s at (value_in s v) e
  value-reads h v e i = reads-placed read_value s at value-leaves h (value_in s v) e (told (value_answer s) answer i)
