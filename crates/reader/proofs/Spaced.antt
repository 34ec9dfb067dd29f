-- Tokens of record text by positions: what a reader reads, with the blanks behind it.
use Rattle.std.specs.Prelude.{if◌then◌else◌}
use Prim.Native.Nat.{ℕ, suc, ◌+◌, ◌-◌, ◌≤◌, ◌<◌}
use mathlib.Core.Path.{◌≡◌, refl, sym, ap, ◌∙◌}
use Rattle.std.specs.Prelude.{Option, None, Some, option_map}
use mathlib.Core.Bool.{true, false}
use mathlib.Core.List.{[], ◌∷◌}
use native.Mathlib.Omega.{arith}
use borrow.Author.Tests.{eq-eqb, ne_eqb, eqb-true}
use lib.Dec.{eqb}
use lib.ListN.{length, get_or, take, drop, length-drop}
use Rattle.rows.specs.Positions.{Reader, Reads, placed, run_end, LeavesEnd}
use Rattle.rows.proofs.Positions.{here, over, run-within, placed-reads, placed-none, none-placed, reads-placed}
use Rattle.model.specs.Base.{Bytes, text, ◌>>=◌, ◌>>◌, check, after, span}
use Rattle.model.specs.Names.{name_byte, is_key}
use Rattle.model.specs.Values.{read_value}
use Rattle.model.specs.Paths.{read_quoted}
use Rattle.model.specs.RecordText.{is_blank, skip, token, read_key}
use Rattle.model.proofs.Lists.{by_cases, none-some}
use Rattle.model.proofs.Reading.{bind-some, some_same, after-some, span-joins}
use Rattle.lexical.specs.declared.class.Class.TheVariants.{Name}
use Rattle.values.specs.declared.value.Scalar.{Scalar}
use Rattle.lexical.specs.Classes.{read_between}
use Rattle.values.specs.Scalars.{value_in, value_answer}
use Rattle.lexical.proofs.Runs.{span-at, rest_of, bind-same, bind-bind, check_bind}
use Rattle.lexical.proofs.Between.{Stands, Quoted, between-gives, between-leaves, quoted-between}
use Rattle.values.proofs.Values.{told, value-leaves}
use Rattle.lexical.proofs.Readers.{rest-on, leaves-bind, leaves_word, leaves-some}
use Rattle.reader.specs.Tokens.{is_structural, read_structural, read_token, read_scalar, read_member, token_byte, token_answer, key_answer, MemberInText}
use Rattle.reader.specs.declared.tokens.Key.{Key}
use Rattle.reader.specs.declared.tokens.Token.{Token}
use Rattle.reader.specs.declared.tokens.Token.TheVariants.{Open, Close, Colon, Comma}
use Rattle.model.specs.Limits.{max_key}

-- ── Blanks ──
pub skip_at : (s : Bytes) (at e : ℕ) → e ≡ run_end is_blank s at → skip (drop at s) ≡ drop e s
unfolding skip
skip_at s at e is = ap (λ (t : Bytes × Bytes). t.1) (span-at is_blank s at e is)

pub skip-leaves : (s : Bytes) → (n : ℕ) × (n ≤ length s) × (skip s ≡ drop n s)
unfolding skip
skip-leaves s = rest_of s (span is_blank s).0 (span is_blank s).1 (sym (span-joins is_blank s))

leaves-skip : {A : Type 0} (a : A) → LeavesEnd (λ (x : Bytes). Some (a, skip x))
leaves-skip {A} a s t h =
    let w = skip-leaves s in
    (w.0, w.1, sym (ap (λ (u : A × Bytes). u.1) (some_same h)) ∙ w.2)

-- ── A reader g that reads as f does, and then the blanks ──
module _ {A : Type 0} (f g : Reader ℕ A) (spaced : (x : Bytes) → g x ≡ (f x >>= λ t. Some (t.0, skip t.1))) where
  module _ (s : Bytes) (at : ℕ) where
    pub spaced-none : f (drop at s) ≡ None → None ≡ placed g s at
    unfolding ◌>>=◌
    spaced-none h = sym (placed-none g s at (spaced (drop at s) ∙ rw h))

    pub spaced-reads : (a : A) (e : ℕ) → Reads f s at a e → (n : ℕ) → n ≡ run_end is_blank s e → Some (a, n) ≡ placed g s at
    unfolding ◌>>=◌
    spaced-reads a e r n is =
        let w = run-within is_blank s e n is r.to in
        sym (placed-reads g s at a n (record {
          from = omega (arith, r.from);
          to = w.1;
          is = spaced (drop at s) ∙ rw (r.is, skip_at s e n is);
        }))

  pub spaced-leaves : LeavesEnd f → LeavesEnd g
  spaced-leaves p s t h = leaves-bind f (λ a x. Some (a, skip x)) p (λ a. leaves-skip a) s t (sym (spaced s) ∙ h)

-- the blanks behind what stands last
abbrev with_rest : {A : Type 0} → A → Bytes → Option (A × Bytes)
with_rest a r = Some (a, r)

abbrev blanks-off : {A : Type 0} → A × Bytes → Option (A × Bytes)
blanks-off t = Some (t.0, skip t.1)

blanks-last : {A : Type 0} (a : A) (o : Option Bytes) → ((o >>= λ r. Some (skip r)) >>= with_rest a) ≡ ((o >>= with_rest a) >>= blanks-off)
unfolding ◌>>=◌
blanks-last a None = refl
blanks-last a (Some r) = refl

-- ── One byte ──
abbrev read_byte : ℕ → Reader ℕ (Unit {0})
read_byte b s = after (b ∷ []) s >>= λ r. Some (tt, r)

module _ (b : ℕ) where
  byte-spaced : (s : Bytes) → read_token b s ≡ (read_byte b s >>= λ t. Some (t.0, skip t.1))
  unfolding read_token token
  byte-spaced s = blanks-last tt (after (b ∷ []) s)

  pub token-leaves : LeavesEnd (read_token b)
  token-leaves = spaced-leaves _ _ byte-spaced (leaves_word (b ∷ []) _ (leaves-some tt))

-- ── The tokens of one byte ──
-- what was read, where it is the given one
abbrev only : ℕ → ℕ × Bytes → Option (Unit {0} × Bytes)
only b t = if eqb b t.0 then Some (tt, t.1) else None

structural-given : (b : ℕ) → is_structural b ≡ true → (x : Bytes) → read_token b x ≡ (read_structural x >>= only b)
unfolding read_token token after read_structural ◌>>=◌
structural-given b h [] = refl
structural-given b h (c ∷ s) = by_cases (eqb b c)
    (λ e. let k : is_structural c ≡ true = rw (eqb-true b c e) at h in rw (k, e))
    (λ e. by_cases (is_structural c) (λ k. rw (k, e)) (λ k. rw (k, e)))

is-structural : (t : Token) → is_structural (token_byte t) ≡ true
unfolding is_structural
is-structural Open = refl
is-structural Close = refl
is-structural Colon = refl
is-structural Comma = refl

structural-leaves : LeavesEnd read_structural
unfolding read_structural
structural-leaves [] t h = none-some h
structural-leaves (b ∷ s) t h = by_cases (is_structural b)
    (λ k.
    let w = skip-leaves s in
    let same : ◌≡◌ {A = ℕ × Bytes} (b, skip s) t = some_same (rw k at h) in
    (suc w.0, omega (arith, w.1), sym (ap (λ (u : ℕ × Bytes). u.1) same) ∙ w.2))
    (λ k. none-some (rw k at h))

module _ (s : Bytes) (at : ℕ) where
  pub structural-over : length s ≤ at → None ≡ placed read_structural s at
  unfolding read_structural
  structural-over h = sym (placed-none read_structural s at (rw (over s at h)))

  pub structural-not : at < length s → is_structural (get_or s at 0) ≡ false → None ≡ placed read_structural s at
  unfolding read_structural
  structural-not h k = sym (placed-none read_structural s at (rw (here 0 s at h, k)))

  pub structural-is : at < length s → (n : ℕ) → n ≡ run_end is_blank s (at + 1) → (t : Token) → get_or s at 0 ≡ token_byte t → Some (token_byte t, n) ≡ placed read_structural s at
  unfolding read_structural
  structural-is h n is t e =
      let w = run-within is_blank s (at + 1) n is (omega arith) in
      sym (placed-reads read_structural s at (token_byte t) n (record {
        from = omega arith;
        to = w.1;
        is = rw (here 0 s at h, e, is-structural t, skip_at s (at + 1) n is);
      }))

-- ── A key, and a value ──
pub key-spaced : (s : Bytes) → read_key s ≡ (read_between Name 0x22 1 max_key s >>= λ t. Some (t.0, skip t.1))
unfolding read_key read_quoted token text
key-spaced s =
    bind-same (after (0x22 ∷ []) s) _ _ (λ s₁. let (k, r) = span name_byte s₁ in ap (λ (o : Option (Bytes × Bytes)). check (is_key k) >> o) (blanks-last k (after (0x22 ∷ []) r)) ∙ sym (check_bind (is_key k) _ _))
    ∙ sym (bind-bind (after (0x22 ∷ []) s) _ _)
    ∙ ap (λ (o : Option (Bytes × Bytes)). o >>= λ t. Some (t.0, skip t.1)) (quoted-between 0x22 s)

pub key-leaves : LeavesEnd read_key
key-leaves = spaced-leaves _ _ key-spaced (between-leaves Name 0x22 1 max_key)

module _ (s : Bytes) (at : ℕ) where
  -- a key that stands in quotes
  pub key-is : (e : ℕ) → Stands Name 0x22 1 max_key s at e → (n : ℕ) → n ≡ run_end is_blank s e → Some (take (e - 1 - (at + 1)) (drop (at + 1) s), n) ≡ placed read_key s at
  key-is e q n is =
      let m : e - 1 - (at + 1) ≡ e - 2 - at = omega arith in
      rw m (spaced-reads _ _ key-spaced s at _ e q.reads n is)

pub scalar-spaced : (s : Bytes) → read_scalar s ≡ (read_value s >>= λ t. Some (t.0, skip t.1))
unfolding read_scalar
scalar-spaced s = refl

pub scalar-leaves : LeavesEnd read_scalar
scalar-leaves = spaced-leaves _ _ scalar-spaced value-leaves

-- ── For a caller: what an answer says ──
-- the token of a byte: two tokens have two bytes
token_of : ℕ → Option Token
token_of b = if eqb b 0x7B then Some Open else (if eqb b 0x7D then Some Close else (if eqb b 0x3A then Some Colon else Some Comma))

of-byte : (t : Token) → token_of (token_byte t) ≡ Some t
unfolding token_of
of-byte Open = refl
of-byte Close = refl
of-byte Colon = refl
of-byte Comma = refl

module _ (s : Bytes) (at : ℕ) where
  -- no token is no given one
  pub token-absent : None ≡ placed read_structural s at → (t : Token) → read_token (token_byte t) (drop at s) ≡ None
  unfolding ◌>>=◌
  token-absent h t = structural-given (token_byte t) (is-structural t) (drop at s) ∙ rw (none-placed read_structural s at (sym h))

  module _ (t : Token) (e : ℕ) (answer : Some (token_byte t, e) ≡ placed read_structural s at) where
    structural-reads : at ≤ length s → Reads read_structural s at (token_byte t) e
    structural-reads h = reads-placed read_structural s at structural-leaves h (token_byte t) e (sym answer)

    -- the given token, or another
    pub token-stands : at ≤ length s → Reads (read_token (token_byte t)) s at tt e
    unfolding ◌>>=◌
    token-stands h =
        let r = structural-reads h in
        record { from = r.from; to = r.to; is = structural-given (token_byte t) (is-structural t) (drop at s) ∙ rw (r.is, eq-eqb (token_byte t) (token_byte t) refl) }

    pub token-other : at ≤ length s → (u : Token) → (t ≡ u → ⊥) → read_token (token_byte u) (drop at s) ≡ None
    unfolding ◌>>=◌
    token-other h u f =
        let r = structural-reads h in
        let n : token_byte u ≡ token_byte t → ⊥ = λ i. f (some_same (sym (of-byte t) ∙ ap token_of (sym i) ∙ of-byte u)) in
        structural-given (token_byte u) (is-structural u) (drop at s) ∙ rw (r.is, ne_eqb (token_byte u) (token_byte t) n)

-- the same of an answer that is not known to be a token
pub token-not : (s : Bytes) (at : ℕ) (r : Option (Token × ℕ)) → option_map token_answer r ≡ placed read_structural s at → at ≤ length s
    → (u : Token) → ((e : ℕ) → r ≡ Some (u, e) → ⊥) → read_token (token_byte u) (drop at s) ≡ None
token-not s at None answer h u f = token-absent s at answer u
token-not s at (Some (t, e)) answer h u f = token-other s at t e answer h u (λ i. f e (rw i refl))

module _ (s : Bytes) (at : ℕ) (x : Option (Scalar × ℕ)) (answer : value_answer s x ≡ placed read_scalar s at) where
  pub scalar-bad : x ≡ None → read_scalar (drop at s) ≡ None
  scalar-bad i = none-placed read_scalar s at (told (value_answer s) answer i)

  pub scalar-reads : at ≤ length s → (v : Scalar) (e : ℕ) → x ≡ Some (v, e) → Reads read_scalar s at (value_in s v) e
  scalar-reads h v e i = reads-placed read_scalar s at scalar-leaves h (value_in s v) e (told (value_answer s) answer i)

-- a token as the model has it; it takes its byte
module _ (b : ℕ) (s : Bytes) where
  pub token-none : read_token b s ≡ None → token (b ∷ []) s ≡ None
  unfolding read_token ◌>>=◌
  token-none h = go (token (b ∷ []) s) h
    where
      go : (o : Option Bytes) → (o >>= with_rest {A = Unit {0}} tt) ≡ None → o ≡ None
      go None h = refl
      go (Some r) h = none-some (sym h)

  pub token-some : (r : Bytes) → read_token b s ≡ Some (tt, r) → token (b ∷ []) s ≡ Some r
  unfolding read_token
  token-some r h = bind-some _ _ _ h λ u i j. i ∙ ap (λ (t : Unit {0} × Bytes). Some t.1) (some_same j)

  token-shortens : (r : Bytes) → token (b ∷ []) s ≡ Some r → length r < length s
  unfolding token
  token-shortens r h = bind-some _ _ _ h λ u i j.
      let w = skip-leaves u in
      omega (arith, ap length (after-some (b ∷ []) s u i), ap length (some_same j), ap length w.2, length-drop w.0 u)

pub token-moves : (b : ℕ) (s : Bytes) (at e : ℕ) → Reads (read_token b) s at tt e → at < e
token-moves b s at e r = omega (arith, token-shortens b _ _ (token-some b _ _ r.is), length-drop at s, length-drop e s, r.to)

pub token-rest : (b : ℕ) (s r : Bytes) → token (b ∷ []) s ≡ Some r → (n : ℕ) × (n ≤ length s) × (r ≡ drop n s)
unfolding read_token ◌>>=◌
token-rest b s r i = token-leaves b s (tt, r) (rw i)

pub token-then : {A : Type 0} (b : ℕ) (f : Reader ℕ A) → LeavesEnd f → LeavesEnd (λ x. token (b ∷ []) x >>= f)
token-then b f p s t h = bind-some (token (b ∷ []) s) f t h λ r i j. rest-on s r t.1 (token-rest b s r i) (p r t j)

-- ── A key and its colon ──
pub member-leaves : LeavesEnd read_member
unfolding read_member text
member-leaves = leaves-bind read_key (λ k x. token (0x3A ∷ []) x >>= λ y. Some (k, y)) key-leaves (λ k. token-then 0x3A _ (leaves-some k))

module _ (s : Bytes) (at : ℕ) where
  pub member-no-key : read_key (drop at s) ≡ None → None ≡ placed read_member s at
  unfolding read_member ◌>>=◌
  member-no-key h = sym (placed-none read_member s at (rw h))

  module _ (name : Bytes) (k : ℕ) (key : Reads read_key s at name k) where
    pub member-no-colon : read_token 0x3A (drop k s) ≡ None → None ≡ placed read_member s at
    unfolding read_member text ◌>>=◌
    member-no-colon h = sym (placed-none read_member s at (rw (key.is, token-none 0x3A _ h)))

    pub member_is : (v : ℕ) → Reads (read_token 0x3A) s k tt v → Some (name, v) ≡ placed read_member s at
    unfolding read_member text ◌>>=◌
    member_is v colon = sym (placed-reads read_member s at name v (record {
      from = omega (arith, key.from, colon.from);
      to = colon.to;
      is = rw (key.is, token-some 0x3A _ _ colon.is);
    }))

-- a member takes a byte
pub member-moves : (s : Bytes) (at : ℕ) (name : Bytes) (v : ℕ) → Reads read_member s at name v → at < v
unfolding read_member text
member-moves s at name v r =
    bind-some (read_key (drop at s)) _ _ r.is λ t i j.
    bind-some _ _ _ j λ u m n.
    let w = key-leaves (drop at s) t i in
    let same : ◌≡◌ {A = Bytes × Bytes} (t.0, u) (name, drop v s) = some_same n in
    omega (arith, token-shortens 0x3A t.1 u m, ap length w.2, length-drop w.0 (drop at s), ap (λ (p : Bytes × Bytes). length p.1) same, length-drop at s, length-drop v s, r.to)

-- a member's key stands between its quotes
pub member-quoted : (l name r : Bytes) → read_member l ≡ Some (name, r) → (r₁ : Bytes) × Quoted Name 0x22 1 max_key l name r₁
unfolding read_member
member-quoted l name r h =
    bind-some (read_key l) _ _ h λ t i j.
    bind-some _ _ _ j λ u m n.
    bind-some (read_between Name 0x22 1 max_key l) _ _ (sym (key-spaced l) ∙ i) λ q v w.
    let e : q.0 ≡ name = ap (λ (p : Bytes × Bytes). p.0) (some_same w) ∙ ap (λ (p : Bytes × Bytes). p.0) (some_same n) in
    (q.1, rw e at (between-gives Name 0x22 1 max_key l q.0 q.1 v))

-- a member whose key k stands there, with its colon
pub record MemberStands (s : Bytes) (at : ℕ) (k : Key) : Type 0 where
  pub quote : k.from ≡ at + 1
  pub least : k.from < k.to
  pub colon : k.to + 1 < k.next
  pub reads : Reads read_member s at (key_answer s k).0 k.next

pub member-stands : (s : Bytes) (at : ℕ) (k : Key) → Some (key_answer s k) ≡ placed read_member s at → MemberInText at k s → at ≤ length s → MemberStands s at k
member-stands s at k answer inside h =
    record { quote = inside.0; least = inside.1; colon = inside.2; reads = reads-placed read_member s at member-leaves h _ _ (sym answer) }
