-- Request lines by positions: what the tests of a line say of the request that is read.
use Prim.Native.Nat.{ℕ, ◌+◌, ◌-◌, ◌≤◌, ◌<◌}
use mathlib.Core.Path.{◌≡◌, ap, ◌∙◌}
use mathlib.Core.Bool.{Bool, ◌&&◌}
use Rattle.std.specs.Prelude.{Option, None, Some}
use mathlib.Core.List.{[], ◌∷◌, ◌++◌}
use native.Mathlib.Omega.{arith}
use lib.ListN.{length, take, drop}
use Rattle.rows.specs.Positions.{placed, run_end}
use Rattle.rows.proofs.Positions.{here, over, run-within}
use Rattle.model.specs.Base.{Bytes, text, ◌>>=◌, ◌>>◌, ◌≐◌, check, between, after, number}
use Rattle.model.specs.Limits.{max_session}
use Rattle.model.specs.Names.{is_name}
use Rattle.model.specs.Values.{Value, read_value, value_of}
use Rattle.model.specs.Fields.{Keys}
use Rattle.model.specs.Paths.{keys_of}
use Rattle.model.specs.Requests.{Request, login, in_session, push, session_of, read_login, read_push}
use Rattle.values.specs.declared.value.Scalar.{Scalar}
use Rattle.values.specs.Scalars.{value_in, value_answer}
use Rattle.values.proofs.Values.{value-bad, value-reads}
use Rattle.lexical.specs.Classes.{is_not}
use Rattle.model.proofs.Reading.{cut-some}
use Rattle.model.proofs.Spelling.{keys-as-written, value-as-written}
use Rattle.requests.specs.Lines.{pushed_text, PushStands, Behind, ReadsAs, SlotAfter}
use Rattle.requests.specs.declared.Ask.TheVariants.{Get, Push, Logout}
use Rattle.requests.specs.declared.Request.TheVariants.{Login, InSession}
use Rattle.requests.specs.declared.Request as code
use Rattle.requests.proofs.Cuts.{cut-none, cut-here}

-- ── The word that a line begins with ──
module _ (w s : Bytes) (r : Option ℕ) (answer : Behind w s r) where
  pub word-ends : {e : ℕ} → r ≡ Some e → (after w s ≡ Some (drop e s)) × (e ≤ length s)
  word-ends is = rw is at answer

  pub word-other : r ≡ None → after w s ≡ None
  word-other is = rw is at answer

pub other_word : {A : Type 0} (w s : Bytes) (f : Bytes → Option A) → after w s ≡ None → None ≡ (after w s >>= f)
unfolding ◌>>=◌
other_word w s f h = rw h

-- ── `LOGIN;user;key`, the user from a position on ──
-- the user ends at m, and what is read goes by whether both are names
pub record UserEnds (s : Bytes) (from m : ℕ) : Type 0 where
  pub starts : from ≤ m
  pub to : m < length s
  pub read : {u k : Bool} → is_name (take (m - from) (drop from s)) ≡ u → is_name (drop (m + 1) s) ≡ k
      → (check (u && k) >> Some (login (take (m - from) (drop from s)) (drop (m + 1) s))) ≡ read_login s

module _ (s : Bytes) (from : ℕ) (begins : after (text "LOGIN;") s ≡ Some (drop from s)) (m : ℕ) (is : m ≡ run_end (is_not 0x3B) s from) where
  pub user-last : m ≡ length s → None ≡ read_login s
  unfolding read_login ◌>>=◌
  user-last h = rw (begins, cut-none 0x3B s from m is (omega arith))

  pub user-ends : from ≤ length s → (m ≡ length s → ⊥) → UserEnds s from m
  unfolding read_login ◌>>=◌
  user-ends long f =
      let w = run-within (is_not 0x3B) s from m is long in
      let to : m < length s = omega (arith, f) in
      record { starts = w.0; to = to; read = λ p q. rw (begins, cut-here 0x3B s from m is to, p, q) }

-- ── `PUSH;session;path;value` ──
-- what is read of the three together
unfoldable pub push_of : Option ℕ → Option Keys → Option Value → Option Request
push_of n p v = n >>= λ n. p >>= λ p. v >>= λ v. Some (in_session n (push p v))

-- the session ends at a and the path at b, and what is read goes by what each of the three is
pub record PathEnds (s : Bytes) (from a b : ℕ) : Type 0 where
  pub starts : from ≤ a
  pub between : a < b
  pub to : b < length s
  pub parts : drop (a + 1) s ≡ take (b - (a + 1)) (drop (a + 1) s) ++ 0x3B ∷ drop (b + 1) s
  pub read : {n : Option ℕ} {p : Option Keys} {v : Option Value} → number max_session (take (a - from) (drop from s)) ≡ n
      → keys_of (take (b - (a + 1)) (drop (a + 1) s)) ≡ p → value_of (drop (b + 1) s) ≡ v → push_of n p v ≡ read_push s

module _ (s : Bytes) (from : ℕ) (begins : after (text "PUSH;") s ≡ Some (drop from s)) (a : ℕ) (is : a ≡ run_end (is_not 0x3B) s from) where
  pub session-last : a ≡ length s → None ≡ read_push s
  unfolding read_push ◌>>=◌
  session-last h = rw (begins, cut-none 0x3B s from a is (omega arith))

  module _ (long : from ≤ length s) (f : a ≡ length s → ⊥) where
    pub session-ends : (from ≤ a) × (a < length s)
    session-ends = omega (arith, run-within (is_not 0x3B) s from a is long, f)

    module _ (b : ℕ) (is₁ : b ≡ run_end (is_not 0x3B) s (a + 1)) where
      pub path-last : b ≡ length s → None ≡ read_push s
      unfolding read_push ◌>>=◌
      path-last h =
          rw (begins, cut-here 0x3B s from a is session-ends.1, cut-none 0x3B s (a + 1) b is₁ (omega arith))

      pub path-ends : (b ≡ length s → ⊥) → PathEnds s from a b
      unfolding read_push session_of push_of ◌>>=◌
      path-ends g =
          let (starts, inside) = session-ends in
          let w = run-within (is_not 0x3B) s (a + 1) b is₁ (omega arith) in
          let to : b < length s = omega (arith, g) in
          record {
            starts = starts;
            between = omega arith;
            to = to;
            parts = (cut-some 0x3B (drop (a + 1) s) _ (cut-here 0x3B s (a + 1) b is₁ to)).0;
            read = λ p q r. rw (begins, cut-here 0x3B s from a is inside, cut-here 0x3B s (a + 1) b is₁ to, p, q, r);
          }

-- path and value have one spelling each, so what is pushed stands behind the session
pub push-stands : (s : Bytes) (from a b : ℕ) (p : Keys) (v : Value) → PathEnds s from a b → keys_of (take (b - (a + 1)) (drop (a + 1) s)) ≡ Some p → value_of (drop (b + 1) s) ≡ Some v
    → PushStands s p (a + 1) v
unfolding pushed_text text between
push-stands s from a b p v e k w = record { within = omega (arith, e.between, e.to); pushed = e.parts ∙ rw (keys-as-written _ _ k, value-as-written _ _ w) }

-- ── The slot for a path ──
-- it keeps its bytes where none is read: an answer that holds whatever the path is no push
pub slot_same : {read : Bytes → Option Request} {s : Bytes} {r : Option code.Request} → ((p : Keys) → ReadsAs read s p r) → {before now : Bytes} → now ≡ before → SlotAfter r before now
slot_same {r = Some (Login from m)} h same = same
slot_same {r = Some (InSession n Get)} h same = same
slot_same {r = Some (InSession n (Push at v))} h same =
    let one = (h []).asks in
    let two = (h ([] ∷ [])).asks in
    let equal : ◌≡◌ {A = Keys} [] ([] ∷ []) = cc in
    absurd (omega (arith, ap length equal))
slot_same {r = Some (InSession n Logout)} h same = same
slot_same {r = None} h same = same

-- ── A value that is the rest of a line ──
module _ (s : Bytes) (at : ℕ) (r : Option (Scalar × ℕ)) (answer : value_answer s r ≡ placed read_value s at) where
  pub whole-bad : r ≡ None → value_of (drop at s) ≡ None
  unfolding value_of ◌>>=◌
  whole-bad i = rw (value-bad s at r answer i)

  module _ (h : at ≤ length s) (v : Scalar) (e : ℕ) (i : r ≡ Some (v, e)) where
    pub whole-more : (e ≡ length s → ⊥) → value_of (drop at s) ≡ None
    unfolding value_of ◌>>=◌ ◌>>◌ check ◌≐◌
    whole-more f =
        let w = value-reads s at r answer h v e i in
        rw (w.is, here 0 s e (omega (arith, w.to, f)))

    pub whole_is : e ≡ length s → value_of (drop at s) ≡ Some (value_in s v)
    unfolding value_of ◌>>=◌ ◌>>◌ check ◌≐◌
    whole_is f = rw ((value-reads s at r answer h v e i).is, over s e (omega arith))
