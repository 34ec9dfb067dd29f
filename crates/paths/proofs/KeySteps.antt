-- A key in brackets and single quotes: what `key_step` answers, what its answer says, and one turn of a loop that reads keys.
use Prim.Native.Nat.{ℕ, ◌+◌, ◌-◌, ◌≤◌, ◌<◌}
use mathlib.Core.Path.{◌≡◌, sym, ap, ◌∙◌}
use mathlib.Core.Bool.{true, false}
use Rattle.std.specs.Prelude.{Option, None, Some}
use mathlib.Core.List.{[], ◌∷◌, ◌++◌}
use native.Mathlib.Omega.{arith}
use lib.ListN.{length, take, drop, length-append, length-take, length-drop}
use Rattle.rows.specs.Positions.{Reader, Reads, placed, LeavesEnd}
use Rattle.rows.proofs.Positions.{placed-reads, placed-none, none-placed, reads-placed}
use Rattle.model.specs.Base.{Bytes, text, is_some, after, within}
use Rattle.model.specs.Limits.{max_key, max_depth}
use Rattle.model.specs.Fields.{Keys}
use Rattle.model.specs.Paths.{in_brackets, read_key_step}
use Rattle.model.proofs.Reading.{within-bounds}
use Rattle.lexical.specs.declared.class.Class.TheVariants.{Name}
use Rattle.lexical.specs.Classes.{read_between, text_answer}
use Rattle.lexical.proofs.Runs.{byte-stands, bind-same}
use Rattle.lexical.proofs.Between.{Stands, between-gives, between-leaves, between-bad, between-at, quoted-between}
use Rattle.paths.specs.Fields.{key_answer}
use Rattle.layout.proofs.Named.{push-whole}
use Rattle.paths.proofs.InBrackets.{brackets-unopened, brackets-empty, brackets-unclosed, brackets-closed, brackets-give, brackets-leave}
use Rattle.paths.proofs.WholePaths.{left, left_step}

-- the bytes of a key, between single quotes
abbrev in_quotes : Reader ℕ Bytes
in_quotes = read_between Name 0x27 1 max_key

key-brackets : (s : Bytes) → read_key_step s ≡ in_brackets in_quotes s
unfolding read_key_step in_brackets text
key-brackets s = bind-same (after (0x5B ∷ []) s) _ _ (λ s₁. rw (quoted-between 0x27 s₁))

-- b was read as a key, and r is the rest
key-is : (s b r : Bytes) → read_key_step s ≡ Some (b, r)
    → (s ≡ 0x5B ∷ (0x27 ∷ (b ++ (0x27 ∷ (0x5D ∷ r))))) × (within 1 max_key (length b) ≡ true)
key-is s b r h =
    let w = brackets-give in_quotes s b r (sym (key-brackets s) ∙ h) in
    let q = between-gives Name 0x27 1 max_key w.behind b (0x5D ∷ r) w.reads in
    (w.is ∙ ap (0x5B ∷◌) q.is, q.fits)

key-leaves : LeavesEnd read_key_step
key-leaves s t h = brackets-leave in_quotes (between-leaves Name 0x27 1 max_key) s t (sym (key-brackets s) ∙ h)

-- a key stands from `at` to e
pub record KeyStands (s : Bytes) (at e : ℕ) : Type 0 where
  pub at_least : at + 5 ≤ e
  pub at_most : e ≤ at + 4 + max_key
  pub reads : Reads read_key_step s at (take (e - 4 - at) (drop (at + 2) s)) e

module _ (s : Bytes) (at : ℕ) where
  -- ── What the function `key_step` answers ──
  key-not : in_brackets in_quotes (drop at s) ≡ None → key_answer s at None ≡ placed read_key_step s at
  unfolding key_answer
  key-not h = sym (placed-none _ s at (key-brackets (drop at s) ∙ h))

  pub key-unopened : is_some (after (0x5B ∷ []) (drop at s)) ≡ false → key_answer s at None ≡ placed read_key_step s at
  key-unopened h = key-not (brackets-unopened in_quotes s at h)

  -- behind the opening bracket `between` answers x
  module _ (o : is_some (after (0x5B ∷ []) (drop at s)) ≡ true) (x : Option ℕ) (inside : text_answer s (at + 1) x ≡ placed in_quotes s (at + 1)) where
    pub key-empty : x ≡ None → key_answer s at None ≡ placed read_key_step s at
    key-empty i = key-not (brackets-empty in_quotes s at o (between-bad Name 0x27 1 max_key s (at + 1) x inside i))

    module _ (e : ℕ) (i : x ≡ Some e) where
      stands : Stands Name 0x27 1 max_key s (at + 1) e
      stands = between-at Name 0x27 1 max_key s (at + 1) x inside (byte-stands 0x5B s at o).0 e i

      pub key-unclosed : is_some (after (0x5D ∷ []) (drop e s)) ≡ false → key_answer s at None ≡ placed read_key_step s at
      key-unclosed n = key-not (brackets-unclosed in_quotes s at o _ e stands.reads n)

      pub key-closed : is_some (after (0x5D ∷ []) (drop e s)) ≡ true → key_answer s at (Some (e + 1)) ≡ placed read_key_step s at
      unfolding key_answer
      key-closed c =
          let r = brackets-closed in_quotes s at o _ e stands.reads c in
          let n : e + 1 - 4 - at ≡ e - 2 - (at + 1) = omega arith in
          let m : at + 2 ≡ at + 1 + 1 = omega arith in
          rw (n, m) (sym (placed-reads _ s at _ (e + 1) (record { from = r.from; to = r.to; is = key-brackets (drop at s) ∙ r.is })))

  -- ── For a caller of it: what its answer says ──
  module _ (x : Option ℕ) (answer : key_answer s at x ≡ placed read_key_step s at) where
    pub key-bad : x ≡ None → read_key_step (drop at s) ≡ None
    unfolding key_answer
    key-bad i = none-placed _ s at (sym (rw i at answer))

    pub key-at : at ≤ length s → (e : ℕ) → x ≡ Some e → KeyStands s at e
    unfolding key_answer
    key-at h e i =
        let r = reads-placed _ s at key-leaves h _ e (sym (rw i at answer)) in
        let q = key-is _ _ _ r.is in
        let w = within-bounds 1 max_key _ q.1 in
        let l : e ≡ at + 4 + length (take (e - 4 - at) (drop (at + 2) s)) =
        omega (arith, length-drop at s, length-drop e s, r.to, simp length-append at (ap length q.0)) in
        record { at_least = omega arith; at_most = omega arith; reads = r }

-- a key that was read is pushed behind the keys p: then they are p₁
module _ (s : Bytes) (at e : ℕ) (k : KeyStands s at e) (p p₁ : Keys)
    (pushed : p₁ ≡ take max_depth (p ++ take max_key (take (e - 2 - (at + 2)) (drop (at + 2) s)) ∷ []))
    (room : length p < max_depth) where
  key_pushed : p₁ ≡ p ++ take (e - 4 - at) (drop (at + 2) s) ∷ []
  key_pushed =
      let m : e - 2 - (at + 2) ≡ e - 4 - at = omega arith in
      let key = take (e - 4 - at) (drop (at + 2) s) in
      pushed ∙ rw m (push-whole max_key max_depth p key room (simp length-take (omega (arith, k.at_most))))

  pub key-turn : at < length s → left read_key_step p (drop at s) ≡ left read_key_step p₁ (drop e s)
  key-turn h = rw key_pushed (left_step read_key_step s at p h room _ e k.reads)
