-- A word at one of several positions, and the keys that stand at them.
use Prim.Native.Nat.{ℕ, ◌+◌, ◌-◌, ◌≤◌, ◌<◌}
use mathlib.Core.Path.{◌≡◌, refl, sym, ap, ◌∙◌}
use mathlib.Core.Bool.{true, false, ◌&&◌, ◌||◌}
use mathlib.Core.List.{List, [], ◌∷◌, ◌++◌}
use native.Mathlib.Omega.{arith}
use borrow.Author.Tests.{ne_eqb, ltb-false}
use lib.Dec.{eqb, ltb}
use lib.ListN.{length, take, drop, length-drop}
use lib.Seq.{drop-drop, length-take-le, take-append-add}
use Rattle.std.specs.List.{list_any}
use Rattle.rows.proofs.Positions.{over}
use Rattle.model.specs.Base.{Bytes, any, all, among, is_some, after, within, ◌≐◌}
use Rattle.model.specs.Names.{name_byte}
use Rattle.model.specs.RecordText.{Node, Members, no_members, member, keys_in}
use Rattle.model.proofs.Lists.{by_cases, never, and_both}
use Rattle.lexical.specs.declared.class.Class.TheVariants.{Name}
use Rattle.lexical.proofs.Between.{Quoted}
use Rattle.lexical.proofs.Slices.{after-yes}
use Rattle.reader.specs.Summaries.{stands_at_one}
use Rattle.model.specs.Limits.{max_key}

-- no word stands in a text that is shorter
after-short : (w s : Bytes) → length s < length w → is_some (after w s) ≡ false
after-short w s h = by_cases (is_some (after w s)) (λ e. absurd (omega (arith, (after-yes w s e).1))) (λ e. e)

-- ── A position at or behind the end of the text is none at which a word stands ──
stands-within : (w s : Bytes) → 0 < length w → (i : ℕ) → (ltb i (length s) && is_some (after w (drop i s))) ≡ is_some (after w (drop i s))
stands-within w s h i = by_cases (ltb i (length s))
    (λ e. rw e)
    (λ e. let q : length s ≤ i = omega (arith, ltb-false i (length s) e) in rw (e, over s i q, after-short w [] (omega arith)))

pub stands-listed : (w s : Bytes) → 0 < length w → (at : List ℕ) → list_any (λ i. ltb i (length s) && is_some (after w (drop i s))) at ≡ stands_at_one w s at
unfolding stands_at_one any
stands-listed w s h [] = refl
stands-listed w s h (i ∷ at) = rw (stands-within w s h i, stands-listed w s h at)

-- one position more
stands-more : (w s : Bytes) (at : List ℕ) (a : ℕ) → stands_at_one w s (at ++ a ∷ []) ≡ (is_some (after w (drop a s)) || stands_at_one w s at)
unfolding stands_at_one any
stands-more w s [] a = refl
stands-more w s (b ∷ at) a = by_cases (is_some (after w (drop b s)))
    (λ e. rw e (by_cases (is_some (after w (drop a s))) (λ f. rw f) (λ f. rw f)))
    (λ e. rw e (stands-more w s at a))

-- ── A key and the quote behind it, which is in no key, say the key ──
no-quote : (x : ℕ) → name_byte x ≡ true → x ≡ 0x22 → ⊥
unfolding name_byte within
no-quote x h e = never (sym h ∙ rw e)

same_key : (k b r : Bytes) → all name_byte k ≡ true → all name_byte b ≡ true → is_some (after (k ++ 0x22 ∷ []) (b ++ 0x22 ∷ r)) ≡ (k ≐ b)
unfolding after all is_some ◌≐◌
same_key [] [] r p q = refl
same_key [] (y ∷ b) r p q = rw (ne_eqb 0x22 y (λ e. no-quote y (and_both (name_byte y) _ q).0 (sym e)))
same_key (x ∷ k) [] r p q = rw (ne_eqb x 0x22 (no-quote x (and_both (name_byte x) _ p).0))
same_key (x ∷ k) (y ∷ b) r p q = by_cases (eqb x y)
    (λ e. rw e (same_key k b r (and_both (name_byte x) _ p).1 (and_both (name_byte y) _ q).1))
    (λ e. rw e)

-- ── The positions xs of keys in s are those of the keys of m ──
abbrev pub Names : Bytes → List ℕ → Members → Type 0
Names s xs m = (k : Bytes) → all name_byte k ≡ true → stands_at_one (k ++ 0x22 ∷ []) s xs ≡ among k (keys_in m)

pub names-none : (s : Bytes) → Names s [] no_members
unfolding stands_at_one among keys_in any
names-none s k h = refl

module _ (s : Bytes) (xs : List ℕ) (m : Members) (named : Names s xs m)
    (name r : Bytes) (i : ℕ) (q : Quoted Name 0x22 1 max_key (drop i s) name r) (from : ℕ) (next : from ≡ i + 1) where
  behind-quote : drop from s ≡ name ++ 0x22 ∷ r
  behind-quote = rw next (sym (drop-drop 1 i s) ∙ ap (drop 1) q.is)

  pub names_more : (a : Node) → Names s (xs ++ from ∷ []) (member m name a)
  unfolding among keys_in any
  names_more a k h = stands-more (k ++ 0x22 ∷ []) s xs from ∙ rw (behind-quote, same_key k name r h q.passes, named k h)

  -- a key and its quote, as a part of the text
  pub word-seen : (to : ℕ) → from ≤ to → to ≤ length s → name ≡ take (to - from) (drop from s)
      → stands_at_one (take (to + 1 - from) (drop from s)) s xs ≡ among name (keys_in m)
  word-seen to f t e =
      let l : length name ≡ to - from = ap length e ∙ length-take-le _ _ (rw length-drop (omega arith)) in
      let n : to + 1 - from ≡ length name + 1 = omega arith in
      rw (n, behind-quote, take-append-add name (0x22 ∷ r) 1) (named name q.passes)
