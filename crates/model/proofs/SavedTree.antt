-- Saved text reads back: field by field, the readers come to the field's value inside the objects of its path.
use Prim.Native.Nat.{Ordering}
use Prim.Native.Nat.{ℕ, zero, suc, ◌+◌, ◌-◌, ◌≤◌, ◌<◌}
use mathlib.Core.Path.{◌≡◌, refl, sym, ap, subst, ◌∙◌}
use Rattle.std.specs.Prelude.{Option, Some}
use mathlib.Core.List.{List, [], ◌∷◌, ◌++◌, append_assoc, append-nil, foldl}
use mathlib.Core.Bool.{true, false}
use lib.ListN.{length, length-append}
use lib.Seq.{take_all}
use native.Mathlib.Omega.{arith}
use Rattle.model.specs.Base.{Bytes, text, among, ◌≐◌, ◌>>=◌, within, is_digit, All}
use Rattle.model.specs.Limits.{max_depth, max_fields}
use Rattle.model.specs.Values.{Value, valid_value, value_text}
use Rattle.model.specs.Fields.{Keys, Field, Fields, and_then, lex, order_key, order_path, put, store, field_of}
use Rattle.model.specs.RecordText.{Node, leaf, object, Members, no_members, is_blank, as_node, tree_of}
use Rattle.model.specs.RecordText.{keys_in, twice_in, twice, count_in, count, store_node, store_members, Opened}
use Rattle.model.specs.SavedText.{descend, ascend, turn, saved_behind, saved}
use Rattle.model.proofs.Lists.{by_cases, never, all-imp, false-any, bytes_eq, bytes-ne}
use Rattle.model.proofs.Order.{Before, Sorted, by_three, before-after, put-more, key-orders, lt-eq, lt-gt}
use Rattle.model.proofs.Valid.{Valid}
use Rattle.model.proofs.Diverge.{diverge, Diverging}
use Rattle.model.proofs.OpenObjects.{Fits, valid-path, Frame, Frames, keys, around, read_node, behind, resume, Ends, start}
use Rattle.model.proofs.OpenObjects.{text-plain, leaf-reads, closes, descend-longer, object-reads, next-reads, tree-reads}

-- ── The order of two paths, by their first keys ──
module _ (k l : Bytes) (p q : Keys) (b : Before (k ∷ p) (l ∷ q)) where
  before_here : (k ≐ l) ≡ false → order_key k l ≡ Ordering.lt
  unfolding order_path lex and_then
  before_here e = by_three (order_key k l)
      (λ h. h)
      (λ h. absurd (bytes-ne k l e (key-orders.same k l h)))
      (λ h. lt-gt (sym (rw h at b)))

  before-within : (k ≐ l) ≡ true → Before p q
  unfolding order_path lex and_then
  before-within e = rw (bytes_eq k l e, key-orders.self l) at b

-- ── No key twice ──
-- each key is before k
abbrev Under : Bytes → List Bytes → Type 0
Under k l = All (λ j. order_key j k ≡ Ordering.lt) l

under_more : (j k : Bytes) (l : List Bytes) → order_key j k ≡ Ordering.lt → Under j l → Under k l
under_more j k l e h = all-imp _ _ (λ i o. key-orders.trans i j k o e) l h

not-among : (k : Bytes) (l : List Bytes) → Under k l → among k l ≡ false
unfolding among
not-among k l h = false-any _ l (all-imp _ _ apart l h)
  where
    apart : (j : Bytes) → order_key j k ≡ Ordering.lt → (k ≐ j) ≡ false
    apart j e = by_cases (k ≐ j) (λ h. lt-eq (sym e ∙ rw (bytes_eq k j h) (key-orders.self j))) (λ h. h)

-- n bytes more are within the bound, and the keys before are before the key that is being read
record Good (n : ℕ) (g : Frame) : Type 0 where
  room : n ≤ g.bound
  ascending : Under g.key (keys_in g.before)
  once : twice g.before ≡ false

good-less : {m n : ℕ} {g : Frame} → m ≤ n → Good n g → Good m g
good-less e h = record { room = omega arith; ascending = h.ascending; once = h.once }

once-around : (n : ℕ) (gs : Frames) (v : Node) → All (Good n) gs → twice_in v ≡ false → twice_in (around gs v) ≡ false
unfolding around twice
once-around n [] v h e = e
once-around n (g ∷ gs) v h e = rw (not-among _ _ h.0.ascending, once-around n gs v h.1 e) h.0.once

-- ── Coming to a field ──
-- the reading x comes to the value w of the field at q, with the text s behind it; u is the tree before this field
record Arrives (d : ℕ) (x : Option (Node × Bytes)) (u : Node) (q : Keys) (w : Value) (s : Bytes) : Type 0 where
  frames : Frames
  named : keys frames ≡ q
  good : All (Good (length s)) frames
  reads : x ≡ resume d frames (leaf w, s)
  stores : (p : Keys) (fs : Fields) →
      store_node p (around frames (leaf w)) fs ≡ store (field_of (p ++ q) w) (store_node p u fs)
  counts : count_in (around frames (leaf w)) ≡ suc (count_in u)

-- the same inside one more object g; o is the tree before
enter : {d : ℕ} {g : Frame} {x y : Option (Node × Bytes)} {u o : Node} {q : Keys} {w : Value} {s : Bytes} →
    Arrives d x u q w s → y ≡ x >>= behind d g >>= as_node → Good (length s) g →
    ((p : Keys) (fs : Fields) → store_node p o fs ≡ store_node (p ++ g.key ∷ []) u (store_members p g.before fs)) →
    count_in o ≡ count g.before + count_in u → Arrives (suc d) y o (g.key ∷ q) w s
unfolding resume around store_node count_in
enter {g = g} {q = q} a e h f c = record {
  frames = g ∷ a.frames;
  named = ap (g.key ∷◌) a.named;
  good = (h, a.good);
  reads = e ∙ rw a.reads;
  stores = λ p fs. a.stores (p ++ g.key ∷ []) (store_members p g.before fs) ∙ rw (append_assoc p (g.key ∷ []) q, f p fs);
  counts = rw (a.counts, c) (omega arith);
}

turn-within : (k l : Bytes) (p q : Keys) → (k ≐ l) ≡ true → turn (k ∷ p) (l ∷ q) ≡ turn p q
unfolding turn
turn-within k l p q e = rw e

turn-here : (k l : Bytes) (p q : Keys) (t : Bytes) → (k ≐ l) ≡ false →
    turn (k ∷ p) (l ∷ q) ++ t ≡ ascend p ++ (44 ∷ (descend (l ∷ q) ++ t))
unfolding turn text
turn-here k l p q t e = rw e (append_assoc (ascend p) (44 ∷ descend (l ∷ q)) t)

module _ (w : Value) (s : Bytes) (valid : valid_value w ≡ true) (ends : Ends s) where
  abbrev rest : Bytes
  rest = value_text w ++ s

  rest-length : length s ≤ length rest
  rest-length = omega (arith, length-append (value_text w) s)

  -- the first field
  opens : (d : ℕ) (q : Keys) → Fits d q → Arrives d (read_node d (start q ++ rest)) (object no_members) q w s
  unfolding start resume around store_node count_in keys_in twice
  opens d [] h = record {
    frames = [];
    named = refl;
    good = tt;
    reads = leaf-reads w s valid ends d;
    stores = λ p fs. rw (append-nil p);
    counts = refl;
  }
  opens zero (k ∷ q) h = absurd h
  opens (suc d) (k ∷ q) h =
      let n : length s ≤ length (descend (k ∷ q) ++ rest) - 1 = omega (arith, rest-length, descend-longer k q rest) in
      let e = object-reads k q rest h.0 (text-plain w s valid ends) d in
      enter (opens d q h.1) e (record { room = n; ascending = tt; once = refl }) (λ p fs. refl) (omega arith)

  -- the next field, from a node v in the objects gs
  abbrev Next : ℕ → Frames → Node → Keys → Type 0
  Next d gs v q = Arrives d (resume d gs (v, turn (keys gs) q ++ rest)) (around gs v) q w s

  module _ (d : ℕ) (g : Frame) (gs : Frames) (v : Node) (l : Bytes) (q : Keys)
      (good : All (Good (length (turn (keys (g ∷ gs)) (l ∷ q) ++ rest))) (g ∷ gs)) where
    next-within : (g.key ≐ l) ≡ true → (All (Good (length (turn (keys gs) q ++ rest))) gs → Next d gs v q) → Next (suc d) (g ∷ gs) v (l ∷ q)
    unfolding resume around store_node count_in
    next-within e f =
        let a = f (subst (λ (t : Bytes). All (Good (length (t ++ rest))) gs) (turn-within g.key l (keys gs) q e) good.1) in
        let b = length-append (turn (keys (g ∷ gs)) (l ∷ q)) rest in
        let c : Good (length s) g = good-less (omega (arith, rest-length)) good.0 in
        rw (turn-within g.key l (keys gs) q e, ← bytes_eq g.key l e) (enter {g = g} a refl c (λ p fs. refl) refl)

    next_here : (g.key ≐ l) ≡ false → order_key g.key l ≡ Ordering.lt → twice_in v ≡ false → Fits d (keys gs) →
        Fits (suc d) (l ∷ q) → Next (suc d) (g ∷ gs) v (l ∷ q)
    unfolding around store_node count_in keys_in twice
    next_here e o t i h =
        let c = turn-here g.key l (keys gs) q rest e in
        let a = length-append (ascend (keys gs)) (44 ∷ (descend (l ∷ q) ++ rest)) in
        let n : length s < g.bound = omega (arith, rest-length, descend-longer l q rest, good.0.room, ap length c) in
        let r = next-reads l q rest h.0 (text-plain w s valid ends) d g gs v i (omega arith) in
        let u = under_more g.key l (keys_in g.before) o good.0.ascending in
        let y = once-around _ (g ∷ gs) v good t in
        rw c (enter (opens d q h.1) r (record { room = omega arith; ascending = (o, u); once = y }) (λ p fs. refl) (omega arith))

  turns : (d : ℕ) (gs : Frames) (v : Node) (q : Keys) → diverge (keys gs) q ≡ true → Before (keys gs) q →
      Fits d (keys gs) → Fits d q → twice_in v ≡ false → All (Good (length (turn (keys gs) q ++ rest))) gs → Next d gs v q
  unfolding diverge
  turns d [] v q a b i h t g = never (sym a)
  turns d (f ∷ gs) v [] a b i h t g = never (sym a)
  turns zero (f ∷ gs) v (l ∷ q) a b i h t g = absurd i
  turns (suc d) (f ∷ gs) v (l ∷ q) a b i h t g = by_cases (f.key ≐ l)
      (λ e. next-within d f gs v l q g e (turns d gs v q (rw e at a) (before-within _ _ _ _ b e) i.1 h.1 t))
      (λ e. next_here d f gs v l q g e (before_here _ _ _ _ b e) t i.1 h)

  turns_at : (d : ℕ) (gs : Frames) (p q : Keys) (v : Node) → keys gs ≡ p → diverge p q ≡ true → Before p q →
      Fits d p → Fits d q → twice_in v ≡ false → All (Good (length (turn p q ++ rest))) gs →
      Arrives d (resume d gs (v, turn p q ++ rest)) (around gs v) q w s
  turns_at d gs p q v e = rw (← e) (turns d gs v q)

closes_at : (d : ℕ) (gs : Frames) (p : Keys) (v : Node) → keys gs ≡ p → Fits d p →
    resume d gs (v, ascend p) ≡ Some (around gs v, [])
closes_at d gs p v e = rw (← e, ← append-nil (ascend (keys gs))) (λ h. closes d gs v [] h tt)

-- ── What stands behind a value ──
ascend-ends : (p : Keys) (r : Bytes) → Ends r → Ends (ascend p ++ r)
unfolding ascend is_digit within is_blank
ascend-ends [] r e = e
ascend-ends (k ∷ p) r e = (refl, refl)

turn-ends : (p q : Keys) (r : Bytes) → diverge p q ≡ true → Ends (turn p q ++ r)
unfolding diverge
turn-ends [] q r h = never (sym h)
turn-ends (k ∷ p) [] r h = never (sym h)
turn-ends (k ∷ p) (l ∷ q) r h = by_cases (k ≐ l)
    (λ e. rw (turn-within k l p q e) (turn-ends p q r (rw e at h)))
    (λ e. rw (turn-here k l p q r e) (ascend-ends p _ (unfold is_digit within is_blank in (refl, refl))))

behind-ends : (p : Keys) (fs : Fields) → All (λ g. diverge p g.path ≡ true) fs → Ends (saved_behind p fs)
unfolding saved_behind
behind-ends p [] h = rw append-nil at (ascend-ends p [] (tt, tt))
behind-ends p (g ∷ fs) h = turn-ends p g.path _ h.0

-- ── Sorted fields, stored in their order ──
all-at : {A : Type 0} (P : A → Type 0) (xs : List A) (y : A) (ys : List A) → All P (xs ++ y ∷ ys) → P y
all-at P [] y ys h = h.0
all-at P (x ∷ xs) y ys h = all-at P xs y ys h.1

put_last : (xs : Fields) (f : Field) (fs : Fields) → Sorted (xs ++ f ∷ fs) → put f xs ≡ xs ++ f ∷ []
put_last [] f fs s = unfold put in refl
put_last (x ∷ xs) f fs s =
    put-more f x xs (before-after f.path x.path (all-at _ xs f fs s.0)) ∙ ap (x ∷◌) (put_last xs f fs s.1)

abbrev store_all : Fields → Fields → Fields
store_all xs fs = foldl (λ ys f. store f ys) xs fs

stored : (xs fs : Fields) → Sorted (xs ++ fs) → length (xs ++ fs) ≤ max_fields → store_all xs fs ≡ xs ++ fs
unfolding store
stored xs [] s n = sym (append-nil xs)
stored xs (f ∷ fs) s n =
    let m : length (xs ++ f ∷ []) ≤ max_fields = omega (arith, length-append xs (f ∷ []), length-append xs (f ∷ fs)) in
    let a = append_assoc xs (f ∷ []) fs in
    rw (put_last xs f fs s, take_all max_fields (xs ++ f ∷ []) m) (stored (xs ++ f ∷ []) fs (rw a s) (rw a n) ∙ a)

-- ── All fields ──
-- the reading x comes to the end, with the fields fs in the tree behind what u holds
record Reads (x : Option (Node × Bytes)) (u : Node) (fs : Fields) : Type 0 where
  node : Node
  whole : x ≡ Some (node, [])
  once : twice_in node ≡ false
  counts : count_in node ≡ count_in u + length fs
  stores : store_node [] node [] ≡ store_all (store_node [] u []) fs

reads-behind : {x : Option (Node × Bytes)} {u : Node} (f : Field) (fs : Fields) →
    Arrives max_depth x u f.path f.value (saved_behind f.path fs) →
    Sorted (f ∷ fs) → All Valid (f ∷ fs) → Diverging (f ∷ fs) → Reads x u (f ∷ fs)
unfolding saved_behind twice
reads-behind f [] a s v d = record {
  node = around a.frames (leaf f.value);
  whole = a.reads ∙ closes_at max_depth a.frames f.path _ a.named (valid-path f.path v.0.path).1;
  once = once-around _ a.frames _ a.good refl;
  counts = a.counts ∙ omega arith;
  stores = a.stores [] [];
}
reads-behind f (g ∷ fs) a s v d =
    let i = (valid-path f.path v.0.path).1 in
    let h = (valid-path g.path v.1.0.path).1 in
    let e = behind-ends g.path fs d.1.0 in
    let t = turns_at g.value (saved_behind g.path fs) v.1.0.value e max_depth a.frames f.path g.path in
    let b = t (leaf f.value) a.named d.0.0 s.0.0 i h refl a.good in
    let r = reads-behind {x = resume max_depth a.frames (leaf f.value, turn f.path g.path ++ (value_text g.value ++ saved_behind g.path fs))} {u = around a.frames (leaf f.value)} g fs b s.1 v.1 d.1 in
    record {
      node = r.node;
      whole = a.reads ∙ r.whole;
      once = r.once;
      counts = omega (arith, r.counts, a.counts);
      stores = r.stores ∙ ap (λ (xs : Fields). store_all xs (g ∷ fs)) (a.stores [] []);
    }

-- the tree that the saved text of fields is
pub record SavedAs (fs : Fields) : Type 0 where
  pub tree : Members
  pub read : tree_of (saved fs) ≡ Some tree
  pub once : twice tree ≡ false
  pub many : count tree ≡ length fs
  pub stored : store_members [] tree [] ≡ fs

pub saved-reads : (fs : Fields) → Sorted fs → All Valid fs → Diverging fs → length fs ≤ max_fields → SavedAs fs
unfolding saved text twice count store_members
saved-reads [] s v d n = record { tree = no_members; read = unfold Opened in refl; once = refl; many = refl; stored = refl }
saved-reads (f ∷ fs) s v d n =
    let p = valid-path f.path v.0.path in
    let a = opens f.value (saved_behind f.path fs) v.0.value (behind-ends f.path fs d.0) max_depth f.path p.1 in
    let r = reads-behind f fs a s v d in
    let t = tree-reads f.path _ r.node p.0 r.whole in
    record {
      tree = t.0;
      read = t.1;
      once = ap twice_in (sym t.2) ∙ r.once;
      many = ap count_in (sym t.2) ∙ r.counts ∙ omega arith;
      stored = ap (λ (x : Node). store_node [] x []) (sym t.2) ∙ r.stores ∙ stored [] (f ∷ fs) s n;
    }
