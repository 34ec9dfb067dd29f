-- What a record text that is read gives: its fields are valid, sorted and diverge, and none is lost.
use Prim.Native.Nat.{ℕ, zero, suc, ◌+◌, ◌≤◌}
use mathlib.Core.Path.{◌≡◌, refl, sym, ap, subst, ◌∙◌}
use Rattle.std.specs.Prelude.{Option, Some}
use mathlib.Core.List.{[], ◌∷◌, ◌++◌}
use mathlib.Core.Bool.{true, false}
use lib.ListN.{length, length-append}
use native.Mathlib.Nat.{add-zero, zero-add, add_assoc}
use native.Mathlib.Omega.{arith}
use borrow.Author.Tests.{le-leb}
use Rattle.model.specs.Base.{Bytes, any, among, is_some, ◌≐◌, ◌>>=◌, ◌<|>◌, within, All}
use Rattle.model.specs.Limits.{max_fields, max_depth}
use Rattle.model.specs.Names.{is_key}
use Rattle.model.specs.Values.{Value, valid_value, read_value}
use Rattle.model.specs.Fields.{Keys, valid_keys, Field, Fields, order_path, value_at, holds, store, put, field_of}
use Rattle.model.specs.RecordText.{skip, Node, leaf, object, Members, no_members, member, read_key, read_leaf, read_more, read_members, as_node, read_object, read_empty, tree_of, keys_in, twice_in, twice, count_in, count, store_node, store_members}
use Rattle.model.proofs.Lists.{never, or-neither, none-some, all-imp, all_append, all_take, true-all}
use Rattle.model.proofs.Order.{path-orders, by_three, Sorted, sorted-put, sorted-take, all-put, value-less, holds_more, one, absent, length-put, store-fits}
use Rattle.model.proofs.Reading.{some_same, bind-some, check-some, either-some, after-cases}
use Rattle.model.proofs.Valid.{Valid}
use Rattle.model.proofs.Diverge.{pairs-take, diverge, diverge-self, diverge-longer, longer-diverge, siblings-diverge, DivergesFrom, Diverging, diverging-put}

-- ── Storing a field ──
pub all-store : (P : Field → Type 0) (f : Field) (gs : Fields) → P f → All P gs → All P (store f gs)
unfolding store
all-store P f gs p h = all_take P max_fields (put f gs) (all-put P f gs p h)

pub sorted-store : (f : Field) (gs : Fields) → Sorted gs → Sorted (store f gs)
unfolding store
sorted-store f gs s = sorted-take max_fields (put f gs) (sorted-put f gs s)

pub diverging-store : (f : Field) (gs : Fields) → DivergesFrom f.path gs → Diverging gs → Diverging (store f gs)
unfolding store
diverging-store f gs h d = pairs-take _ max_fields (put f gs) (diverging-put f gs h d)

-- ── What holds of each member of an object ──
abbrev pub Each : (Bytes → Node → Type 0) → Members → Type 0
Each N no_members = Unit {0}
Each N (member m k v) = Each N m × N k v

pub each_of : (N : Bytes → Node → Type 0) → ((k : Bytes) (v : Node) → N k v) → (m : Members) → Each N m
each_of N f no_members = tt
each_of N f (member m k v) = (each_of N f m, f k v)

pub each-imp : (N O : Bytes → Node → Type 0) → ((k : Bytes) (v : Node) → N k v → O k v) → (m : Members) → Each N m → Each O m
each-imp N O f no_members h = tt
each-imp N O f (member m k v) h = (each-imp N O f m h.0, f k v h.1)

-- members under keys, P of what each holds
abbrev pub Keyed : (Node → Type 0) → Members → Type 0
Keyed P m = Each (λ k v. (is_key k ≡ true) × P v) m

-- ── Storing a tree keeps Q of the fields: N is handed down from a node at its path to what it holds, and a leaf with N keeps Q ──
module _ (N : Keys → Node → Type 0) (Q : Fields → Type 0)
    (at_leaf : (p : Keys) (v : Value) (fs : Fields) → N p (leaf v) → Q fs → Q (store (field_of p v) fs))
    (at-object : (p : Keys) (m : Members) → N p (object m) → Each (λ k. N (p ++ k ∷ [])) m) where
  mutual
    unfolding store_node

    node-keeps : (v : Node) (p : Keys) (fs : Fields) → N p v → Q fs → Q (store_node p v fs)
    node-keeps (leaf v) p fs h q = at_leaf p v fs h q
    node-keeps (object m) p fs h q = members-keep m p fs (at-object p m h) q

    pub members-keep : (m : Members) (p : Keys) (fs : Fields) → Each (λ k. N (p ++ k ∷ [])) m → Q fs → Q (store_members p m fs)
    members-keep no_members p fs h q = q
    members-keep (member m k v) p fs h q = node-keeps v (p ++ k ∷ []) (store_members p m fs) h.1 (members-keep m p fs h.0 q)

-- stored fields are sorted
pub stored-sorted : (p : Keys) (m : Members) (fs : Fields) → Sorted fs → Sorted (store_members p m fs)
stored-sorted p m fs s = members-keep (λ p v. Unit {0}) Sorted
    (λ p v fs n s. sorted-store _ fs s)
    (λ p m n. each_of _ (λ k v. tt) m)
    m p fs (each_of _ (λ k v. tt) m) s

-- ── Trees as they are read: at most d keys deep, under names, with values within their limits ──
abbrev pub Deep : ℕ → Node → Type 0
Deep zero (leaf v) = valid_value v ≡ true
Deep zero (object m) = ⊥
Deep (suc d) (leaf v) = valid_value v ≡ true
Deep (suc d) (object m) = Keyed (Deep d) m

deep-leaf : (d : ℕ) (v : Value) → valid_value v ≡ true → Deep d (leaf v)
deep-leaf zero v h = h
deep-leaf (suc d) v h = h

leaf-deep : (d : ℕ) (v : Value) → Deep d (leaf v) → valid_value v ≡ true
leaf-deep zero v h = h
leaf-deep (suc d) v h = h

-- a node that stands at the path p, which leaves room for its depth
record Stands (p : Keys) (v : Node) : Type 0 where
  depth : ℕ
  fits : length p + depth ≤ max_depth
  starts : 1 ≤ length p
  keys : All (λ k. is_key k ≡ true) p
  deep : Deep depth v

object-stands : (d : ℕ) (p : Keys) (m : Members) → length p + d ≤ max_depth → All (λ k. is_key k ≡ true) p →
    Deep d (object m) → Each (λ k. Stands (p ++ k ∷ [])) m
object-stands zero p m h a e = absurd e
object-stands (suc d) p m h a e = each-imp _ _ (λ k v n. record {
  depth = d;
  fits = omega (arith, length-append p (k ∷ []));
  starts = omega (arith, length-append p (k ∷ []));
  keys = all_append _ p (k ∷ []) a (n.0, tt);
  deep = n.1;
}) m e

leaf-valid : (p : Keys) (v : Value) → Stands p (leaf v) → Valid (field_of p v)
unfolding valid_keys within
leaf-valid p v n = record {
  path = rw (le-leb 1 (length p) n.starts, le-leb (length p) max_depth (omega (arith, n.fits)), true-all is_key p n.keys);
  value = leaf-deep n.depth v n.deep;
}

pub stored-valid : (m : Members) → Deep max_depth (object m) → All Valid (store_members [] m [])
stored-valid m h = members-keep Stands (All Valid)
    (λ p v fs n a. all-store Valid _ fs (leaf-valid p v n) a)
    (λ p m n. object-stands n.depth p m n.fits n.keys n.deep)
    m [] [] (object-stands max_depth [] m (omega arith) tt h) tt

-- ── No key twice in one object: the fields diverge ──
-- a path that diverges from the fields and from each member's path diverges from all of them together
from-members : (q : Keys) (m : Members) (p : Keys) (fs : Fields) →
    Each (λ k v. diverge q (p ++ k ∷ []) ≡ true) m → DivergesFrom q fs → DivergesFrom q (store_members p m fs)
from-members q m p fs h d = members-keep (λ p v. diverge q p ≡ true) (DivergesFrom q)
    (λ p v fs n d. all-store _ _ fs n d)
    (λ p m n. each_of _ (λ k v. diverge-longer q p (k ∷ []) n) m)
    m p fs h d

-- the path of one key more diverges from each member's
siblings : (p : Keys) (k : Bytes) (m : Members) → among k (keys_in m) ≡ false → Each (λ l v. diverge (p ++ k ∷ []) (p ++ l ∷ []) ≡ true) m
unfolding keys_in among any
siblings p k no_members h = tt
siblings p k (member m l v) h = let (e, r) = or-neither (k ≐ l) _ h in (siblings p k m r, siblings-diverge p k l e)

-- each leaf is stored at a path that diverges from what was stored before: what such a store keeps, with one more counted, holds of the tree
module _ (Q : ℕ → Fields → Type 0) (new : (f : Field) (n : ℕ) (fs : Fields) → DivergesFrom f.path fs → Q n fs → Q (n + 1) (store f fs)) where
  mutual
    unfolding store_node twice count

    node-apart : (v : Node) (p : Keys) (n : ℕ) (fs : Fields) → twice_in v ≡ false → DivergesFrom p fs → Q n fs → Q (n + count_in v) (store_node p v fs)
    node-apart (leaf v) p n fs t h q = new (field_of p v) n fs h q
    node-apart (object m) p n fs t h q = members-apart m p n fs t h q

    members-apart : (m : Members) (p : Keys) (n : ℕ) (fs : Fields) → twice m ≡ false → DivergesFrom p fs → Q n fs → Q (n + count m) (store_members p m fs)
    members-apart no_members p n fs t h q = rw add-zero q
    members-apart (member m k v) p n fs t h q =
        let (other, rest) = or-neither (among k (keys_in m)) _ t in
        let (t₁, t₂) = or-neither (twice_in v) _ rest in
        let l = p ++ k ∷ [] in
        let far = all-imp _ _ (λ g e. longer-diverge g.path p (k ∷ []) e) fs h in
        rw (← add_assoc n (count m) (count_in v))
        (node-apart v l (n + count m) (store_members p m fs) t₁ (from-members l m p fs (siblings p k m other) far) (members-apart m p n fs t₂ h q))

pub stored-diverging : (m : Members) → twice m ≡ false → Diverging (store_members [] m [])
stored-diverging m h = members-apart (λ n fs. Diverging fs) (λ f n fs h d. diverging-store f fs h d) m [] 0 [] h tt tt

-- a path that diverges from every field is held by none
diverges-absent : (p : Keys) (gs : Fields) → DivergesFrom p gs → holds p gs ≡ false
diverges-absent p [] h = unfold holds is_some value_at in refl
diverges-absent p (g ∷ gs) h = by_three (order_path p g.path)
    (λ e. unfold holds is_some in (rw (value-less p g gs e)))
    (λ e. never (sym h.0 ∙ ap (diverge p) (sym (path-orders.same p g.path e)) ∙ diverge-self p))
    (λ e. holds_more p g gs e ∙ diverges-absent p gs h.1)

count-store : (f : Field) (n : ℕ) (fs : Fields) → DivergesFrom f.path fs → (n ≤ max_fields → length fs ≡ n) → n + 1 ≤ max_fields → length (store f fs) ≡ n + 1
unfolding absent one
count-store f n fs h k l =
    let e : length (put f fs) ≡ length fs + 1 = rw (diverges-absent f.path fs h) at (length-put f fs) in
    let i : length fs ≡ n = k (omega arith) in
    rw (store-fits f fs (omega arith)) (omega arith)

-- as many fields as the text has
pub stored-count : (m : Members) → twice m ≡ false → count m ≤ max_fields → length (store_members [] m []) ≡ count m
stored-count m h l = members-apart (λ n fs. n ≤ max_fields → length fs ≡ n) count-store m [] 0 [] h tt (λ k. refl) (rw zero-add l) ∙ zero-add (count m)

-- ── Reading ──
pub key-read : (s : Bytes) (t : Bytes × Bytes) → read_key s ≡ Some t → is_key t.0 ≡ true
unfolding read_key
key-read s t h =
    bind-some _ _ t h λ s₁ quote h₁.
    check-some _ _ t h₁ λ k h₂.
    bind-some _ _ t h₂ λ r end h₃.
    subst (λ (t : Bytes × Bytes). is_key t.0 ≡ true) (some_same h₃) k

-- members behind those that were read, from what a key holds
members-read : (inner : Bytes → Option (Node × Bytes)) (P : Node → Type 0) →
    ((s : Bytes) (t : Node × Bytes) → inner s ≡ Some t → P t.0) →
    (n : ℕ) (m : Members) (s : Bytes) (t : Members × Bytes) → read_members inner n m s ≡ Some t →
    Keyed P m → Keyed P t.0
unfolding read_members read_more
members-read inner P f zero m s t h e = none-some h
members-read inner P f (suc n) m s t h e =
    bind-some _ _ t h λ k key h₁.
    bind-some _ _ t h₁ λ s₂ colon h₂.
    bind-some _ _ t h₂ λ v value h₃.
    let more : Keyed P (member m k.0 v.0) = (e, (key-read s k key, f s₂ v value)) in
    after-cases _ _ _ t h₃
    (λ o c. bind-some _ _ t c λ s₄ brace h₄. subst (λ (t : Members × Bytes). Keyed P t.0) (some_same h₄) more)
    (λ s₄ comma h₄. members-read inner P f n (member m k.0 v.0) s₄ t h₄ more)

empty-read : (d : ℕ) (s : Bytes) (t : Members × Bytes) → read_empty s ≡ Some t → Deep (suc d) (object t.0)
unfolding read_empty
empty-read d s t h =
    bind-some _ _ t h λ s₁ left h₁.
    bind-some _ _ t h₁ λ s₂ right h₂.
    subst (λ (t : Members × Bytes). Deep (suc d) (object t.0)) (some_same h₂) tt

module _ (value-valid : (s r : Bytes) (v : Value) → read_value s ≡ Some (v, r) → valid_value v ≡ true) where
  leaf-read : (d : ℕ) (s : Bytes) (t : Node × Bytes) → read_leaf s ≡ Some t → Deep d t.0
  unfolding read_leaf
  leaf-read d s t h =
      bind-some _ _ t h λ v value h₁.
      subst (λ (t : Node × Bytes). Deep d t.0) (some_same h₁) (deep-leaf d v.0 (value-valid s v.1 v.0 value))

  -- what a key holds, from what an object read there has
  inner-read : (d : ℕ) (s : Bytes) (t : Node × Bytes) → ((o : Members × Bytes) → read_object d s ≡ Some o → Deep d (object o.0)) →
      (read_leaf s <|> (read_object d s >>= as_node)) ≡ Some t → Deep d t.0
  unfolding as_node
  inner-read d s t f h = either-some _ _ t h
      (λ c. bind-some _ _ t c λ o read h₁. subst (λ (t : Node × Bytes). Deep d t.0) (some_same h₁) (f o read))
      (leaf-read d s t)

  object-read : (d : ℕ) (s : Bytes) (t : Members × Bytes) → read_object d s ≡ Some t → Deep d (object t.0)
  unfolding read_object
  object-read zero s t h = none-some h
  object-read (suc d) s t h =
      bind-some _ _ t h λ s₁ brace h₁.
      members-read _ (Deep d) (λ s t e. inner-read d s t (object-read d s) e) (length s₁) no_members s₁ t h₁ tt

  pub tree-read : (s : Bytes) (m : Members) → tree_of s ≡ Some m → Deep max_depth (object m)
  unfolding tree_of
  tree-read s m h =
      bind-some _ _ m h λ t read h₁.
      check-some _ _ m h₁ λ rest h₂.
      let deep = either-some _ _ t read (object-read max_depth (skip s) t) (empty-read 5 (skip s) t) in
      subst (λ (m : Members). Deep max_depth (object m)) (some_same h₂) deep

  pub tree-valid : (s : Bytes) (m : Members) → tree_of s ≡ Some m → All Valid (store_members [] m [])
  tree-valid s m h = stored-valid m (tree-read s m h)
