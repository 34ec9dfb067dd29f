-- An opening loads each leaf of the text with its value, and nothing else.
use Prim.Native.Nat.{◌+◌, ◌≤◌}
use mathlib.Core.Path.{◌≡◌, refl, sym, ap₂, ◌∙◌}
use Rattle.std.specs.Prelude.{Option, None, Some}
use mathlib.Core.List.{[], ◌∷◌, ◌++◌}
use mathlib.Core.Bool.{Bool, true, false}
use lib.ListN.{length, length-take}
use native.Mathlib.Omega.{arith}
use Rattle.model.specs.Base.{Bytes, any, among, ◌≐◌, ◌<|>◌}
use Rattle.model.specs.Limits.{max_fields}
use Rattle.model.specs.Values.{Value}
use Rattle.model.specs.Fields.{Keys, Field, Fields, value_at, put, store, field_of}
use Rattle.model.specs.RecordText.{Node, leaf, object, Members, no_members, member, keys_in, twice_in, twice, count_in, count, leaf_at, leaf_under, store_node, store_members}
use Rattle.model.specs.Claims.{LoadsAll}
use Rattle.model.proofs.Lists.{by_cases, or-neither, none-some, bytes_eq, bytes-refl}
use Rattle.model.proofs.Order.{Sorted, value-put, value-other, one, absent, length-put, store-fits}
use Rattle.model.proofs.Reading.{some_same}
use Rattle.model.proofs.TreeValid.{stored-sorted}
use Rattle.model.proofs.TablesRead.{opened-inv, record-inv}

-- ── The tree that holds one node, at a path: what is stored at a path is then told by the leaves of a tree ──
unfoldable under : Keys → Node → Node
under [] v = v
under (k ∷ q) v = object (member no_members k (under q v))

-- a leaf is found at its own path
own-path : (v : Value) (q : Keys) → leaf_at (under q (leaf v)) q ≡ Some v
unfolding under leaf_at
own-path v [] = refl
own-path v (k ∷ q) = rw (bytes-refl k) (own-path v q)

-- and at no other
no_other : (v w : Value) (q r : Keys) → leaf_at (under q (leaf v)) r ≡ Some w → r ≡ q
unfolding under leaf_at
no_other v w [] [] h = refl
no_other v w [] (l ∷ r) h = none-some h
no_other v w (k ∷ q) [] h = none-some h
no_other v w (k ∷ q) (l ∷ r) h = by_cases (l ≐ k)
    (λ e. ap₂ ◌∷◌ (bytes_eq l k e) (no_other v w q r (rw e at h)))
    (λ e. none-some (rw e at h))

no-members : (q r : Keys) → leaf_at (under q (object no_members)) r ≡ None
unfolding under leaf_at
no-members [] [] = refl
no-members [] (l ∷ r) = refl
no-members (k ∷ q) [] = refl
no-members (k ∷ q) (l ∷ r) = by_cases (l ≐ k) (λ e. rw e (no-members q r)) (λ e. rw e)

no_key : (m : Members) (k : Bytes) (p : Keys) → among k (keys_in m) ≡ false → leaf_under m k p ≡ None
unfolding leaf_at keys_in among any
no_key no_members k p h = refl
no_key (member m l v) k p h = let (e, r) = or-neither (k ≐ l) _ h in rw e (no_key m k p r)

-- a member under a new key hides no leaf of the others
new-member : (q r : Keys) (m : Members) (k : Bytes) (v : Node) (o : Option Value) → among k (keys_in m) ≡ false →
    (leaf_at (under (q ++ k ∷ []) v) r <|> (leaf_at (under q (object m)) r <|> o)) ≡ (leaf_at (under q (object (member m k v))) r <|> o)
unfolding under leaf_at ◌<|>◌
new-member [] [] m k v o h = refl
new-member [] (l ∷ r) m k v o h = by_cases (l ≐ k) (λ e. rw (e, bytes_eq l k e, no_key m k r h)) (λ e. rw e)
new-member (x ∷ q) [] m k v o h = refl
new-member (x ∷ q) (l ∷ r) m k v o h = by_cases (l ≐ x) (λ e. rw e (new-member q r m k v o h)) (λ e. rw e)

-- ── Room: a tree adds no more fields than it has leaves ──
one-most : (b : Bool) → one b ≤ 1
unfolding one
one-most true = omega arith
one-most false = omega arith

put-most : (f : Field) (fs : Fields) → length (put f fs) ≤ length fs + 1
put-most f fs = omega (arith, length-put f fs, one-most (absent f.path fs))

mutual
  unfolding store_node count store

  node-most : (v : Node) (q : Keys) (fs : Fields) → length (store_node q v fs) ≤ length fs + count_in v
  node-most (leaf v) q fs = simp length-take (omega (arith, put-most (field_of q v) fs))
  node-most (object m) q fs = members-most m q fs

  members-most : (m : Members) (q : Keys) (fs : Fields) → length (store_members q m fs) ≤ length fs + count m
  members-most no_members q fs = omega arith
  members-most (member m k v) q fs = omega (arith, node-most v (q ++ k ∷ []) (store_members q m fs), members-most m q fs)

-- ── What is stored is found, or else what was held before ──
put-found : (f : Field) (r : Keys) (fs : Fields) (o : Option Value) → Sorted fs → leaf_at (under f.path (leaf f.value)) r ≡ o →
    value_at r (put f fs) ≡ (o <|> value_at r fs)
unfolding ◌<|>◌
put-found f r fs None s e = value-other f r fs s (λ i. none-some (sym (rw i at e) ∙ own-path _ _))
put-found f r fs (Some w) s e = let i = no_other _ w f.path r e in rw i (value-put f fs ∙ sym (own-path _ _) ∙ rw i at e)

store_found : (f : Field) (r : Keys) (fs : Fields) → Sorted fs → length fs + 1 ≤ max_fields →
    value_at r (store f fs) ≡ (leaf_at (under f.path (leaf f.value)) r <|> value_at r fs)
store_found f r fs s room = rw (store-fits f fs (omega (arith, put-most f fs))) (put-found f r fs _ s refl)

mutual
  unfolding store_node twice count ◌<|>◌

  node-found : (v : Node) (q r : Keys) (fs : Fields) → Sorted fs → twice_in v ≡ false → length fs + count_in v ≤ max_fields →
      value_at r (store_node q v fs) ≡ (leaf_at (under q v) r <|> value_at r fs)
  node-found (leaf v) q r fs s t room = store_found (field_of q v) r fs s room
  node-found (object m) q r fs s t room = members-found m q r fs s t room

  members-found : (m : Members) (q r : Keys) (fs : Fields) → Sorted fs → twice m ≡ false → length fs + count m ≤ max_fields →
      value_at r (store_members q m fs) ≡ (leaf_at (under q (object m)) r <|> value_at r fs)
  members-found no_members q r fs s t room = rw (no-members q r)
  members-found (member m k v) q r fs s t room =
      let (new, rest) = or-neither (among k (keys_in m)) _ t in
      let (t₁, t₂) = or-neither (twice_in v) _ rest in
      node-found v (q ++ k ∷ []) r (store_members q m fs) (stored-sorted q m fs s) t₁ (omega (arith, members-most m q fs))
      ∙ rw (members-found m q r fs s t₂ (omega arith)) (new-member q r m k v (value_at r fs) new)

or-none : {A : Type 0} (o : Option A) → (o <|> None) ≡ o
unfolding ◌<|>◌
or-none None = refl
or-none (Some a) = refl

pub loads-all : LoadsAll
unfolding under value_at
loads-all t s m h read p =
    let l = record-inv _ _ _ (opened-inv t s h).fields in
    let e : l.tree ≡ m = some_same (sym l.read ∙ read) in
    rw (← l.stored, ← e) (members-found l.tree [] p [] tt l.once (omega (arith, l.fits)) ∙ or-none _)
