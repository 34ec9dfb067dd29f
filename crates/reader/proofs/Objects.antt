-- Objects of record text by positions: what is left to read at a turn of the loop over members.
use Prim.Native.Nat.{ℕ, zero, suc, ◌-◌, ◌≤◌, ◌<◌}
use mathlib.Core.Path.{◌≡◌, refl, sym, ap, ◌∙◌}
use Rattle.std.specs.Prelude.{Option, None, Some}
use mathlib.Core.List.{[], ◌∷◌}
use native.Mathlib.Omega.{arith}
use lib.ListN.{length, drop, length-drop}
use Rattle.rows.specs.Positions.{Reader, Reads, behind, placed, LeavesEnd}
use Rattle.model.specs.Base.{Bytes, text, ◌>>=◌, ◌<|>◌, if_after}
use Rattle.model.specs.Values.{Value, read_value}
use Rattle.model.specs.RecordText.{Node, Members, leaf, object, no_members, member, skip, token, read_key, read_leaf, read_more, read_members, as_node, read_object}
use Rattle.model.proofs.Lists.{none-some}
use Rattle.model.proofs.Reading.{after-cases}
use Rattle.values.specs.declared.value.Scalar.{Scalar}
use Rattle.values.specs.Scalars.{value_in, value_answer}
use Rattle.lexical.proofs.Runs.{bind-same, bind-bind}
use Rattle.lexical.proofs.Readers.{rest-on, leaves-or, leaves-bind, leaves-some}
use Rattle.reader.specs.Tokens.{read_token, read_scalar, read_member, mapped}
use Rattle.reader.proofs.Spaced.{scalar-leaves, token-none, token-some, token-rest, token-then, scalar-bad, scalar-reads, member-leaves, member-moves}
use Rattle.reader.proofs.Mapped.{mapped-none, mapped-is}

-- what a key holds
abbrev pub read_node : ℕ → Reader ℕ Node
read_node d t = read_leaf t <|> (read_object d t >>= as_node)

-- ── Members: what the first of them reads decides ──
module _ (inner : Reader ℕ Node) (m : Members) (l : Bytes) where
  members_step : (n : ℕ) → read_members inner (suc n) m l
      ≡ (read_member l >>= λ t. inner t.1 >>= λ u. read_more (read_members inner n (member m t.0 u.0)) (member m t.0 u.0) u.1)
  unfolding read_members read_member text ◌>>=◌
  members_step n = sym (bind-bind (read_key l) _ _ ∙ bind-same (read_key l) _ _ (λ t. bind-bind (token (0x3A ∷ []) t.1) _ _))

  members-none : (n : ℕ) → read_member l ≡ None → read_members inner n m l ≡ None
  unfolding read_members ◌>>=◌
  members-none zero e = refl
  members-none (suc n) e = members_step n ∙ rw e

  module _ (k l₁ : Bytes) (e : read_member l ≡ Some (k, l₁)) where
    members-no-value : (n : ℕ) → inner l₁ ≡ None → read_members inner n m l ≡ None
    unfolding read_members ◌>>=◌
    members-no-value zero f = refl
    members-no-value (suc n) f = members_step n ∙ rw (e, f)

    members-next : (n : ℕ) → 0 < n → (v : Node) (l₂ : Bytes) → inner l₁ ≡ Some (v, l₂)
        → read_members inner n m l ≡ read_more (read_members inner (n - 1) (member m k v)) (member m k v) l₂
    unfolding ◌>>=◌
    members-next zero h v l₂ f = absurd (omega arith)
    members-next (suc n) h v l₂ f =
        let q : n ≡ suc n - 1 = omega arith in
        members_step n ∙ rw (e, f) (ap (λ (j : ℕ). read_more (read_members inner j (member m k v)) (member m k v) l₂) q)

-- ── The readers leave the end of the text ──
abbrev as_leaf : Value × Bytes → Option (Node × Bytes)
as_leaf t = Some (leaf t.0, t.1)

leaf-scalar : (s : Bytes) → read_leaf s ≡ (read_scalar s >>= as_leaf)
unfolding read_leaf read_scalar ◌>>=◌
leaf-scalar s = go (read_value s)
  where
    go : (o : Option (Value × Bytes)) → (◌>>=◌ {B = Node × Bytes} o (λ t. Some (leaf t.0, skip t.1))) ≡ ((◌>>=◌ {B = Value × Bytes} o (λ t. Some (t.0, skip t.1))) >>= as_leaf)
    go None = refl
    go (Some t) = refl

leaves-leaf : LeavesEnd read_leaf
leaves-leaf s t h = leaves-bind read_scalar (λ v x. Some (leaf v, x)) scalar-leaves (λ v. leaves-some (leaf v)) s t (sym (leaf-scalar s) ∙ h)

leaves-members : (inner : Reader ℕ Node) → LeavesEnd inner → (n : ℕ) (m : Members) → LeavesEnd (read_members inner n m)
unfolding read_members read_more text
leaves-members inner p zero m s t h = none-some h
leaves-members inner p (suc n) m s t h =
    leaves-bind read_member (λ k x. inner x >>= λ u. read_more (read_members inner n (member m k u.0)) (member m k u.0) u.1) member-leaves
    (λ k. leaves-bind inner (λ v x. read_more (read_members inner n (member m k v)) (member m k v) x) p (λ v x u i.
    after-cases (token (0x2C ∷ []) x) _ _ _ i
    (λ j e. token-then 0x7D (λ y. Some (member m k v, y)) (leaves-some (member m k v)) x u e)
    (λ r j e. rest-on x r u.1 (token-rest 0x2C x r j) (leaves-members inner p n (member m k v) r u e)))) s t (sym (members_step inner m s n) ∙ h)

pub leaves-node : (d : ℕ) → LeavesEnd (read_object d) → LeavesEnd (read_node d)
unfolding as_node
leaves-node d p = leaves-or read_leaf _ leaves-leaf (leaves-bind (read_object d) (λ m x. Some (object m, x)) p (λ m. leaves-some (object m)))

pub leaves-object : (d : ℕ) → LeavesEnd (read_object d)
unfolding read_object text
leaves-object zero s t h = none-some h
leaves-object (suc d) s t h =
    token-then 0x7B (λ x. read_members (read_node d) (length x) no_members x)
    (λ x u i. leaves-members (read_node d) (leaves-node d (leaves-object d)) (length x) no_members x u i) s t h

-- ── What a key holds, by positions ──
module _ (d : ℕ) (s : Bytes) (v : ℕ) (x : Option (Scalar × ℕ)) (answer : value_answer s x ≡ placed read_scalar s v) where
  pub node-leaf : v ≤ length s → (w : Scalar) (e : ℕ) → x ≡ Some (w, e) → Reads (read_node d) s v (leaf (value_in s w)) e
  unfolding ◌>>=◌ ◌<|>◌
  node-leaf h w e i =
      let r = scalar-reads s v x answer h w e i in
      record { from = r.from; to = r.to; is = rw (leaf-scalar (drop v s), r.is) }

  -- where it is no value it is an object, or nothing
  pub node-mapped : x ≡ None → {B : Type 0} (g : Node → B) → placed (mapped (λ m. g (object m)) (read_object d)) s v ≡ placed (mapped g (read_node d)) s v
  unfolding placed mapped ◌>>=◌ ◌<|>◌ as_node
  node-mapped i {B} g = rw (leaf-scalar (drop v s), scalar-bad s v x answer i) (go (read_object d (drop v s)))
    where
      go : (o : Option (Members × Bytes))
          → behind s (◌>>=◌ {B = B × Bytes} o (λ t. Some (g (object t.0), t.1))) ≡ behind s (◌>>=◌ {B = B × Bytes} (o >>= as_node) (λ t. Some (g t.0, t.1)))
      go None = refl
      go (Some t) = refl

-- ── An object: what is left to read of it at i, behind the members before ──
pub record Left (s : Bytes) (at depth : ℕ) (before : Members) (i : ℕ) : Type 0 where
  pub from : at ≤ i
  pub to : i ≤ length s
  pub bound : ℕ
  pub enough : length s - i ≤ bound
  pub is : read_object depth (drop at s) ≡ read_members (read_node (depth - 1)) bound before (drop i s)

object-open : (depth : ℕ) → (depth ≡ 0 → ⊥) → (s s₁ : Bytes) → token (0x7B ∷ []) s ≡ Some s₁
    → read_object depth s ≡ read_members (read_node (depth - 1)) (length s₁) no_members s₁
unfolding read_object text ◌>>=◌
object-open zero f s s₁ h = absurd (f refl)
object-open (suc d) f s s₁ h =
    let q : d ≡ suc d - 1 = omega arith in
    rw h (ap (λ (j : ℕ). read_members (read_node j) (length s₁) no_members s₁) q)

-- no object is read where no brace stands
pub unopened : (s : Bytes) → read_token 0x7B s ≡ None → (d : ℕ) → read_object d s ≡ None
unfolding read_object text ◌>>=◌
unopened s h zero = refl
unopened s h (suc d) = rw (token-none 0x7B s h)

pub left-start : (s : Bytes) (at depth : ℕ) → (depth ≡ 0 → ⊥) → (o : ℕ) → Reads (read_token 0x7B) s at tt o → Left s at depth no_members o
left-start s at depth f o r = record {
  from = r.from;
  to = r.to;
  bound = length (drop o s);
  enough = omega (arith, length-drop o s);
  is = object-open depth f (drop at s) (drop o s) (token-some 0x7B _ _ r.is);
}

-- ── What an object is answered as, where g makes the answer of its members ──
module _ {B : Type 0} (g : Members → B) (s : Bytes) (at depth : ℕ) where
  pub object-none : depth ≡ 0 → None ≡ placed (mapped g (read_object depth)) s at
  unfolding read_object
  object-none e = mapped-none g _ s at (rw e)

  pub object-unopened : read_token 0x7B (drop at s) ≡ None → None ≡ placed (mapped g (read_object depth)) s at
  object-unopened h = mapped-none g _ s at (unopened (drop at s) h depth)

module _ (s : Bytes) (at depth : ℕ) (before : Members) (i : ℕ) (left : Left s at depth before i) where
  pub left-no-member : {B : Type 0} (g : Members → B) → read_member (drop i s) ≡ None → None ≡ placed (mapped g (read_object depth)) s at
  left-no-member g h = mapped-none g _ s at (left.is ∙ members-none _ _ _ _ h)

  module _ (name : Bytes) (v : ℕ) (key : Reads read_member s i name v) where
    pub left-no-value : {B : Type 0} (g : Members → B) → read_node (depth - 1) (drop v s) ≡ None → None ≡ placed (mapped g (read_object depth)) s at
    left-no-value g h = mapped-none g _ s at (left.is ∙ members-no-value _ _ _ _ _ key.is _ h)

    module _ (a : Node) (e : ℕ) (node : Reads (read_node (depth - 1)) s v a e) where
      next : read_object depth (drop at s) ≡ read_more (read_members (read_node (depth - 1)) (left.bound - 1) (member before name a)) (member before name a) (drop e s)
      next =
          left.is
          ∙ members-next _ _ _ _ _ key.is left.bound (omega (arith, left.enough, member-moves s i name v key, key.to)) a (drop e s) node.is

      -- behind the last member the closing brace stands, or none does
      module _ {B : Type 0} (g : Members → B) (h : read_token 0x2C (drop e s) ≡ None) where
        pub left-unclosed : read_token 0x7D (drop e s) ≡ None → None ≡ placed (mapped g (read_object depth)) s at
        unfolding read_more text if_after ◌>>=◌
        left-unclosed k = mapped-none g _ s at (next ∙ rw (token-none 0x2C _ h, token-none 0x7D _ k))

        pub left-last : (close : ℕ) → Reads (read_token 0x7D) s e tt close → Some (g (member before name a), close) ≡ placed (mapped g (read_object depth)) s at
        unfolding read_more text if_after ◌>>=◌
        left-last close r = mapped-is g (read_object depth) s at _ close (record {
          from = omega (arith, left.from, key.from, node.from, r.from);
          to = r.to;
          is = next ∙ rw (token-none 0x2C _ h, token-some 0x7D _ _ r.is);
        })

      pub left-again : (j : ℕ) → Reads (read_token 0x2C) s e tt j → Left s at depth (member before name a) j
      unfolding read_more text if_after
      left-again j comma = record {
        from = omega (arith, left.from, key.from, node.from, comma.from);
        to = comma.to;
        bound = left.bound - 1;
        enough = omega (arith, left.enough, member-moves s i name v key, node.from, comma.from, comma.to);
        is = next ∙ rw (token-some 0x2C _ _ comma.is);
      }
