-- The fields of record text, put into a table: what a member of an object adds, and what the whole text leaves there.
use Prim.Native.Nat.{ℕ, ◌+◌, ◌-◌, ◌≤◌, ◌<◌}
use mathlib.Core.Path.{◌≡◌, refl, sym, ap, ◌∙◌}
use mathlib.Core.Bool.{true, false}
use Rattle.std.specs.Prelude.{Option, None, Some, option_map}
use mathlib.Core.List.{[], ◌∷◌, ◌++◌}
use native.Mathlib.Omega.{arith}
use borrow.Author.Tests.{ne_eqb, le-leb, lt-leb}
use lib.ListN.{length, get_or, take, drop, set, length-append}
use lib.Seq.{set-get_or}
use Rattle.rows.specs.Rows.{rows, up_to}
use Rattle.layout.specs.Layout.{table, name_in, is_empty, key_row}
use Rattle.rows.specs.Positions.{Reads, behind, placed, run_end}
use Rattle.model.specs.Base.{Bytes, ◌>>=◌, ◌>>◌, check}
use Rattle.model.specs.Limits.{max_key, max_fields, max_depth}
use Rattle.model.specs.Refusals.{refused, done, Opened}
use Rattle.model.specs.Values.{Value, valid_value}
use Rattle.model.specs.Fields.{Keys, Fields}
use Rattle.model.specs.RecordText.{Node, Members, leaf, no_members, member, is_blank, skip, tree_of, twice, count, store_node, store_members, read_object}
use Rattle.model.proofs.Lists.{by_cases, none-some, refused-done, done-same, if-done, or-done}
use Rattle.model.proofs.Reading.{bind-some, check-some, some_same}
use Rattle.model.proofs.Spelling.{key-named, value-valid}
use Rattle.model.proofs.TreeValid.{key-read}
use Rattle.values.specs.declared.value.Scalar.{Scalar}
use Rattle.values.specs.Scalars.{value_in, value_answer}
use Rattle.paths.specs.Layout.{path_in}
use Rattle.layout.proofs.Counts.{length-counted}
use Rattle.layout.proofs.Named.{push-whole}
use Rattle.layout.proofs.Tight.{zeros, zero-at}
use Rattle.record.specs.Slots.{record_bytes, fields_in, CanonicalFields}
use Rattle.record.specs.Search.{stored_at}
use Rattle.record.proofs.Slots.{held-valid}
use Rattle.record.proofs.Canonical.{none-canonical}
use Rattle.reader.specs.Tokens.{read_scalar, read_member, mapped, read_top}
use Rattle.loader.specs.Loaded.{loaded, fields_of}
use Rattle.reader.specs.Summaries.{reading_of}
use Rattle.reader.proofs.Spaced.{skip_at, scalar-reads}
use Rattle.reader.proofs.Mapped.{mapped-is}
use Rattle.reader.proofs.Objects.{read_node, node-leaf, node-mapped}

-- ── What is read is within its limits ──
member-key : (s k r : Bytes) → read_member s ≡ Some (k, r) → length k ≤ max_key
unfolding read_member
member-key s k r h =
    bind-some _ _ _ h λ t key h₁.
    bind-some _ _ _ h₁ λ u colon h₂.
    let e = ap (λ (t : Bytes × Bytes). t.0) (some_same h₂) in
    rw e at (key-named t.0 (key-read s t key)).high

scalar-valid : (s r : Bytes) (v : Value) → read_scalar s ≡ Some (v, r) → valid_value v ≡ true
unfolding read_scalar
scalar-valid s r v h =
    bind-some _ _ _ h λ t value h₁.
    let e = ap (λ (t : Value × Bytes). t.0) (some_same h₁) in
    rw e at (value-valid s t.1 t.0 value)

-- a value that was read at v
pub leaf-valid : (s : Bytes) (v : ℕ) (x : Option (Scalar × ℕ)) → value_answer s x ≡ placed read_scalar s v → v ≤ length s → (w : Scalar) (e : ℕ) → x ≡ Some (w, e)
    → valid_value (value_in s w) ≡ true
leaf-valid s v x answer h w e i = scalar-valid _ _ _ (scalar-reads s v x answer h w e i).is

-- ── A slot with the path p and the key k behind it ──
pub record Child (p : Keys) (k slot : Bytes) : Type 0 where
  pub is : path_in slot ≡ p ++ k ∷ []

-- a key that was read, behind a path that leaves room for depth keys
pub child-path : {s : Bytes} {i : ℕ} {p : Keys} {k slot : Bytes} {v depth : ℕ} → Reads read_member s i k v → length p + depth ≤ 6 → (depth ≡ 0 → ⊥)
    → path_in slot ≡ take max_depth (p ++ take max_key k ∷ []) → Child p k slot
child-path {p = p} {k = k} r h d e = record { is = e ∙ push-whole max_key max_depth p k (omega (arith, d)) (member-key _ _ _ r.is) }

-- ── What a key holds, put into fields ──
abbrev pub node_loaded : Keys → Fields → Node → Fields
node_loaded p fs a = store_node p a fs

module _ {p : Keys} {k slot : Bytes} (child : Child p k slot) where
  pub child-length : length (path_in slot) ≡ length p + 1
  child-length = ap length child.is ∙ length-append p (k ∷ [])

  has_key : is_empty slot ≡ false
  unfolding is_empty path_in
  has_key = ne_eqb (get_or slot 0 0) 0 (λ z. omega (arith, z, child-length, length-counted name_in key_row max_depth slot))

  module _ (fs : Fields) where
    -- a value that is stored there is the field of a leaf
    leaf-stored : (v : Value) → valid_value v ≡ true → stored_at slot v fs ≡ node_loaded (p ++ k ∷ []) fs (leaf v)
    unfolding stored_at store_node
    leaf-stored v h = rw (has_key, child.is, held-valid v h)

    module _ (d : ℕ) (s : Bytes) (v : ℕ) (x : Option (Scalar × ℕ)) (answer : value_answer s x ≡ placed read_scalar s v) where
      pub leaf-loaded : v ≤ length s → (w : Scalar) (e : ℕ) → x ≡ Some (w, e)
          → Some (stored_at slot (value_in s w) fs, e) ≡ placed (mapped (node_loaded (p ++ k ∷ []) fs) (read_node d)) s v
      leaf-loaded h w e i =
          rw (leaf-stored (value_in s w) (leaf-valid s v x answer h w e i)) (mapped-is _ (read_node d) s v _ e (node-leaf d s v x answer h w e i))

      pub object-loaded : x ≡ None
          → placed (mapped (loaded (path_in slot) fs) (read_object d)) s v ≡ placed (mapped (node_loaded (p ++ k ∷ []) fs) (read_node d)) s v
      unfolding loaded store_node
      object-loaded i = rw child.is (node-mapped d s v x answer i (node_loaded (p ++ k ∷ []) fs))

-- ── The members of an object at the path p, put into fields ──
module _ (p : Keys) (fs : Fields) where
  pub none-loaded : fs ≡ loaded p fs no_members
  unfolding loaded store_members
  none-loaded = refl

  pub member-loaded : (m : Members) (k : Bytes) (a : Node) (gs hs : Fields) → gs ≡ loaded p fs m → node_loaded (p ++ k ∷ []) gs a ≡ hs → hs ≡ loaded p fs (member m k a)
  unfolding loaded store_members
  member-loaded m k a gs hs e n = sym n ∙ ap (λ (l : Fields). node_loaded (p ++ k ∷ []) l a) e

-- ── A table without fields ──
pub emptied : (xs : Bytes) → fields_in (set xs 0 0) ≡ []
unfolding fields_in table rows up_to is_empty
emptied [] = refl
emptied (x ∷ xs) = refl

-- zeros stay zeros, which are written as no fields are
first-zero : (n : ℕ) → set (zeros n) 0 0 ≡ zeros n
first-zero n = ap (set (zeros n) 0) (sym (zero-at n 0)) ∙ set-get_or (zeros n) 0 0

pub emptied-zeros : (xs : Bytes) → xs ≡ zeros record_bytes → CanonicalFields (set xs 0 0)
emptied-zeros xs e = rw (e, first-zero record_bytes) none-canonical

-- ── The whole text ──
tree-top : (s : Bytes) (m : Members) → tree_of s ≡ Some m → (r : Bytes) × (read_top (skip s) ≡ Some (m, r))
unfolding tree_of read_top
tree-top s m h =
    bind-some _ _ m h λ t read h₁.
    check-some _ _ m h₁ λ rest h₂.
    (t.1, read ∙ ap (λ (o : Members). Some (o, t.1)) (some_same h₂))

loaded-same : (fs gs : Fields) (e : ℕ) (x : Option ℕ) → option_map {U = Fields × ℕ} (λ n. (fs, n)) x ≡ Some (gs, e) → fs ≡ gs
loaded-same fs gs e (Some n) h = ap (λ (t : Fields × ℕ). t.0) (some_same h)
loaded-same fs gs e None h = none-some h

module _ (s : Bytes) where
  -- a text that is refused has no fields for a table
  pub unread : (e : ℕ) → refused e ≡ reading_of s → fields_of s ≡ None
  unfolding fields_of reading_of Opened check ◌>>=◌ ◌>>◌
  unread e h = go (tree_of s) refl
    where
      go : (o : Option Members) → tree_of s ≡ o → fields_of s ≡ None
      go None i = rw i
      go (Some m) i = by_cases (twice m) (λ t. rw (i, t)) (λ t. let d : reading_of s ≡ done (count m) = rw (i, t) in refused-done (h ∙ d))

  -- one with n fields
  module _ (n : ℕ) (h : reading_of s ≡ done n) where
    pub tree : (m : Members) × (tree_of s ≡ Some m) × (twice m ≡ false) × (count m ≡ n)
    unfolding reading_of
    tree =
        let (m, t, r) = or-done (tree_of s) 8 _ n h in
        let (once, d) = if-done 6 (twice m) _ n r in
        (m, t, once, done-same d)

    pub many-fields : max_fields < n → fields_of s ≡ None
    unfolding fields_of check ◌>>=◌ ◌>>◌
    many-fields k = let (m, t, once, c) = tree in rw (t, once, c, lt-leb n max_fields k)

    pub few-fields : n ≤ max_fields → (at : ℕ) → at ≡ run_end is_blank s 0 → (fs : Fields) (x : Option ℕ)
        → option_map {U = Fields × ℕ} (λ e. (fs, e)) x ≡ placed (mapped (loaded [] []) read_top) s at → fields_of s ≡ Some fs
    unfolding fields_of check placed behind mapped loaded ◌>>=◌ ◌>>◌
    few-fields k at is fs x answer =
        let (m, t, once, c) = tree in
        let (r, top) = tree-top s m t in
        let read : read_top (drop at s) ≡ Some (m, r) = rw (← skip_at s 0 at is) top in
        let same = loaded-same fs (store_members [] m []) (length s - length r) x (answer ∙ rw read) in
        rw (t, once, c, le-leb n max_fields k, same)
