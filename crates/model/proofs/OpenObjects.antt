-- Objects that are being read: the readers of record text, from a node that was read to the end of the objects around it.
-- The bytes 34, 44, 58, 123 and 125 are the quote, the comma, the colon and the two braces.
use Prim.Native.Nat.{ℕ, zero, suc, ◌-◌, ◌≤◌, ◌<◌}
use mathlib.Core.Path.{◌≡◌, refl, sym, ap, ◌∙◌}
use Rattle.std.specs.Prelude.{Option, None, Some}
use mathlib.Core.List.{List, [], ◌∷◌, ◌++◌, map, append_assoc}
use mathlib.Core.Bool.{true, false}
use lib.Dec.{leb, eqb}
use lib.ListN.{length, length-append}
use native.Mathlib.Omega.{arith}
use borrow.Author.Tests.{eqb-true, leb-true}
use Rattle.model.specs.Base.{Bytes, text, all, ◌≐◌, ◌>>=◌, ◌>>◌, ◌<|>◌, check, after, if_after, within, is_digit}
use Rattle.model.specs.Limits.{max_depth, max_key}
use Rattle.model.specs.Names.{name_byte, is_name_of, is_key}
use Rattle.model.specs.Values.{Value, valid_value, quoted, value_text, read_value}
use Rattle.model.specs.Fields.{Keys, valid_keys}
use Rattle.model.specs.RecordText.{Node, leaf, object, Members, no_members, member, is_blank, skip, token}
use Rattle.model.specs.RecordText.{read_key, read_leaf, read_more, read_members, as_node, read_object, read_empty, tree_of, Opened}
use Rattle.model.specs.SavedText.{descend, ascend}
use Rattle.model.proofs.Lists.{by_cases, and_both, none-some}
use Rattle.model.proofs.Reading.{Stops, span-all}
use Rattle.model.proofs.Spelling.{value-reads}

-- ── Paths that fit: at most d keys, each a key of a record ──
abbrev pub Fits : ℕ → Keys → Type 0
Fits d [] = Unit {0}
Fits zero (k ∷ q) = ⊥
Fits (suc d) (k ∷ q) = (is_key k ≡ true) × Fits d q

fits : (d : ℕ) (q : Keys) → length q ≤ d → all is_key q ≡ true → Fits d q
unfolding all
fits d [] n h = tt
fits zero (k ∷ q) n h = absurd (omega arith)
fits (suc d) (k ∷ q) n h = let w = and_both (is_key k) (all is_key q) h in (w.0, fits d q (omega arith) w.1)

pub valid-path : (p : Keys) → valid_keys p ≡ true → (1 ≤ length p) × Fits max_depth p
unfolding valid_keys within
valid-path p h =
    let w = and_both (within 1 max_depth (length p)) (all is_key p) h in
    let n = and_both (leb 1 (length p)) (leb (length p) max_depth) w.0 in
    (leb-true 1 (length p) n.0, fits max_depth p (leb-true (length p) max_depth n.1) w.1)

-- ── Open objects, the outermost first ──
-- the members before, the key that is being read, and how many members may follow
pub record Frame : Type 0 where
  pub before : Members
  pub key : Bytes
  pub bound : ℕ

abbrev pub Frames : Type 0
Frames = List Frame

abbrev pub keys : Frames → Keys
keys gs = map (λ g. g.key) gs

-- their tree, if the innermost key holds v and nothing follows
unfoldable pub around : Frames → Node → Node
around [] v = v
around (g ∷ gs) v = object (member g.before g.key (around gs v))

-- what a key holds, d keys deep at most
abbrev pub read_node : ℕ → Bytes → Option (Node × Bytes)
read_node d s = read_leaf s <|> (read_object d s >>= as_node)

-- from behind a node to the end of the object that holds it
abbrev pub behind : ℕ → Frame → Node × Bytes → Option (Members × Bytes)
behind d g t = let m = member g.before g.key t.0 in read_more (read_members (read_node d) g.bound m) m t.1

-- from behind a node to the end of all the objects around it
unfoldable pub resume : ℕ → Frames → Node × Bytes → Option (Node × Bytes)
resume d [] t = Some t
resume zero (g ∷ gs) t = None
resume (suc d) (g ∷ gs) t = resume d gs t >>= behind d g >>= as_node

-- ── What the readers do at the first byte ──
skip-none : (s : Bytes) → Stops is_blank s → skip s ≡ s
unfolding skip
skip-none s h = ap (λ (p : Bytes × Bytes). p.1) (span-all is_blank [] s (unfold all in refl) h)

leaf-none : (s : Bytes) → read_leaf (123 ∷ s) ≡ None
unfolding Opened
leaf-none s = refl

-- no value begins with a blank
value-plain : (s : Bytes) (t : Value × Bytes) → read_value s ≡ Some t → Stops is_blank s
unfolding Opened
value-plain [] t h = tt
value-plain (x ∷ s) t h = rw (other 0x20 refl, other 0x09 refl, other 0x0A refl, other 0x0D refl)
  where
    other : (c : ℕ) → read_value (c ∷ s) ≡ None → eqb x c ≡ false
    other c e = by_cases (eqb x c) (λ k. none-some (sym e ∙ rw (eqb-true x c k) at h)) (λ k. k)

-- neither a digit nor a blank comes next
abbrev pub Ends : Bytes → Type 0
Ends s = Stops is_digit s × Stops is_blank s

module _ (v : Value) (r : Bytes) (h : valid_value v ≡ true) (e : Ends r) where
  pub text-plain : Stops is_blank (value_text v ++ r)
  text-plain = value-plain _ _ (value-reads v r h e.0)

  pub leaf-reads : (d : ℕ) → read_node d (value_text v ++ r) ≡ Some (leaf v, r)
  unfolding read_leaf ◌>>=◌ ◌<|>◌
  leaf-reads d = rw (value-reads v r h e.0, skip-none r e.1)

-- ── Closing ──
ascend-last : (k : Bytes) (p : Keys) (r : Bytes) → ascend (k ∷ p) ++ r ≡ ascend p ++ (125 ∷ r)
unfolding ascend
ascend-last k [] r = refl
ascend-last k (l ∷ p) r = ap (125 ∷◌) (ascend-last k p r)

pub closes : (d : ℕ) (gs : Frames) (v : Node) (r : Bytes) → Fits d (keys gs) → Stops is_blank r →
    resume d gs (v, ascend (keys gs) ++ r) ≡ Some (around gs v, r)
unfolding resume around
closes d [] v r h b = unfold ascend in refl
closes zero (g ∷ gs) v r h b = absurd h
closes (suc d) (g ∷ gs) v r h b =
    rw (ascend-last g.key (keys gs) r, closes d gs v (125 ∷ r) h.1 (unfold is_blank in refl))
    (unfold ◌>>=◌ if_after read_more token after text as_node in rw (skip-none r b))

-- ── Opening ──
-- of a node that holds a value at q: what stands before the value
unfoldable pub start : Keys → Bytes
start [] = []
start (k ∷ q) = 123 ∷ descend (k ∷ q)

start_plain : (q : Keys) (t : Bytes) → Stops is_blank t → Stops is_blank (start q ++ t)
unfolding start
start_plain [] t b = b
start_plain (k ∷ q) t b = unfold is_blank in refl

key_reads : (k r : Bytes) → is_key k ≡ true → Stops is_blank r → read_key (34 ∷ (k ++ (34 ∷ r))) ≡ Some (k, r)
unfolding read_key token text after ◌>>=◌ ◌>>◌ check
key_reads k r h b =
    let w : all name_byte k ≡ true = unfold is_key is_name_of in (and_both (within 1 max_key (length k)) (all name_byte k) h).1 in
    rw (span-all name_byte k (34 ∷ r) w (unfold name_byte within in refl), h, skip-none r b)

descend-start : (k : Bytes) (q : Keys) (t : Bytes) → descend (k ∷ q) ++ t ≡ 34 ∷ (k ++ (34 ∷ 58 ∷ (start q ++ t)))
unfolding descend start quoted text
descend-start k [] t = simp append_assoc
descend-start k (l ∷ q) t = simp append_assoc

module _ (k : Bytes) (q : Keys) (t : Bytes) where
  descend-skip : skip (descend (k ∷ q) ++ t) ≡ descend (k ∷ q) ++ t
  descend-skip = skip-none _ (rw (descend-start k q t) (unfold is_blank in refl))

  pub descend-longer : length t < length (descend (k ∷ q) ++ t)
  descend-longer = rw (descend-start k q t) (omega (arith, length-append k (34 ∷ 58 ∷ (start q ++ t)), length-append (start q) t))

  module _ (h : is_key k ≡ true) (b : Stops is_blank t) where
    -- a member, up to what its key holds
    member-reads : (d n : ℕ) (m : Members) → 0 < n → read_members (read_node d) n m (descend (k ∷ q) ++ t) ≡
        read_node d (start q ++ t) >>= behind d (record { before = m; key = k; bound = n - 1 })
    unfolding read_members token text after ◌>>=◌
    member-reads d zero m n = absurd (omega arith)
    member-reads d (suc c) m n =
        let e : suc c - 1 ≡ c = omega arith in
        let w = key_reads k (58 ∷ (start q ++ t)) h (unfold is_blank in refl) in
        rw (descend-start k q t, w, skip-none (start q ++ t) (start_plain q t b), e)

    -- the first member of an object
    pub object-reads : (d : ℕ) → read_node (suc d) (start (k ∷ q) ++ t) ≡ read_node d (start q ++ t) >>=
        behind d (record { before = no_members; key = k; bound = length (descend (k ∷ q) ++ t) - 1 }) >>= as_node
    unfolding start read_object token text after ◌>>=◌ ◌<|>◌
    object-reads d =
        let n : 0 < length (descend (k ∷ q) ++ t) = omega (arith, descend-longer) in
        rw (leaf-none (descend (k ∷ q) ++ t), descend-skip, member-reads d _ no_members n)

    -- the next member of the object g, from a node v inside it
    pub next-reads : (d : ℕ) (g : Frame) (gs : Frames) (v : Node) → Fits d (keys gs) → 0 < g.bound →
        resume (suc d) (g ∷ gs) (v, ascend (keys gs) ++ (44 ∷ (descend (k ∷ q) ++ t))) ≡ read_node d (start q ++ t) >>=
        behind d (record { before = member g.before g.key (around gs v); key = k; bound = g.bound - 1 }) >>= as_node
    unfolding resume read_more if_after token text after ◌>>=◌
    next-reads d g gs v f n =
        rw (closes d gs v (44 ∷ (descend (k ∷ q) ++ t)) f (unfold is_blank in refl), descend-skip, member-reads d _ _ n)

-- ── The whole text ──
as-object : (x : Option (Members × Bytes)) (n : Node) (r : Bytes) → x >>= as_node ≡ Some (n, r) →
    (m : Members) × (x ≡ Some (m, r)) × (n ≡ object m)
unfolding ◌>>=◌ as_node
as-object None n r h = none-some h
as-object (Some t) n r h =
    let e : ◌≡◌ {A = Node × Bytes} (object t.0, t.1) (n, r) = cc in
    (t.0, ap (λ (x : Node × Bytes). Some (t.0, x.1)) e, ap (λ (x : Node × Bytes). x.0) (sym e))

empty-none : (k : Bytes) (q : Keys) (t : Bytes) → read_empty (123 ∷ (descend (k ∷ q) ++ t)) ≡ None
unfolding read_empty token text after ◌>>=◌
empty-none k q t = rw (descend-skip k q t, descend-start k q t)

whole-reads : (k : Bytes) (q : Keys) (t : Bytes) (m : Members) → read_object max_depth (123 ∷ (descend (k ∷ q) ++ t)) ≡ Some (m, []) →
    tree_of (123 ∷ (descend (k ∷ q) ++ t)) ≡ Some m
unfolding tree_of ◌>>=◌ ◌>>◌ ◌<|>◌ ◌≐◌ check
whole-reads k q t m h = rw (skip-none (123 ∷ (descend (k ∷ q) ++ t)) (unfold is_blank in refl), empty-none k q t, h)

pub tree-reads : (p : Keys) (t : Bytes) (n : Node) → 1 ≤ length p → read_node max_depth (start p ++ t) ≡ Some (n, []) →
    (m : Members) × (tree_of (123 ∷ (descend p ++ t)) ≡ Some m) × (n ≡ object m)
unfolding start ◌<|>◌
tree-reads [] t n l h = absurd (omega arith)
tree-reads (k ∷ q) t n l h =
    let a = as-object (read_object max_depth (123 ∷ (descend (k ∷ q) ++ t))) n [] (rw (leaf-none (descend (k ∷ q) ++ t)) at h) in
    (a.0, whole-reads k q t a.0 a.1, a.2)
