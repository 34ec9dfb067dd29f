use Prim.Native.Nat.{ℕ, ◌-◌}
use mathlib.Core.Path.{◌≡◌, sym, ap, ap₂, ◌∙◌}
use Rattle.std.specs.Prelude.{Some}
use mathlib.Core.List.{[], ◌∷◌, ◌++◌}
use native.Mathlib.Omega.{arith}
use Rattle.rows.specs.Positions.{Reads, placed}
use Rattle.rows.proofs.Positions.{none-placed}
use Rattle.model.specs.Limits.{max_depth}
use Rattle.model.specs.Fields.{Fields}
use Rattle.model.specs.RecordText.{Node, no_members, member}
use Rattle.paths.specs.Layout.{path_in}
use Rattle.layout.specs.Layout.{Keeps, CanonicalKeys}
use Rattle.paths.proofs.PathBytes.{keys-encoded}
use Rattle.record.specs.Slots.{fields_in, CanonicalFields}
use Rattle.reader.specs.Tokens.{key_answer, mapped}
use Rattle.loader.specs.Loaded.{loaded}
use Rattle.reader.specs.declared.tokens.Token.TheVariants.{Open, Close, Comma}
use Rattle.reader.proofs.Spaced.{token-moves, token-absent, token-stands, token-other, MemberStands, member-stands}
use Rattle.reader.proofs.Mapped.{mapped-bad, mapped-reads}
use Rattle.reader.proofs.Objects.{read_node, leaves-node, leaves-object, object-none, object-unopened, left-start, left-no-member, left-no-value, left-again, left-unclosed, left-last}
use Rattle.loader.proofs.Loading.{node_loaded, Child, child-path, child-length, leaf-valid, leaf-loaded, object-loaded, none-loaded, member-loaded}
use borrow.Author.Rules.{rules}
use Rattle.loader.proofs.+load_object.Goals.{After-put_child, In_ok-key, Joined-leaf_at, in-Some, in-None+in_ok-end-in-None}
use Rattle.loader.proofs.+load_object.Goals as goal

-- The loop keeps what is left to read and the fields of the members before it; an object that a key holds is read with one key less.

-- ── Behind a key and its colon: where the key stands, and where what it holds begins ──
stands : (t : ℕ) (c : In_ok-key t) → MemberStands c.args.s.now c.loop-key.i c.in_ok-key.key
stands t c = let m = c.in_ok-key.ensures in member-stands _ _ _ m.result_value m.member_in_text c.loop-key.invariant.1.to

-- the path of the key
child-stands : (t : ℕ) (c : After-put_child t) → Child (path_in c.args.path.now) (key_answer c.args.s.now c.in_ok-key.key).0 c.put_child.new.child
child-stands t c =
    let m = c.in_ok-key.ensures in
    let k = member-stands _ _ _ m.result_value m.member_in_text c.loop-key.invariant.1.to in
    child-path k.reads c.requires.2 c.if-depth-eq0.false c.put_child.ensures.child_after

-- ── Behind what the key holds ──
-- the same, there
key : (t : ℕ) (c : Joined-leaf_at t) → MemberStands c.args.s.now c.loop-key.i c.in_ok-key.key
key t c = let m = c.in_ok-key.ensures in member-stands _ _ _ m.result_value m.member_in_text c.loop-key.invariant.1.to

-- what the key holds is read, and its fields are in the table
loads : (t : ℕ) (c : Joined-leaf_at t)
    → let a = c.args in
    let k = c.in_ok-key.key in
    let h = c.match-leaf_at in
    ◌≡◌ (Some (fields_in h.table, h.end))
    (placed (mapped (node_loaded (path_in a.path.now ++ (key_answer a.s.now k).0 ∷ []) (fields_in c.loop-key.table)) (read_node (a.depth - 1))) a.s.now k.next)
loads t c =
    let l = c.leaf_at.ensures.result_value in
    let k = key t c in
    let p = child-path k.reads c.requires.2 c.if-depth-eq0.false c.put_child.ensures.child_after in
    let answer = λ (fs : Fields) (e : ℕ). Some (fs, e) in
    elim c.match-leaf_at.branch [
      | in-Some w ↦ ap₂ answer (ap fields_in w.table-is ∙ w.store_value.ensures.table_after) w.end-is ∙ leaf-loaded p _ _ _ _ _ l k.reads.to _ _ w.in-Some.is
      | in-None+in_ok-end-in-None w ↦ ap₂ answer (ap fields_in w.table-is) w.end-is ∙ w.in_ok-end-in-None.ensures.result_after ∙ object-loaded p _ _ _ _ _ l w.in-None.is
    ]

-- with a path written as its keys are, the table stays written as its fields are
stays : (t : ℕ) (c : Joined-leaf_at t) → CanonicalKeys max_depth c.args.path.now → Keeps CanonicalFields c.args.table.now c.match-leaf_at.table
stays t c path fields =
    let child = c.put_child.ensures.keeps path in
    let before = c.loop-key.invariant.3 path fields in
    let k = key t c in
    elim c.match-leaf_at.branch [
      | in-Some w ↦ rw w.table-is (w.store_value.ensures.keeps (keys-encoded _ child, leaf-valid _ _ _ c.leaf_at.ensures.result_value k.reads.to _ _ w.in-Some.is) before)
      | in-None+in_ok-end-in-None w ↦ rw w.table-is (w.in_ok-end-in-None.ensures.keeps child before)
    ]

-- what the key holds ends where the call says, and the table has the fields of one member more
node-stands : (t : ℕ) (c : Joined-leaf_at t)
    → let a = c.args in
    let k = c.in_ok-key.key in
    (n : Node)
    × Reads (read_node (a.depth - 1)) a.s.now k.next n c.match-leaf_at.end
    × (fields_in c.match-leaf_at.table ≡ loaded (path_in a.path.now) (fields_in a.table.now) (member c.loop-key.invariant.0 (key_answer a.s.now k).0 n))
node-stands t c =
    let r = mapped-reads _ (read_node _) _ _ (leaves-node _ (leaves-object _)) (key t c).reads.to _ _ (sym (loads t c)) in
    (r.0, r.1, member-loaded _ _ _ _ _ _ _ c.loop-key.invariant.2 r.2)

-- ── The start ──
pub returns-then-depth-eq0-clause-result_after : goal.returns-then-depth-eq0-clause-result_after
returns-then-depth-eq0-clause-result_after t c = object-none _ _ _ _ c.if-depth-eq0.true

pub returns-in_err-open-clause-result_after : goal.returns-in_err-open-clause-result_after
returns-in_err-open-clause-result_after t c =
    rw c.from_residual.ensures (object-unopened _ _ _ _ (token-absent _ _ c.in_err-open.ensures Open))

pub returns-in_default-clause-result_after : goal.returns-in_default-clause-result_after
returns-in_default-clause-result_after t c = object-unopened _ _ _ _ (token-other _ _ _ _ c.in_ok-open.ensures c.requires.0 Open (search rules))

pub loop-key-init : goal.loop-key-init
loop-key-init t c =
    let r = rw c.in-Open-default.is-0 at (token-stands _ _ _ _ c.in_ok-open.ensures c.requires.0) in
    (no_members, left-start _ _ _ c.if-depth-eq0.false _ r, none-loaded _ _, λ path fields. fields)

-- ── A member ──
pub returns-in_err-key-clause-result_after : goal.returns-in_err-key-clause-result_after
returns-in_err-key-clause-result_after t c =
    rw c.from_residual-in_err-key.ensures (left-no-member _ _ _ _ _ c.loop-key.invariant.1 _ (none-placed _ _ _ (sym c.in_err-key.ensures.result_value)))

pub load_object-requires : goal.load_object-requires
load_object-requires t c =
    let asks = c.requires in
    let k = stands t (goal.at.load_object-requires t c).In_ok-key in
    let child = child-stands t (goal.at.load_object-requires t c).After-put_child in
    (omega (arith, c.decreases, c.if-depth-eq0.false), (k.reads.to, asks.1, omega (arith, asks.2, c.if-depth-eq0.false, child-length child)))

pub returns-in_err-end-in-None-clause-result_after : goal.returns-in_err-end-in-None-clause-result_after
returns-in_err-end-in-None-clause-result_after t c =
    let k = stands t (goal.at.returns-in_err-end-in-None-clause-result_after t c).In_ok-key in
    let child = child-stands t (goal.at.returns-in_err-end-in-None-clause-result_after t c).After-put_child in
    let inner = c.in_err-end-in-None.ensures.result_after ∙ object-loaded child _ _ _ _ _ c.leaf_at.ensures.result_value c.in-None.is in
    rw c.from_residual-in_err-end-in-None.ensures (left-no-value _ _ _ _ _ c.loop-key.invariant.1 _ _ k.reads _ (mapped-bad _ (read_node _) _ _ (sym inner)))

-- ── Behind what the key holds: no comma and no closing brace ──
pub token_at-requires-in-loop-key : goal.token_at-requires-in-loop-key
token_at-requires-in-loop-key t c = (node-stands t (goal.at.token_at-requires-in-loop-key t c).Joined-leaf_at).1.to

pub returns-in_err-next : goal.returns-in_err-next
returns-in_err-next t c =
    let p = (goal.at.returns-in_err-next t c).Joined-leaf_at in
    let token = token-absent _ _ c.in_err-next.ensures in record {
      result_after = rw c.from_residual-in_err-next.ensures (left-unclosed _ _ _ _ _ c.loop-key.invariant.1 _ _ (key t p).reads _ _ (node-stands t p).1 _ (token Comma) (token Close));
      keeps = stays t p;
    }

pub returns-in_default-2 : goal.returns-in_default-2
returns-in_default-2 t c =
    let p = (goal.at.returns-in_default-2 t c).Joined-leaf_at in
    let n = (node-stands t p).1 in
    let token = token-other _ _ _ _ c.in_ok-next.ensures n.to in record {
      result_after = left-unclosed _ _ _ _ _ c.loop-key.invariant.1 _ _ (key t p).reads _ _ n _ (token Comma (search rules)) (token Close (search rules));
      keeps = stays t p;
    }

-- ── A closing brace ──
pub returns-in-Close-default : goal.returns-in-Close-default
returns-in-Close-default t c =
    let p = (goal.at.returns-in-Close-default t c).Joined-leaf_at in
    let n = node-stands t p in
    let token = c.in_ok-next.ensures in
    let close = rw c.in-Close-default.is-0 at (token-stands _ _ _ _ token n.1.to) in record {
      result_after = rw n.2 (left-last _ _ _ _ _ c.loop-key.invariant.1 _ _ (key t p).reads _ _ n.1 _ (token-other _ _ _ _ token n.1.to Comma (search rules)) _ close);
      keeps = stays t p;
    }

-- ── A comma ──
pub loop-key-smaller : goal.loop-key-smaller
loop-key-smaller t c =
    let p = (goal.at.loop-key-smaller t c).Joined-leaf_at in
    let n = node-stands t p in
    let r = rw c.in-Comma-default.is-0 at (token-stands _ _ _ _ c.in_ok-next.ensures n.1.to) in
    omega (arith, (key t p).reads.from, n.1.from, token-moves _ _ _ _ r, r.to)

pub loop-key-preserved : goal.loop-key-preserved
loop-key-preserved t c =
    let p = (goal.at.loop-key-preserved t c).Joined-leaf_at in
    let n = node-stands t p in
    let r = rw c.in-Comma-default.is-0 at (token-stands _ _ _ _ c.in_ok-next.ensures n.1.to) in
    (_, left-again _ _ _ _ _ c.loop-key.invariant.1 _ _ (key t p).reads _ _ n.1 _ r, n.2, stays t p)
