use Prim.Native.Nat.{ℕ, ◌+◌, ◌-◌, ◌≤◌}
use mathlib.Core.Path.{◌≡◌, sym, ap, ◌∙◌}
use Rattle.std.specs.Prelude.{Some}
use mathlib.Core.Bool.{Bool, ◌||◌}
use native.Mathlib.Omega.{arith}
use lib.ListN.{take, set}
use Rattle.rows.specs.Positions.{Reads, placed}
use Rattle.rows.proofs.Positions.{none-placed}
use Rattle.model.specs.RecordText.{Node, member, count, twice}
use Rattle.reader.specs.Tokens.{key_answer, mapped}
use Rattle.reader.specs.Summaries.{summary, object_answer}
use Rattle.reader.specs.declared.tokens.Token.TheVariants.{Open, Close, Comma}
use Rattle.reader.proofs.Spaced.{token-moves, token-absent, token-stands, token-other, MemberStands, member-stands}
use Rattle.reader.proofs.Mapped.{mapped-is, mapped-bad, mapped-reads}
use Rattle.reader.proofs.Objects.{read_node, leaves-node, leaves-object, node-leaf, node-mapped, object-none, object-unopened, left-start, left-no-member, left-no-value, left-unclosed, left-last, left-again}
use Rattle.reader.proofs.Sums.{Sums, node_summary, sums-start, sums_on, sums_kept, sums-more}
use borrow.Author.Rules.{rules}
use Rattle.reader.proofs.grammar.+object_at.Goals.{In_ok-key, Joined-leaf_at, in-Some, in-None+in_ok-held-in-None}
use Rattle.reader.proofs.grammar.+object_at.Goals as goal

-- The loop keeps what is left to read and the sums of the members before; an object that a key holds is read with one key less.

-- ── Behind a key and its colon: where the key stands, and where what it holds begins ──
stands : (t : ℕ) (c : In_ok-key t) → MemberStands c.args.s.now c.loop-key.i c.in_ok-key.key
stands t c = let m = c.in_ok-key.ensures in member-stands _ _ _ m.result_value m.member_in_text c.loop-key.invariant.1.to

-- ── Behind what the key holds ──
-- the same, there
key : (t : ℕ) (c : Joined-leaf_at t) → MemberStands c.args.s.now c.loop-key.i c.in_ok-key.key
key t c = let m = c.in_ok-key.ensures in member-stands _ _ _ m.result_value m.member_in_text c.loop-key.invariant.1.to

-- the answer says the sums of what the key holds, and the positions up to this key's are kept
held : (t : ℕ) (c : Joined-leaf_at t)
    → let l = c.loop-key in
    let h = c.match-leaf_at in
    (Some (object_answer h.held) ≡ placed (mapped node_summary (read_node (c.args.depth - 1))) c.args.s.now c.in_ok-key.key.next)
    × (l.i + h.held.fields ≤ h.held.end)
    × (take (l.n + 1) h.keys ≡ take (l.n + 1) (set l.keys l.n c.in_ok-key.key.from))
unfolding node_summary summary count twice
held t c =
    let noted = c.note_key-seen in
    let k = key t c in
    let l = c.loop-key in
    let leaf = c.leaf_at.ensures.result_value in
    elim c.match-leaf_at.branch [
      | in-Some w ↦ let node = node-leaf _ _ _ _ leaf k.reads.to _ _ w.in-Some.is in
          rw w.held-is (
            mapped-is node_summary (read_node _) _ _ _ _ node,
            omega (arith, k.quote, k.least, k.colon, node.from),
            ap (take (l.n + 1)) (w.keys-is ∙ noted.ensures.keys_after),
          )
      | in-None+in_ok-held-in-None w ↦ let inner = w.in_ok-held-in-None.ensures in
          rw w.held-is (
            inner.result_value ∙ node-mapped _ _ _ _ leaf w.in-None.is node_summary,
            omega (arith, k.reads.from, inner.fields_within),
            ap (take (l.n + 1)) w.keys-is ∙ inner.keys_unchanged ∙ ap (take (l.n + 1)) noted.ensures.keys_after,
          )
    ]

-- where it ends, and the sums with one member more
node-stands : (t : ℕ) (c : Joined-leaf_at t)
    → let a = c.args in
    let l = c.loop-key in
    let k = c.in_ok-key.key in
    let h = c.match-leaf_at in
    (node : Node) × Reads (read_node (a.depth - 1)) a.s.now k.next node h.held.end
    × Sums a.s.now a.at a.top a.keys.now h.keys (l.n + 1) (l.fields + h.held.fields)
    (c.note_key-seen.result || h.held.twice || l.twice) (member l.invariant.0 (key_answer a.s.now k).0 node) h.held.end
node-stands t c =
    let k = key t c in
    let h = held t c in
    let noted = c.note_key-seen in
    let l = c.loop-key.invariant in
    let (node, reads, sums) = mapped-reads node_summary (read_node _) _ _ (leaves-node _ (leaves-object _)) k.reads.to _ _ (sym h.0) in (
      node,
      reads,
      sums-more _ _ _ _ _ _ _ _ _ _ l.2 c.requires.2 _ k _ noted.ensures.value
          _ (c.match-leaf_at.auto.keys ∙ noted.auto.keys ∙ l.2.long) h.2 node _ _ _ reads.from h.1 sums,
    )

-- ── The start ──
pub returns-then-depth-eq0-clause-result_value : goal.returns-then-depth-eq0-clause-result_value
returns-then-depth-eq0-clause-result_value t c = object-none _ _ _ _ c.if-depth-eq0.true

pub returns-in_err-open-clause-result_value : goal.returns-in_err-open-clause-result_value
returns-in_err-open-clause-result_value t c =
    rw c.from_residual.ensures (object-unopened _ _ _ _ (token-absent _ _ c.in_err-open.ensures Open))

pub returns-in_default-clause-result_value : goal.returns-in_default-clause-result_value
returns-in_default-clause-result_value t c = object-unopened _ _ _ _ (token-other _ _ _ _ c.in_ok-open.ensures c.requires.0 Open (search rules))

pub loop-key-init : goal.loop-key-init
loop-key-init t c =
    let r = rw c.in-Open-default.is-0 at (token-stands _ _ _ _ c.in_ok-open.ensures c.requires.0) in
    (_, left-start _ _ _ c.if-depth-eq0.false _ r, sums-start _ _ _ _ _ c.requires.3 r.from)

-- ── A member ──
pub returns-in_err-key-clause-result_value : goal.returns-in_err-key-clause-result_value
returns-in_err-key-clause-result_value t c =
    rw c.from_residual-in_err-key.ensures (left-no-member _ _ _ _ _ c.loop-key.invariant.1 _ (none-placed _ _ _ (sym c.in_err-key.ensures.result_value)))

pub returns-in_err-held-in-None-clause-result_value : goal.returns-in_err-held-in-None-clause-result_value
unfolding node_summary summary count twice
returns-in_err-held-in-None-clause-result_value t c =
    let k = stands t (goal.at.returns-in_err-held-in-None-clause-result_value t c).In_ok-key in
    let inner = c.in_err-held-in-None.ensures.result_value ∙ node-mapped _ _ _ _ c.leaf_at.ensures.result_value c.in-None.is node_summary in
    rw c.from_residual-in_err-held-in-None.ensures (left-no-value _ _ _ _ _ c.loop-key.invariant.1 _ _ k.reads _ (mapped-bad node_summary (read_node _) _ _ (sym inner)))

pub returns-in_err-held-in-None-clause-keys_unchanged : goal.returns-in_err-held-in-None-clause-keys_unchanged
returns-in_err-held-in-None-clause-keys_unchanged t c =
    let l = c.loop-key in
    sums_kept _ _ _ _ _ _ _ _ _ _ l.invariant.2 _ _ (c.in_err-held-in-None.ensures.keys_unchanged ∙ ap (take (l.n + 1)) c.note_key-seen.ensures.keys_after)

-- ── Behind what the key holds: no comma and no closing brace ──
pub token_at-requires-in-loop-key : goal.token_at-requires-in-loop-key
token_at-requires-in-loop-key t c = (node-stands t (goal.at.token_at-requires-in-loop-key t c).Joined-leaf_at).1.to

pub returns-in_err-next-clause-result_value : goal.returns-in_err-next-clause-result_value
returns-in_err-next-clause-result_value t c =
    let p = (goal.at.returns-in_err-next-clause-result_value t c).Joined-leaf_at in
    let token = token-absent _ _ c.in_err-next.ensures in
    rw c.from_residual-in_err-next.ensures (left-unclosed _ _ _ _ _ c.loop-key.invariant.1 _ _ (key t p).reads _ _ (node-stands t p).1 _ (token Comma) (token Close))

pub returns-in_err-next-clause-keys_unchanged : goal.returns-in_err-next-clause-keys_unchanged
returns-in_err-next-clause-keys_unchanged t c = (node-stands t (goal.at.returns-in_err-next-clause-keys_unchanged t c).Joined-leaf_at).2.kept

pub returns-in_default-2-clause-result_value : goal.returns-in_default-2-clause-result_value
returns-in_default-2-clause-result_value t c =
    let p = (goal.at.returns-in_default-2-clause-result_value t c).Joined-leaf_at in
    let n = (node-stands t p).1 in
    let token = token-other _ _ _ _ c.in_ok-next.ensures n.to in
    left-unclosed _ _ _ _ _ c.loop-key.invariant.1 _ _ (key t p).reads _ _ n _ (token Comma (search rules)) (token Close (search rules))

pub returns-in_default-2-clause-keys_unchanged : goal.returns-in_default-2-clause-keys_unchanged
returns-in_default-2-clause-keys_unchanged t c = (node-stands t (goal.at.returns-in_default-2-clause-keys_unchanged t c).Joined-leaf_at).2.kept

-- ── A closing brace ──
pub returns-in-Close-default : goal.returns-in-Close-default
returns-in-Close-default t c =
    let p = (goal.at.returns-in-Close-default t c).Joined-leaf_at in
    let n = node-stands t p in
    let token = c.in_ok-next.ensures in
    let close = rw c.in-Close-default.is-0 at (token-stands _ _ _ _ token n.1.to) in record {
      result_value = ap (λ (x : ℕ × Bool). Some (x, c.in_ok-next.field-0.1)) (sym n.2.sums)
          ∙ left-last _ _ _ _ _ c.loop-key.invariant.1 _ _ (key t p).reads _ _ n.1 _ (token-other _ _ _ _ token n.1.to Comma (search rules)) _ close;
      fields_within = omega (arith, n.2.within, close.from);
      keys_unchanged = n.2.kept;
    }

-- ── A comma ──
pub loop-key-smaller : goal.loop-key-smaller
loop-key-smaller t c =
    let p = (goal.at.loop-key-smaller t c).Joined-leaf_at in
    let n = node-stands t p in
    let r = rw c.in-Comma-default.is-0 at (token-stands _ _ _ _ c.in_ok-next.ensures n.1.to) in
    omega (arith, (key t p).reads.from, n.1.from, token-moves _ _ _ _ r, r.to)

pub loop-key-preserved : goal.loop-key-preserved
loop-key-preserved t c =
    let p = (goal.at.loop-key-preserved t c).Joined-leaf_at in
    let n = node-stands t p in
    let r = rw c.in-Comma-default.is-0 at (token-stands _ _ _ _ c.in_ok-next.ensures n.1.to) in
    (_, left-again _ _ _ _ _ c.loop-key.invariant.1 _ _ (key t p).reads _ _ n.1 _ r, sums_on _ _ _ _ _ _ _ _ _ _ n.2 _ r.from)
