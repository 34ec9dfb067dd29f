-- What a loop over the members of an object keeps: how many fields they have, and where their keys stand.
use Prim.Native.Nat.{ℕ, ◌+◌, ◌-◌, ◌*◌, ◌≤◌, ◌<◌}
use mathlib.Core.Path.{◌≡◌, refl, sym, ap₂, ◌∙◌}
use mathlib.Core.Bool.{Bool, false, ◌||◌, or_assoc}
use mathlib.Core.List.{List, [], ◌∷◌, ◌++◌}
use native.Mathlib.Nat.{sub_self}
use native.Mathlib.Numerals.{add-one}
use native.Mathlib.Omega.{arith}
use lib.ListN.{length, take, drop, set}
use lib.Seq.{take-take, take-set-le, take-suc-set, drop-append-le, length-take-le}
use Rattle.rows.proofs.Rows.{drop-take}
use Rattle.model.specs.Base.{Bytes, among}
use Rattle.model.specs.RecordText.{Node, Members, no_members, member, keys_in, twice_in, twice, count_in, count}
use Rattle.reader.specs.Summaries.{member_bytes, HaveRoom, stands_at_one, summary}
use Rattle.reader.specs.declared.tokens.Key.{Key}
use Rattle.reader.proofs.Spaced.{MemberStands, member-quoted}
use Rattle.reader.proofs.Standing.{Names, names-none, names_more, word-seen}

-- of what a key holds: how many fields it has, and whether a key stands in it twice
unfoldable pub node_summary : Node → ℕ × Bool
node_summary a = (count_in a, twice_in a)

-- the summary with one member more
summary-more : (m : Members) (name : Bytes) (a : Node) (fields more : ℕ) (doubled again : Bool)
    → summary m ≡ (fields, doubled) → node_summary a ≡ (more, again)
    → summary (member m name a) ≡ (fields + more, among name (keys_in m) || again || doubled)
unfolding summary node_summary count twice
summary-more m name a fields more doubled again p q =
    ap₂ (λ (x y : ℕ × Bool). (x.0 + y.0, among name (keys_in m) || (y.1 || x.1))) p q ∙ rw or_assoc

-- one position more in the table, whose places behind that one may be others
positions-more : (top : ℕ) (keys now : List ℕ) (n a : ℕ) → top ≤ n → n < length keys → take (n + 1) now ≡ take (n + 1) (set keys n a)
    → take (n + 1 - top) (drop top now) ≡ take (n - top) (drop top keys) ++ a ∷ []
positions-more top keys now n a above room same =
    let l : length (take n keys) ≡ n = length-take-le n keys (omega arith) in
    sym (drop-take top (n + 1) now)
    ∙ rw (same, add-one, take-suc-set keys n a room) (drop-append-le top (take n keys) (a ∷ []) (omega arith) ∙ rw (drop-take top n keys))

-- the members m of the object that begins at `at` end before i, and the table has the positions of their keys from `top` to n
pub record Sums (s : Bytes) (at top : ℕ) (keys₀ keys : List ℕ) (n fields : ℕ) (doubled : Bool) (m : Members) (i : ℕ) : Type 0 where
  pub long : length keys ≡ length keys₀
  pub above : top ≤ n
  pub room : member_bytes * n ≤ i
  pub kept : take top keys ≡ take top keys₀
  pub names : Names s (take (n - top) (drop top keys)) m
  pub within : at + fields ≤ i
  pub sums : summary m ≡ (fields, doubled)

pub sums-start : (s : Bytes) (at top : ℕ) (keys : List ℕ) (o : ℕ) → member_bytes * top ≤ at → at ≤ o → Sums s at top keys keys top 0 false no_members o
unfolding summary count twice
sums-start s at top keys o r f = record {
  long = refl;
  above = omega arith;
  room = omega arith;
  kept = refl;
  names = rw sub_self (names-none s);
  within = omega arith;
  sums = refl;
}

module _ (s : Bytes) (at top : ℕ) (keys₀ keys : List ℕ) (n fields : ℕ) (doubled : Bool) (m : Members) (i : ℕ) (before : Sums s at top keys₀ keys n fields doubled m i) where
  pub sums_on : (j : ℕ) → i ≤ j → Sums s at top keys₀ keys n fields doubled m j
  sums_on j h = record {
    long = before.long;
    above = before.above;
    room = omega (arith, before.room);
    kept = before.kept;
    names = before.names;
    within = omega (arith, before.within);
    sums = before.sums;
  }

  -- the table, where the places from n on may be others
  pub sums_kept : (now : List ℕ) (a : ℕ) → take (n + 1) now ≡ take (n + 1) (set keys n a) → take top now ≡ take top keys₀
  sums_kept now a same =
      sym (take-take top (n + 1) now (omega (arith, before.above)))
      ∙ rw same (take-take top (n + 1) (set keys n a) (omega (arith, before.above)) ∙ take-set-le top keys n a before.above ∙ before.kept)

  -- a member more: what its key k holds ends at e
  module _ (fit : HaveRoom s keys₀) (k : Key) (key : MemberStands s i k) where
    pub sums-room : n < length keys
    sums-room = omega (arith, before.long, before.room, key.quote, key.least, key.colon, key.reads.to)

    sums-seen : stands_at_one (take (k.to + 1 - k.from) (drop k.from s)) s (take (n - top) (drop top keys)) ≡ among (take (k.to - k.from) (drop k.from s)) (keys_in m)
    sums-seen =
        let q = member-quoted _ _ _ key.reads.is in
        word-seen s _ m before.names _ q.0 i q.1 k.from key.quote k.to (omega (arith, key.least)) (omega (arith, key.colon, key.reads.to)) refl

    pub sums-more : (seen : Bool) → seen ≡ stands_at_one (take (k.to + 1 - k.from) (drop k.from s)) s (take (n - top) (drop top keys))
        → (now : List ℕ) → length now ≡ length keys₀ → take (n + 1) now ≡ take (n + 1) (set keys n k.from)
        → (a : Node) (e more : ℕ) (again : Bool) → k.next ≤ e → i + more ≤ e → node_summary a ≡ (more, again)
        → Sums s at top keys₀ now (n + 1) (fields + more) (seen || again || doubled) (member m (take (k.to - k.from) (drop k.from s)) a) e
    sums-more seen is now l same a e more again f w is_sum =
        let q = member-quoted _ _ _ key.reads.is in
        record {
          long = l;
          above = omega (arith, before.above);
          room = omega (arith, before.room, key.quote, key.least, key.colon);
          kept = sums_kept now k.from same;
          names = rw (positions-more top keys now n k.from before.above sums-room same) (names_more s _ m before.names _ q.0 i q.1 k.from key.quote a);
          within = omega (arith, before.within);
          sums = summary-more m _ a fields more doubled again before.sums is_sum ∙ rw (is ∙ sums-seen);
        }
