-- A name in a row of w bytes and one that says how many: how it is written, and how it is read back.
use Prim.Native.Nat.{ℕ, ◌+◌, ◌-◌, ◌≤◌, ◌<◌, min}
use mathlib.Core.Path.{◌≡◌, ◌∙◌}
use mathlib.Core.List.{List, [], ◌∷◌, ◌++◌}
use native.Mathlib.Omega.{arith}
use lib.ListN.{length, get_or, take, length-take, length-drop, length-append}
use lib.Seq.{take_all, take_at}
use Rattle.rows.specs.Rows.{written}
use Rattle.rows.proofs.Writing.{written-clipped, length-written}
use Rattle.model.specs.Base.{Bytes}
use Rattle.layout.specs.Layout.{name_in}

-- a name has at most as many bytes as its row has room for
pub name-length : (w : ℕ) {name : Bytes} (row : Bytes) → name ≡ name_in row → length row ≤ 1 + w → length name ≤ w
unfolding name_in
name-length w row h l = rw h (simp (length-take, length-drop) (omega arith))

-- a name that has room and is pushed behind fewer than m stands there whole
pub push-whole : (w m : ℕ) (ns : List Bytes) (name : Bytes) → length ns < m → length name ≤ w
    → take m (ns ++ take w name ∷ []) ≡ ns ++ name ∷ []
push-whole w m ns name h k = rw (take_all w name k) (take_all m (ns ++ name ∷ []) (rw length-append (omega arith)))

-- a row into which a name was written
pub record Named (w : ℕ) (name row : Bytes) : Type 0 where
  pub long : length row ≡ 1 + w
  pub is : name_in row ≡ take w name
  pub first : get_or row 0 0 ≡ min (length name) w

pub named : (w : ℕ) (name old : Bytes) {row : Bytes} → length old ≡ 1 + w
    → row ≡ written 0 (min (length name) (length old - 1) ∷ take (length old - 1) name) old → Named w name row
unfolding name_in
named w name old l e =
    let room : length old - 1 ≡ w = omega arith in
    let n = min (length name) w in
    let all = take_all (length old - 0) (n ∷ take w name) (simp length-take (omega arith)) in
    rw (e, room) (record {
      long = length-written 0 (n ∷ take w name) old ∙ l;
      is = rw (written-clipped, all) (take_at (take w name) _ n (simp length-take (omega arith)));
      first = rw (written-clipped, all);
    })
