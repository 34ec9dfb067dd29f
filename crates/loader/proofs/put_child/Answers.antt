use mathlib.Core.Path.{◌≡◌, ◌∙◌}
use mathlib.Core.List.{append-nil}
use native.Mathlib.Omega.{arith}
use lib.ListN.{length}
use Rattle.rows.proofs.Positions.{over}
use borrow.Author.Rules.{rules}
use Rattle.paths.specs.Layout.{path_slot, path_in}
use Rattle.loader.proofs.put_child.Goals as goal

-- The path is copied, and the key is pushed behind its keys.

pub returns : goal.returns
unfolding path_in
returns c =
    let a = c.args in
    let l : length a.path.now ≡ path_slot = search rules in
    let m : length a.child.now ≡ path_slot = search rules in
    let same = rw (over a.child.now (length a.path.now) (omega arith), append-nil a.path.now) at c.copy.ensures in
    let keys = c.push_key.ensures.slot_after in
    let keeps = c.push_key.ensures.keeps in
    record { child_after = keys ∙ rw same; child_len = search rules; keeps = λ h. keeps (rw same h) }
