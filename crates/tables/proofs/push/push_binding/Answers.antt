use mathlib.Core.Path.{◌∙◌}
use Rattle.model.specs.Limits.{max_bindings}
use Rattle.layout.specs.Layout.{Canonical}
use Rattle.layout.proofs.Changed.{table-pushed}
use Rattle.layout.proofs.Canonical.{canonical-pushed}
use Rattle.steps.specs.Environments.{binding_row, binding_in, bindings_in, encode_binding}
use Rattle.tables.proofs.Pushed.{binding-read, binding-canonical, binding-full}
use borrow.Author.Rules.{rules}
use Rattle.tables.proofs.push.push_binding.Goals as goal

-- The line's row is written, and put behind those in use.

pub push_row-requires : goal.push_row-requires
push_row-requires c =
    (search rules, search rules, rw c.put_binding.ensures (binding-full c.args.name.now c.args.value.now c.requires.1))

pub returns : goal.returns
unfolding bindings_in
returns c =
    let push = c.push_row in
    let s = c.args in
    let row = c.put_binding in
    let is : Canonical encode_binding binding_in row.new.row = rw row.ensures (binding-canonical s.name.now s.value.now) in record { lines_after = table-pushed binding_in binding_row max_bindings s.lines.now _ _ push.ensures.t_after ∙ rw (row.ensures, binding-read s.name.now s.value.now); keeps = canonical-pushed (Canonical encode_binding binding_in) binding_row max_bindings is push.ensures.t_after push.ensures.keeps }
