use Rattle.tables.proofs.Pushed.{binding-put}
use Rattle.tables.proofs.push.put_binding.Goals as goal

-- The value and then the name are written into a row of zeros: nothing else is there.

pub returns : goal.returns
returns c =
    binding-put c.args.name.now c.args.value.now c.requires c.put_name.ensures c.put_name-2.ensures
