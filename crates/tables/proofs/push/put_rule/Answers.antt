use Rattle.buffers.proofs.Writers.{wrote-both}
use Rattle.tables.proofs.Pushed.{rule-put}
use Rattle.tables.proofs.push.put_rule.Goals as goal

-- The access and the steps, and then the role before them, are written into a row of zeros: nothing else is there.

pub returns : goal.returns
returns c =
    let tail = wrote-both _ _ _ _ _ _ _ _ c.put_byte-path.ensures c.put.ensures in
    rule-put c.args.role.now c.args.access c.args.steps.now c.requires.0 c.requires.1 tail.1 c.put_name.ensures
