use Rattle.buffers.proofs.Writers.{wrote-both}
use Rattle.tables.proofs.Pushed.{user-put}
use Rattle.tables.proofs.push.put_user.Goals as goal

-- The quota, an empty first line, the key, the role and the name are written into a row of zeros, from its end on: nothing else is there.

pub returns : goal.returns
returns c =
    let key = c.put_name in
    let role = c.put_name-2 in
    let name = c.put_name-3 in
    let quota = wrote-both _ _ _ _ _ _ _ _ c.put_byte-high.ensures c.put_byte.ensures in
    user-put c.args.name.now c.args.role.now c.args.key.now c.args.quota c.requires quota.1 key.ensures role.ensures name.ensures
