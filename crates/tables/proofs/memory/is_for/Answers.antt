use Rattle.model.specs.Base.{text}
use Rattle.model.specs.Tables.{every_role}
use Rattle.model.specs.Rights.{is_for}
use Rattle.tables.specs.Memory.{user_in, rule_in}
use Rattle.tables.proofs.memory.is_for.Goals as goal

-- The line's role is compared with the user's, and where they differ with `*`.

pub returns-then-same_bytes : goal.returns-then-same_bytes
unfolding is_for user_in rule_in
returns-then-same_bytes c =
    rw (← c.name_from-role.ensures, ← c.name_from.ensures, ← c.same_bytes.ensures, c.if-same_bytes.true)

pub returns : goal.returns
unfolding is_for user_in rule_in every_role text
returns c =
    rw (← c.name_from-role.ensures, ← c.name_from.ensures, ← c.same_bytes.ensures, c.if-same_bytes.false) c.same_bytes-2.ensures
