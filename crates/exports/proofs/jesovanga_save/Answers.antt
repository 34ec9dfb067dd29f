use Rattle.exports.proofs.Numbered.{reply-tells}
use Rattle.exports.proofs.jesovanga_save.Goals as goal

-- The kind and the number are those of the reply.

pub returns : goal.returns
returns c =
    let saved = c.save-reply in
    λ tables logins. reply-tells saved.result _ _ _ (saved.ensures tables logins) c.kind_of.ensures c.number_of.ensures
