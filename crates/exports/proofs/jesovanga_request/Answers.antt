use Rattle.exports.proofs.Numbered.{serves-as}
use Rattle.exports.proofs.jesovanga_request.Goals as goal

-- The kind and the number are those of the reply.

pub returns : goal.returns
returns c =
    let masked = c.request-reply.ensures.served_by_masks in
    let said = c.request-reply.ensures.served_by_policy in
    let kind = c.kind_of.ensures in
    let number = c.number_of.ensures in record { serves_by_masks = serves-as c.request-reply.result masked kind number; serves_by_policy = λ a. let (served, agrees) = said a in (serves-as c.request-reply.result served kind number, agrees) }
