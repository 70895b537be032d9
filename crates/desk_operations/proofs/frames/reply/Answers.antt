use Rattle.desk_operations.proofs.FrameLemmas.{no_frame, no_client, not_served}
use Rattle.std.proofs.Common.{◌∙◌, sym}
use Rattle.desk_operations.proofs.frames.reply.Goals as goal

pub returns-in-Err : goal.returns-in-Err
returns-in-Err c = λ reply is. no_frame _ _ _ _ _ reply c.in-Err.field-0 c.in-Err.ensures.only c.octets.ensures is

pub returns-then-not-is_served : goal.returns-then-not-is_served
returns-then-not-is_served c = λ reply is.
    not_served _ _ _ _ _ reply c.in-Ok.frame c.in-Ok-client.client c.in-Ok.ensures.only c.octets.ensures
    c.in-Ok-client.ensures.only (sym c.is_served.ensures.served ∙ c.if-not-is_served.true) is

pub returns-in_default : goal.returns-in_default
returns-in_default c = λ reply is.
    no_client _ _ _ _ _ reply c.in-Ok.frame c.in-Err-client.cause c.in-Ok.ensures.only c.octets.ensures c.in-Err-client.ensures.only
    c.in_default.not-Memory is
