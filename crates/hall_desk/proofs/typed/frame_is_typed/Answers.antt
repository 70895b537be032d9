use Rattle.hall_desk.proofs.typed.frame_is_typed.Goals as goal

pub returns : goal.returns
returns c = record { host = c.host.ensures.host; octets = c.octets.ensures.range; image = λ bearer key image is. cc }
