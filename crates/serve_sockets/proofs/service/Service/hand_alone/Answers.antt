use Rattle.std.proofs.Common.{inl, inr, refl}
use Rattle.serve_sockets.proofs.{OwnLemmas.{freed_part, part_answers, put_answered, put_there}}
use Rattle.serve_sockets.proofs.service.Service.hand_alone.Goals as goal

pub returns-in_default-clause-handed : goal.returns-in_default-clause-handed
returns-in_default-clause-handed g c = λ clean. inl (refl, part_answers _ _ (freed_part _ _ c.in_default.ensures.none))

pub returns-clause-handed : goal.returns-clause-handed
returns-clause-handed g c = λ clean.
    let it = c.hand_request-handover.ensures.waits clean in
    let out = c.in-Some.ensures.out in
    inr (record {
      client = c.in-Some.client;
      was = out.0;
      said = it.said;
      answered = it.answered;
      given = record {
        connection = c.hand_request-handover.new.connection;
        held = put_there _ _ _ _ _ _ out c.settle-turn.ensures.put;
        by = (c.hand_request-handover.ensures.same, it.waits);
      };
      own = put_answered _ _ _ _ _ _ out _ it.said it.waits c.settle-turn.ensures.put;
    })
