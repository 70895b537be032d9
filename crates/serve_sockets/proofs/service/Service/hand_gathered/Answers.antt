use Rattle.std.proofs.Common.{◌∙◌}
use Rattle.serve_sockets.{specs.{Service.{connections_of, desk_of}, Sockets.{alone_in, slots_in}}, proofs.GatheringLemmas.{are_requests, group_given, group_separated}}
use Rattle.serve_sockets.proofs.service.Service.hand_gathered.Goals as goal

pub hand_group-requires-clause-requests : goal.hand_group-requires-clause-requests
hand_group-requires-clause-requests g c = rw c.as_slice.ensures.value (are_requests _ _ c.requires.paired)

pub returns-in-Ok-clause-handed : goal.returns-in-Ok-clause-handed
returns-in-Ok-clause-handed g c =
    group_given g.S.HallStore (desk_of c.args.self.now) c.hand_group.new.self.desk _ c.args.gathered _ _ _ c.give_first.ensures.desk _ c.as_slice.ensures.value
    c.in-Ok.answered.answers.items c.in-Ok.ensures.few c.in-Ok.ensures.some c.in-Ok.ensures.answered c.give_first.ensures.given c.give_first.ensures.others

pub returns-in-Err-clause-handed : goal.returns-in-Err-clause-handed
returns-in-Err-clause-handed g c =
    group_separated g.S.HallStore (desk_of c.args.self.now) c.hand_group.new.self.desk _ c.args.gathered (connections_of c.args.self.now) (slots_in c.separate.new.self)
    (alone_in c.separate.new.self) c.put_all_back.ensures.desk _ c.as_slice.ensures.value c.in-Err.field-0 c.in-Err.ensures.count c.in-Err.ensures.refused
    (rw c.separate.ensures.slots c.put_all_back.ensures.back) (rw c.separate.ensures.slots c.put_all_back.ensures.others)
    (c.separate.ensures.alone ∙ (c.len-count.ensures ∙ c.args.gathered.clients.ok.0))
