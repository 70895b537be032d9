use Rattle.std.proofs.Common.{◌∙◌, ap, rules}
use Rattle.serve_sockets.{specs.Yielding.{crowd_by, crowd_in}, proofs.YieldingLemmas.crowd_found}
use Rattle.serve_sockets.proofs.yielding.crowd_at.Goals as goal

pub returns-in-Some : goal.returns-in-Some
returns-in-Some g c =
    crowd_found c.args.slots.now c.args.crowds.now c.bucket_in.result c.map_or.result _ c.requires c.bucket_in.ensures.within c.map_or.ensures (λ bucket below post. search rules)
    ∙ ap (crowd_by c.args.slots.now) c.bucket_in.ensures.bucket ∙ ap (crowd_in c.args.slots.now) c.in-Some.ensures

pub returns-in-None : goal.returns-in-None
returns-in-None g c = ap (crowd_in c.args.slots.now) c.in-None.ensures
