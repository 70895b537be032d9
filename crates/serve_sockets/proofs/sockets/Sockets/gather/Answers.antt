use Rattle.std.proofs.Common.{refl}
use Rattle.serve_sockets.proofs.{GatheringLemmas.none_gathered, OwnLemmas.{part_same, part_then}}
use Rattle.serve_sockets.proofs.sockets.Sockets.gather.Goals as goal

pub few-init : goal.few-init
few-init g c = record {
  gathered = none_gathered g.C.Source.may_give c.args.source.now _ _ c.in_ok-gathered.ensures.arrivals c.in_ok-gathered.ensures.clients;
  part = part_same _ _ refl;
  room = c.in_ok-gathered.ensures.room;
  seats = c.in_ok-gathered.ensures.places;
}

pub few-preserved : goal.few-preserved
few-preserved g c =
    let before = c.few.invariant in
    record {
      gathered = c.gather_next.ensures.gathered _ _ _ before.part before.gathered;
      part = part_then _ _ _ before.part c.gather_next.ensures.part;
      room = rw c.gather_next.ensures.room before.room;
      seats = rw c.gather_next.ensures.seats before.seats;
    }

pub returns-in_err-gathered-clause-part : goal.returns-in_err-gathered-clause-part
returns-in_err-gathered-clause-part g c = part_same _ _ refl
