use Rattle.std.proofs.Common.{Ok, subst, sym}
use Rattle.serve_sockets.{specs.Prelude.IsEvent, proofs.ListingLemmas.asks_by}
use Rattle.serve_sockets.proofs.listing.bearer_of_list.Goals as goal

pub returns-in-Ok : goal.returns-in-Ok
returns-in-Ok c =
    asks_by c.args.request.now c.event.result.now c.list_bearer-bearer.result
    (subst (λ it. IsEvent c.args.request.now (Ok it)) (sym c.event.ensures) c.in-Ok.ensures) c.list_bearer-bearer.ensures
