use Rattle.laws_stores.{specs.Prelude.state, proofs.StopLemmas.opened}
use Rattle.laws_stores.proofs.stops.open_again.Goals as goal

pub returns : goal.returns
returns g c =
    opened _ (state g.S.Store c.args.conn).now.trees c.open.result c.open.ensures.held c.open.ensures.settled
