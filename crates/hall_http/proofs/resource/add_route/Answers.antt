use Rattle.hall_http.proofs.RouteLemmas.{route_inserted}
use Rattle.hall_http.proofs.resource.add_route.Goals as goal

pub returns : goal.returns
returns c = route_inserted _ _ _ _ _ c.insert.ensures
