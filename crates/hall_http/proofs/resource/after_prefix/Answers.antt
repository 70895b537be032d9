use Rattle.hall_http.proofs.RouteLemmas.{stripped}
use Rattle.hall_http.proofs.resource.after_prefix.Goals as goal

pub returns : goal.returns
returns c = stripped c.args.target.now c.args.prefix.now c.strip_prefix.result c.strip_prefix.ensures.cases
