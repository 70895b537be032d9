use Rattle.hall_sql.proofs.MachineLemmas.{group_is}
use Rattle.hall_sql.proofs.groups.group_in.Goals as goal

pub returns : goal.returns
returns c = group_is c.args.row.now (record { pool = c.in_ok-pool.pool; status = c.in_ok-status.status }) c.in_ok-pool.ensures c.in_ok-status.ensures
