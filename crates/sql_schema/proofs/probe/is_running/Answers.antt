use Rattle.sql_schema.{specs.{Prelude.state, StatementLaws.not_run_back}, proofs.probe.is_running.Goals.{in-Ok, in-Err}}
use Rattle.std.proofs.Common.{inl, codes}
use Rattle.sql_schema.proofs.probe.is_running.Goals as goal

pub returns-clause-back : goal.returns-clause-back
returns-clause-back g c clean = elim c.match-prepare.branch [
  | in-Ok w ↦ inl (w.in-Ok.ensures.ok clean).1
  | in-Err w ↦ not_run_back (state g.S.Store c.args.conn.now) (state g.S.Store c.prepare.new.self) (codes "SELECT 1") w.in-Err.field-0 (w.in-Err.ensures.err clean)
]
