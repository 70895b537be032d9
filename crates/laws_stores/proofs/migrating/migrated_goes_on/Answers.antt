use Rattle.laws_stores.{specs.Prelude.{state, carried_over}, proofs.MigratingLemmas.{become, begun, goes_on, left}}
use Rattle.laws_stores.proofs.migrating.migrated_goes_on.Goals as goal

pub returns-clause-goes_on : goal.returns-clause-goes_on
returns-clause-goes_on g c =
    goes_on _ (state g.S.Store c.args.conn).now.trees c.migrate.result c.histories_keep_the_laws.ensures c.migrate.ensures.held c.migrate.ensures.settled

pub returns-clause-stop : goal.returns-clause-stop
returns-clause-stop g c = λ clean admin digest steps h next run spelt over db may.
    left db ((state g.S.Store c.args.conn).may_leave db) next (carried_over admin digest steps)
    (begun c.histories_keep_the_laws.ensures admin digest steps (state g.S.Store c.args.conn).now.trees h next run spelt over)
    (c.migrate.ensures.crash clean next (become c.histories_keep_the_laws.ensures admin digest steps (state g.S.Store c.args.conn).now.trees h next run spelt over) db may)
