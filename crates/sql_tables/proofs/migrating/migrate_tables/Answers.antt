use Rattle.sql_schema.specs.Words.{state, IsHeld, Leaves, settles}
use Rattle.std.proofs.Common.{[], ◌∷◌}
use Rattle.sql_tables.{specs.{Migrating.BecomeHall, OpeningLaws.no_hall_to_migrate}, proofs.{MigratingLemmas.{on_each, refused_alone}, TransactionLemmas.on_ok}}
use Rattle.sql_tables.proofs.migrating.migrate_tables.Goals as goal

pub returns-clause-held : goal.returns-clause-held
returns-clause-held g c clean = on_each (BecomeHall (state g.S.Store c.args.conn.now).now.trees) (IsHeld (state g.S.Store c.migrate.new.conn)) c.migrate.result (λ h become. (c.migrate.ensures.made clean h become).held)

pub returns-clause-settled : goal.returns-clause-settled
returns-clause-settled g c clean =
    on_each (BecomeHall (state g.S.Store c.args.conn.now).now.trees) (λ h. Leaves (state g.S.Store c.migrate.new.conn) (h ∷ [])) c.migrate.result
    (λ h become. on_ok _ _ c.migrate.result (c.migrate.ensures.made clean h become).held (settles (state g.S.Store c.migrate.new.conn) h (λ db live may. g.met.S.Store.settled c.migrate.new.conn.store db live may)))

pub returns-clause-refused : goal.returns-clause-refused
returns-clause-refused g c clean here h become = refused_alone (state g.S.Store c.args.conn.now) h c.migrate.result c.migrate.ensures.live here become (c.migrate.ensures.answered clean)

pub returns-clause-no_hall : goal.returns-clause-no_hall
returns-clause-no_hall g c clean none = no_hall_to_migrate (state g.S.Store c.args.conn.now).now c.migrate.result (c.migrate.ensures.answered clean) none
