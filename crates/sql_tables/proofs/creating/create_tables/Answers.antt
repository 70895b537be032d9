use Rattle.sql_schema.specs.Words.{new_hall, second, settles, state}
use Rattle.sql_tables.proofs.TransactionLemmas.{nothing_made, on_ok}
use Rattle.sql_tables.proofs.creating.create_tables.Goals as goal

pub returns-clause-settled : goal.returns-clause-settled
returns-clause-settled g c clean blank =
    on_ok _ _ c.make_in.result (c.make_in.ensures.made clean blank).held (settles (state g.S.Store c.make_in.new.conn) (new_hall second c.args.admin c.args.digest) (λ db live may. g.met.S.Store.settled c.make_in.new.conn.store db live may))

pub returns-then-is_a_name_taken-clause-whole : goal.returns-then-is_a_name_taken-clause-whole
returns-then-is_a_name_taken-clause-whole g c clean = nothing_made (state g.S.Store c.args.conn.now) _

pub returns-then-not-is_autocommit-clause-whole : goal.returns-then-not-is_autocommit-clause-whole
returns-then-not-is_autocommit-clause-whole g c clean = nothing_made (state g.S.Store c.args.conn.now) _
