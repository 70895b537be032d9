use Rattle.sql_schema.specs.Words.{state, if_ok, asked_then, asked_failed}
use Rattle.std.proofs.Common.{Ok, Err, sym, ◌∙◌}
use Rattle.sql_items.proofs.CountLemmas.{Lists, lists_counts, are_counts}
use Rattle.sql_items.proofs.counts.list_counts.Goals as goal

pub returns-in-Ok-clause-asked : goal.returns-in-Ok-clause-asked
returns-in-Ok-clause-asked g c clean =
    asked_then _ _ Lists _ c.in-Ok.rows.items c.counts_in.result
    (lists_counts (state g.S.Store c.args.conn.now) (state g.S.Store c.query_all.new.self) clean c.in-Ok.ensures.survives (Ok c.in-Ok.rows.items) (c.in-Ok.ensures.ok clean) tt)
    (if_ok _ _ c.counts_in.result c.counts_in.ensures (λ counts read h is. are_counts h c.in-Ok.rows.items is counts.items (sym c.deref.ensures.value ∙ read)))

pub returns-in-Err-clause-asked : goal.returns-in-Err-clause-asked
returns-in-Err-clause-asked g c clean =
    asked_failed _ _ Lists _ c.in-Err.error (lists_counts (state g.S.Store c.args.conn.now) (state g.S.Store c.query_all.new.self) clean c.in-Err.ensures.survives (Err c.in-Err.error) tt (c.in-Err.ensures.err clean))
