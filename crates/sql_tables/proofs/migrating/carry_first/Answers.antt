use Rattle.sql_schema.specs.Words.{Held, is_used, state}
use Rattle.std.proofs.Common.{◌≡◌, ◌∙◌, ap, IsTrue, codes, false, rules, subst, sym}
use Rattle.sql_tables.{specs.{Indexes.{all_indexes, indexes_of}, Migrating.IsFirst}, proofs.{CarriedLemmas.spells_carried, MigratingLemmas.first_indexed, TransactionLemmas.{made, refused, whatever}}}
use Rattle.sql_tables.proofs.migrating.carry_first.Goals as goal

pub returns-clause-made : goal.returns-clause-made
returns-clause-made g c =
    let same : c.end.new.tx.0 ≡ c.conn-1.given.0 = search rules in
    rw (← same) (λ clean h next first over.
    made g.S.Store c.args.conn.now c.transaction-tx.result.conn.now c.carry_over-done.new.tx.conn.now c.end.new.tx.0 c.carry_over-done.result c.end.result _ c.transaction-tx.ensures.begun
    c.carry_over-done.ensures.made c.carry_over-done.ensures.survives c.end.ensures.ended c.end.ensures.survives clean next
    (λ spells.
    let every : c.of-there.result ≡ all_indexes = c.of-there.ensures ∙ ap indexes_of c.schema-2.ensures.value ∙ ap indexes_of first.schema ∙ first_indexed in
    let was = spells h every (subst (λ (k : Held _). IsFirst (state g.S.Store k).now h) (sym c.transaction-tx.ensures.begun) first) in
    (was.schema, spells_carried (state g.S.Store c.carry_over-done.new.tx.conn.now).now h next first.spelt.rows.kinds over was)))

pub returns-clause-refused : goal.returns-clause-refused
returns-clause-refused g c =
    let auto : IsTrue c.is_autocommit.result = search rules in
    let same : c.end.new.tx.0 ≡ c.conn-1.given.0 = search rules in
    rw (← same) (λ clean.
    refused g.S.Store c.args.conn.now c.transaction-tx.result.conn.now c.carry_over-done.new.tx.conn.now c.end.new.tx.0 c.carry_over-done.result c.end.result _ c.transaction-tx.ensures.begun
    c.carry_over-done.ensures.made c.carry_over-done.ensures.survives c.end.ensures.ended c.end.ensures.survives clean (c.is_autocommit.ensures.settled auto))

pub returns-clause-free : goal.returns-clause-free
returns-clause-free g c =
    let free : is_used (state g.S.Store c.args.conn.now).now.schema (codes "wipes") ≡ false = search rules in whatever c.end.result free
