use Rattle.sql_schema.specs.Words.{Held, state, new_hall, second, no_schema}
use Rattle.std.proofs.Common.{◌≡◌, refl, rules, subst, sym}
use Rattle.sql_tables.proofs.{MakingLemmas.spells_new, TransactionLemmas.{made, refused, whole}}
use Rattle.sql_tables.proofs.creating.make_in.Goals as goal

pub returns-clause-made : goal.returns-clause-made
returns-clause-made g c =
    let same : c.end.new.tx.0 ≡ c.conn-1.given.0 = search rules in
    rw (← same) (λ clean blank.
    made g.S.Store c.args.conn.now c.transaction-tx.result.conn.now c.make_hall-done.new.tx.conn.now c.end.new.tx.0 c.make_hall-done.result c.end.result _ c.transaction-tx.ensures.begun
    c.make_hall-done.ensures.made c.make_hall-done.ensures.survives c.end.ensures.ended c.end.ensures.survives clean (new_hall second c.args.admin c.args.digest)
    (λ spells.
    let was = spells (subst (λ (k : Held _). (state g.S.Store k).now.schema ≡ no_schema) (sym c.transaction-tx.ensures.begun) blank) in
    (was.schema, spells_new (new_hall second c.args.admin c.args.digest) refl was)))

pub returns-clause-whole : goal.returns-clause-whole
returns-clause-whole g c =
    let same : c.end.new.tx.0 ≡ c.conn-1.given.0 = search rules in
    rw (← same) (λ clean.
    whole g.S.Store c.args.conn.now c.transaction-tx.result.conn.now c.make_hall-done.new.tx.conn.now c.end.new.tx.0 c.make_hall-done.result c.end.result _ c.transaction-tx.ensures.begun
    c.make_hall-done.ensures.made c.make_hall-done.ensures.survives c.end.ensures.ended c.end.ensures.survives clean)

pub returns-clause-refused : goal.returns-clause-refused
returns-clause-refused g c =
    let same : c.end.new.tx.0 ≡ c.conn-1.given.0 = search rules in
    rw (← same) (λ clean.
    refused g.S.Store c.args.conn.now c.transaction-tx.result.conn.now c.make_hall-done.new.tx.conn.now c.end.new.tx.0 c.make_hall-done.result c.end.result _ c.transaction-tx.ensures.begun
    c.make_hall-done.ensures.made c.make_hall-done.ensures.survives c.end.ensures.ended c.end.ensures.survives clean)
