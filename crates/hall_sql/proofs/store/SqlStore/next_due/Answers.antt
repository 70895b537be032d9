use Rattle.sql_schema.specs.Words.{if_due}
use Rattle.std.proofs.Common.{◌≡◌, rules}
use Rattle.hall_sql.{specs.Expiring.earliest_of, proofs.StoreLemmas.{asks, first_known, none_found, none_known}}
use Rattle.hall_sql.proofs.store.SqlStore.next_due.Goals as goal

pub returns-then-get-self : goal.returns-then-get-self
returns-then-get-self g c =
    none_known g.S.Store c.args.self.now c.get.result c.args.moment c.get.ensures.seconds c.if-self.false (λ db live may. g.met.S.Store.settled c.args.self.now.conn.store db live may) c.if-get-self.true

pub returns-in-Ok : goal.returns-in-Ok
returns-in-Ok g c =
    let due : c.and_then.result ≡ if_due c.args.moment c.in-Ok.first = search rules in
    let known : c.map_or-self.result ≡ earliest_of c.in-Ok.first = search rules in
    rw (known, due)
    (first_known g.S.Store c.args.self.now c.pass.new.self c.in-Ok.first c.args.moment c.get.ensures.range
    (asks g.S.Store _ _ _ c.if-self.false c.next_expired-answer.ensures.clean (rw c.last_moment.ensures at c.next_expired-answer.ensures.asked) c.in-Ok.ensures.clean c.in-Ok.ensures.passed c.in-Ok.ensures.settled))

pub returns-in-Err : goal.returns-in-Err
returns-in-Err g c =
    none_found g.S.Store c.args.self.now c.pass.new.self c.in-Err.unavailable c.args.moment _
    (asks g.S.Store _ _ _ c.if-self.false c.next_expired-answer.ensures.clean c.next_expired-answer.ensures.asked c.in-Err.ensures.clean c.in-Err.ensures.passed c.in-Err.ensures.settled)
