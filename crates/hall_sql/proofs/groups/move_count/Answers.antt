use Rattle.sql_schema.specs.{Words.{bytes_eq-Decides, status_number, same_kind, status_by_number}, StepLaws.{gives, stays, then}}
use Rattle.std.proofs.Common.{◌≡◌, Ok, inl, inr, arith, sym, ap₂, ◌∙◌}
use Rattle.hall_sql.proofs.groups.move_count.Goals as goal

pub returns-then-number-clause-written : goal.returns-then-number-clause-written
returns-then-number-clause-written g c clean =
    let from = c.args.from.now in
    let m = c.args.machine.now in
    let pool : from.pool ≡ m.pool = (bytes_eq-Decides from.pool m.pool).0 (sym c.eq.ensures ∙ c.if-eq.true) in
    let numbers : status_number from.status ≡ status_number m.status = omega (arith, c.number-then-eq.ensures.number, c.number.ensures.number, c.if-number.true) in
    stays _ _ (Ok tt) (λ before rows held. inl (ap₂ (λ a b. record { pool = a; status = b }) pool (same_kind status_by_number from.status m.status numbers), held))

pub returns-clause-written : goal.returns-clause-written
returns-clause-written g c clean =
    gives _ c.count_up.result
    (then c.in_ok-count_down.ensures.written c.count_up.ensures.survives c.count_up.ensures.written clean)
    (λ done both before rows held. inr (both.1 before _ (both.0 before rows held).0 tt))
