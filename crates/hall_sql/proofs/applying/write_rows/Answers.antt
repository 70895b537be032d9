use Rattle.sql_schema.specs.Words.{state, HasCleanDisk, drop_all, next_item}
use Rattle.std.{specs.Prelude.IsErr, proofs.Common.{◌≡◌, refl, ◌∙◌, rules, arith, subst}}
use Rattle.hall_sql.{specs.Applying.IsTold, proofs.ApplyingLemmas.{begins, steps, refused, commits}}
use Rattle.hall_sql.proofs.applying.write_rows.Goals as goal

pub writes-init : goal.writes-init
writes-init g c = (refl, begins g.S.Store c.args.conn.now c.transaction-tx.result.conn.now c.args.writes.now c.transaction-tx.ensures.begun)

pub writes-preserved : goal.writes-preserved
writes-preserved g c = (
  c.write_row.ensures.same_reference ∙ c.writes.invariant.0,
  steps _ c.write-item.result _ c.args.writes.now
      (rw (next_item c.args.writes.now c.writes.write-index c.write-item.result c.writes-test.true c.write-item.is) at c.writes.invariant.1)
      c.write_row.ensures.survives c.in_ok-write_row.ensures.written,
)

pub returns-in_err-write_row-clause-told : goal.returns-in_err-write_row-clause-told
returns-in_err-write_row-clause-told g c =
    let same : c.drop-tx.new.self.0 ≡ c.conn-1.given.0 = search rules in
    let bad : IsErr c.from_residual.result = search rules in
    subst (λ t. HasCleanDisk (state g.S.Store t) → IsTold (state g.S.Store c.args.conn.now) (state g.S.Store t) c.from_residual.result c.args.writes.now) same
    (λ clean. refused c.from_residual.result _ c.args.writes.now bad c.writes.invariant.1 c.write_row.ensures.survives (λ clean. (c.write_row.ensures.written clean).kept) c.drop-tx.ensures.survives clean c.drop-tx.ensures.undone)

pub returns-clause-told : goal.returns-clause-told
returns-clause-told g c =
    let same : c.commit.new.self.0 ≡ c.conn-2-1.given.0 = search rules in
    let going = rw (drop_all c.writes.write-index c.args.writes.now (omega (arith, c.writes-test.false))) at c.writes.invariant.1 in
    subst (λ t. HasCleanDisk (state g.S.Store t) → IsTold (state g.S.Store c.args.conn.now) (state g.S.Store t) c.commit.result c.args.writes.now) same
    (λ clean. commits _ _ _ c.args.writes.now going c.commit.ensures.survives clean c.commit.result (c.commit.ensures.ok clean) (c.commit.ensures.err clean))
