use Rattle.sql_schema.specs.Words.{state}
use Rattle.std.proofs.Common.{◌≡◌, drop}
use Rattle.hall_sql.proofs.ApplyingLemmas.{Going}
use Rattle.hall_sql.proofs.applying.write_rows.Given as goal

-- the rows so far were written in the transaction that was begun
abbrev pub invariant-writes : goal.invariant-writes
invariant-writes g l =
    (l.tx.conn.ghost_name ≡ l.initial.tx.conn.ghost_name) × Going (state g.S.Store l.fn.conn) (state g.S.Store l.tx.conn.now) (drop l.write-index l.writes) l.writes
