use Rattle.sql_schema.specs.{Words.{Error, state, HasCleanDisk, Survives, Machine, machine_values, HallRows, Spells}, Steps.IsStep}
use Rattle.std.proofs.Common.{◌≡◌, List, drop, map, Ok}
use Rattle.sql_tables.{specs.Migrating.with_kinds_of, proofs.CarryingLemmas.AreLeft}
use Rattle.sql_tables.proofs.migrating.put_kinds.Given as goal

-- the machines so far have their rows
abbrev pub invariant-rows : goal.invariant-rows
invariant-rows g l = record {
  same : l.tx.conn.ghost_name ≡ l.initial.tx.conn.ghost_name;
  made : HasCleanDisk (state g.S.Store l.tx.conn.now) → IsStep (state g.S.Store l.initial.tx.conn.now) (state g.S.Store l.tx.conn.now) {Y = Unit {0}} {E = Error} (Ok tt)
      (λ _. (c : HallRows) (ms : List Machine) → l.rows.items ≡ map machine_values ms → Spells (state g.S.Store l.initial.tx.conn.now).now c → AreLeft (drop l.row-index l.rows.items) (state g.S.Store l.tx.conn.now).now (with_kinds_of c ms));
  survives : Survives (state g.S.Store l.initial.tx.conn.now) (state g.S.Store l.tx.conn.now) (λ _. ⊥);
}
