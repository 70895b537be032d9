use Rattle.sql_schema.specs.{Words.{state, HasCleanDisk, Survives}, Steps.IsStep}
use Rattle.std.proofs.Common.{◌≡◌, drop, map, Ok, ◌↔◌}
use Rattle.sql_tables.specs.{declared.fault.OpenFault.OpenFault, Opening.AreUnderstood}
use Rattle.sql_tables.proofs.looking.understands.Given as goal

-- all texts are understood if those that are left are
abbrev pub invariant-loop-text : goal.invariant-loop-text
invariant-loop-text g l = record {
  same : l.tx.conn.ghost_name ≡ l.initial.tx.conn.ghost_name;
  step : HasCleanDisk (state g.S.Store l.tx.conn.now) → IsStep (state g.S.Store l.initial.tx.conn.now) (state g.S.Store l.tx.conn.now) {Y = Unit {0}} {E = OpenFault} (Ok tt) (λ _. (state g.S.Store l.tx.conn.now).now ≡ (state g.S.Store l.initial.tx.conn.now).now);
  found : HasCleanDisk (state g.S.Store l.tx.conn.now) → AreUnderstood (state g.S.Store l.initial.tx.conn.now).now.schema (map (λ text. text.now) l.texts) ↔ AreUnderstood (state g.S.Store l.initial.tx.conn.now).now.schema (map (λ text. text.now) (drop l.text-index l.texts));
  survives : Survives (state g.S.Store l.initial.tx.conn.now) (state g.S.Store l.tx.conn.now) (λ _. ⊥);
}
