use Rattle.sql_schema.specs.{Words.{Error, state, Schema, HasCleanDisk, Survives}, Steps.IsStep}
use Rattle.std.proofs.Common.{◌≡◌, drop, map, Ok}
use Rattle.sql_tables.specs.Creating.{CanMake}
use Rattle.sql_tables.proofs.making.make_all.Given as goal

-- what all texts can make of the tables at first, those that are left can make of them now
abbrev pub invariant-loop-text : goal.invariant-loop-text
invariant-loop-text g l = record {
  same : l.tx.conn.ghost_name ≡ l.initial.tx.conn.ghost_name;
  made : HasCleanDisk (state g.S.Store l.tx.conn.now) → IsStep (state g.S.Store l.initial.tx.conn.now) (state g.S.Store l.tx.conn.now) {Y = Unit {0}} {E = Error} (Ok tt)
      (λ _. (after : Schema) → CanMake (state g.S.Store l.initial.tx.conn.now).now (map (λ text. text.now) l.texts) after → CanMake (state g.S.Store l.tx.conn.now).now (map (λ text. text.now) (drop l.text-index l.texts)) after);
  survives : Survives (state g.S.Store l.initial.tx.conn.now) (state g.S.Store l.tx.conn.now) (λ _. ⊥);
}
