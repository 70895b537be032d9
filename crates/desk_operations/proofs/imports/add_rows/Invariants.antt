use Rattle.std.proofs.Common.{◌≡◌, take}
use Rattle.desk_operations.specs.{Prelude.{Hall, IsSound, site_of, store_of}, Import.{GoOn, GoOnBy, IsImported, SettlesByAll}, declared.imports.Imported.TheVariants.{All}}
use Rattle.desk_operations.proofs.imports.add_rows.Given as goal

-- the rows so far are imported
abbrev pub invariant-loop-place : goal.invariant-loop-place
invariant-loop-place g l = record {
  clean : g.S.HallStore.is_clean (store_of l.desk) → g.S.HallStore.is_clean (store_of l.fn.desk);
  site : site_of l.desk ≡ site_of l.fn.desk;
  history : g.S.HallStore.is_clean (store_of l.desk) → GoOn g.S.HallStore (store_of l.fn.desk) (store_of l.desk) (site_of l.fn.desk) l.bearer l.moment;
  in_turn : g.S.HallStore.is_clean (store_of l.desk) → GoOnBy g.S.HallStore (store_of l.fn.desk) (store_of l.desk) (site_of l.fn.desk) l.bearer l.moment (take l.place l.rows);
  settled : g.S.HallStore.is_clean (store_of l.desk) → l.end ≡ All → SettlesByAll g.S.HallStore (store_of l.fn.desk) (store_of l.desk) (site_of l.fn.desk) l.bearer l.moment (take l.place l.rows);
  imported : g.S.HallStore.is_clean (store_of l.desk) → (h : Hall) → g.S.HallStore.holds (store_of l.fn.desk) h → IsSound h
      → IsImported g.S.HallStore (store_of l.desk) (site_of l.fn.desk) l.bearer l.moment h (take l.place l.rows) l.end (g.W.Write.contents l.fn.writer) (g.W.Write.contents l.writer);
}
