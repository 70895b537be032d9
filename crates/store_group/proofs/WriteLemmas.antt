-- Row writes in turn.
use Rattle.std.proofs.Common.{◌++◌, List, [], ◌∷◌}
use Rattle.hall_types.specs.{Hall.{Hall, applied, written}, declared.change.RowWrite.RowWrite}
use Rattle.hall_store.specs.{Rules.AllKeep, Versions.{HaveVersions, HasVersion}}

pub versions_last : (ws : List RowWrite) (w : RowWrite) (h : Hall) → HaveVersions ws h → HasVersion w (applied ws h) → HaveVersions (ws ++ w ∷ []) h
versions_last [] w h all last = (last, tt)
versions_last (v ∷ ws) w h all last = (all.0, versions_last ws w (written v h) all.1 last)

-- writes that keep the rules after others keep them with those
pub keep_more : (ws more : List RowWrite) (h : Hall) → AllKeep ws h → AllKeep more (applied ws h) → AllKeep (ws ++ more) h
keep_more [] more h all then = then
keep_more (w ∷ ws) more h all then = (all.0, keep_more ws more (written w h) all.1 then)
