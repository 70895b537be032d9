use Rattle.std.proofs.Common.{refl}
use Rattle.hall_types.{specs.{Hall.pair, Kinds.arch_number}, proofs.WriteLemmas.{is_gone, is_put}}
use Rattle.hall_types.proofs.laws.writes_leave_other_rows.Goals as goal

pub returns : goal.returns
returns c = record {
  operators = λ o h. is_put h.operators o.name o;
  pools = λ p h. is_put h.pools p.name p;
  members = λ m h. is_put h.members (pair m.pool m.operator) m;
  images = λ i h. is_put h.images i.name i;
  images_gone = λ name h. is_gone h.images name;
  lives = λ l h. is_put h.lives (arch_number l.arch) l;
  machines = λ m was h. is_put h.machines m.id m;
  interfaces = λ i h. is_put h.interfaces i.mac i;
  interfaces_gone = λ mac h. is_gone h.interfaces mac;
  boots = λ b h. is_put h.boots b.number b;
  orders = λ o h. is_put h.orders o.number o;
  receipts = λ r h. is_put h.receipts (pair r.operator r.key) r;
  numbers = λ n h. refl;
}
