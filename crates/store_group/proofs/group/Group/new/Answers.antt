use Rattle.std.proofs.Common.{sym, subst, ap}
use Rattle.hall_types.specs.Hall.{applied}
use Rattle.hall_store.specs.Rules.{AllKeep}
use Rattle.store_group.proofs.group.Group.new.Goals as goal

pub returns-clause-held : goal.returns-clause-held
returns-clause-held g c h held = record {
  from = h;
  held = held;
  keep = subst (λ ws. AllKeep ws h) (sym c.new.ensures.items) tt;
  led = ap (λ ws. applied ws h) (sym c.new.ensures.items);
  alone = λ closed. c.new.ensures.items;
}
