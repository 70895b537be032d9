-- Lists that are known.
use Rattle.std.specs.Prelude.{◌≡◌, IfSome}
use Rattle.hall_types.specs.{Hall.Hall, Rows.listed}
use Rattle.hall_store.specs.declared.lists.Lists.{Lists}

-- each list that is known is the hall's
pub record AreListsOf (h : Hall) (lists : Lists) : Type 0 where
  pub machines : IfSome lists.machines (λ machines. machines.items ≡ listed h.machines)
  pub interfaces : IfSome lists.interfaces (λ interfaces. interfaces.items ≡ listed h.interfaces)
