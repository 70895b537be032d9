use Rattle.std.proofs.Common.{sym, ◌∙◌}
use Rattle.hall_store.proofs.KeepingLemmas.{still_known}
use Rattle.hall_store.proofs.known.Known.follow.Goals as goal

pub returns-else-changes_interfaces-clause-after : goal.returns-else-changes_interfaces-clause-after
returns-else-changes_interfaces-clause-after c h are =
    still_known c.args.change.now h c.args.self.now.slots.items (sym c.changes_interfaces.ensures ∙ c.if-changes_interfaces.false) are
