use Rattle.std.proofs.Common.{◌∙◌, ap, false, refl}
use Rattle.store_group.proofs.GroupLemmas.{committed_by}
use Rattle.store_group.proofs.store.GroupGroupStore.commit.Goals as goal

pub returns : goal.returns
returns g c clean =
    let it = (rw (c.from.ensures, c.replace-writes.ensures.value) at c.apply-2.ensures) clean in (
      it.0,
      committed_by g.S.HallStore c.args.self.now
          (record { alloc = c.args.self.now.alloc; store = c.apply-2.new.self; writes = c.replace-writes.new.dest; is_open = false })
          (ap (λ v. v.items) c.replace-writes.ensures.after ∙ c.new.ensures.items) refl c.apply-2.result it.1,
    )
