use Rattle.std.proofs.Common.{take, ap, sym, ◌∙◌}
use Rattle.store_memory.{specs.Prelude.{applied, version_of}, proofs.VersionLemmas.{applied_last, take_next}}
use Rattle.store_memory.proofs.memory.MemoryStore.version_after_all.Goals as goal

pub writes-preserved : goal.writes-preserved
writes-preserved c = λ h held.
    let i = c.writes.write-index in
    let ws = c.args.writes.now in
    c.version_after-version.ensures (applied (take i ws) h) (c.writes.invariant h held)
    ∙ (ap (λ g. version_of g c.args.id) (sym (applied_last (take i ws) c.write-item.result h))
    ∙ ap (λ xs. version_of (applied xs h) c.args.id) (sym (take_next ws i c.write-item.result c.writes-test.true c.write-item.is)))
