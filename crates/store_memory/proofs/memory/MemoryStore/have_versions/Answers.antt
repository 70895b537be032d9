use Rattle.std.proofs.Common.{◌+◌, take, drop, sym, subst, ◌∙◌}
use Rattle.store_memory.{specs.Prelude.HaveVersions, proofs.VersionLemmas.{split_here, take_next, versions_in, versions_last}}
use Rattle.store_memory.proofs.memory.MemoryStore.have_versions.Goals as goal

pub returns-then-not-has_version-clause-only : goal.returns-then-not-has_version-clause-only
returns-then-not-has_version-clause-only c = λ h held all.
    let i = c.writes.i in
    let ws = c.args.writes.now in
    let item = c.index-writes-i.result in
    let has = versions_in (take i ws) item (drop (i + 1) ws) h
    (subst (λ xs. HaveVersions xs h) (split_here ws i item c.writes-test.true c.index-writes-i.is) all) in
    sym c.if-not-has_version.true ∙ c.has_version.ensures.only h held has

pub writes-preserved : goal.writes-preserved
writes-preserved c = λ h held.
    let i = c.writes.i in
    let ws = c.args.writes.now in
    let item = c.index-writes-i.result in
    let has = c.has_version.ensures.has h held c.if-not-has_version.false in
    subst (λ xs. HaveVersions xs h) (sym (take_next ws i item c.writes-test.true c.index-writes-i.is))
    (versions_last (take i ws) item h (c.writes.invariant h held) has)
