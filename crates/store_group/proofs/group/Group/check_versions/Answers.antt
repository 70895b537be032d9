use Rattle.std.proofs.{Common.{◌∙◌, ◌+◌, ◌++◌, ◌∷◌, [], Ok, ap, sym, subst, take}, lemmas.List.{take_all, take_more}}
use Rattle.hall_types.specs.Hall.{applied}
use Rattle.hall_store.specs.{Versions.{HasVersion, HaveVersions}, declared.store.Unavailable.Unavailable}
use Rattle.store_group.specs.Group.{GroupLooks}
use Rattle.store_group.proofs.{ReadLemmas.{fails_too, look_then}, WriteLemmas.versions_last}
use Rattle.store_group.proofs.group.Group.check_versions.Goals as goal

pub returns-in_err-check_version-clause-checked : goal.returns-in_err-check_version-clause-checked
returns-in_err-check_version-clause-checked g c =
    fails_too g.S.HallStore _ _ c.check_version.result _
    (look_then g.S.HallStore _ _ _ {E = Unavailable} (tt {0}) _ _ (λ h z. Unit {0}) _ c.writes.invariant.0 c.check_version.ensures.checked (λ h z one two. tt))
    _ _ c.from_residual.ensures.0

pub returns-in_err-check_version-clause-writes : goal.returns-in_err-check_version-clause-writes
returns-in_err-check_version-clause-writes g c = c.check_version.ensures.writes ∙ c.writes.invariant.1

pub writes-preserved : goal.writes-preserved
writes-preserved g c =
    let i = c.writes.i in
    let ws = c.args.writes.now in
    let item = c.index-writes-i.result in (
      look_then g.S.HallStore _ _ _ {E = Unavailable} (tt {0}) _ (λ h z. HasVersion item (applied (take i ws) h)) (λ h z. HaveVersions (take (i + 1) ws) h) (Ok (tt {0}))
          c.writes.invariant.0 (rw c.in_ok-check_version.was at c.check_version.ensures.checked)
          (λ h z one two. subst (λ xs. HaveVersions xs h) (sym (take_more ws i item c.writes-test.true ∙ ap (λ x. take i ws ++ x ∷ []) (sym c.index-writes-i.is))) (versions_last (take i ws) item h one two)),
      c.check_version.ensures.writes ∙ c.writes.invariant.1,
      c.check_version.ensures.opened ∙ c.writes.invariant.2,
    )

pub returns-clause-checked : goal.returns-clause-checked
returns-clause-checked g c =
    let ws = c.args.writes.now in
    subst (λ xs. GroupLooks g.S.HallStore c.args.self.now c.writes.self {E = Unavailable} (Ok (tt {0})) (λ h answer. HaveVersions xs h))
    (take_all c.writes.i ws c.writes-test.false) c.writes.invariant.0

pub returns-in_err-check_version-clause-opened : goal.returns-in_err-check_version-clause-opened
returns-in_err-check_version-clause-opened g c = c.check_version.ensures.opened ∙ c.writes.invariant.2
