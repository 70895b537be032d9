use Rattle.std.proofs.Common.{◌++◌, ◌∙◌, ap, refl, rules}
use Rattle.store_group.specs.Group.{writes_of}
use Rattle.store_group.proofs.{GroupLemmas.passed_on, ReadLemmas.{none_written, written}}
use Rattle.store_group.proofs.store.GroupHallStore.apply.Goals as goal

pub returns-then-not-self : goal.returns-then-not-self
returns-then-not-self g c clean =
    let it = c.apply.ensures clean in
    (it.0, passed_on g.S.HallStore c.args.self.now (record c.args.self.now { store = c.apply.new.self }) (search rules) refl refl c.args.change.now _ it.1)

pub returns-in_err-check_versions : goal.returns-in_err-check_versions
returns-in_err-check_versions g c =
    none_written g.S.HallStore _ c.check_versions.new.self _ (c.check_versions.ensures.opened ∙ (search rules)) refl refl c.args.change.now c.check_versions.result _
    c.check_versions.ensures.checked refl _ c.from_residual.ensures.0

pub returns-in_err-writes : goal.returns-in_err-writes
returns-in_err-writes g c =
    none_written g.S.HallStore _ c.check_versions.new.self _ (c.check_versions.ensures.opened ∙ (search rules)) refl refl c.args.change.now c.check_versions.result _
    c.check_versions.ensures.checked refl _ c.from_residual-in_err-writes.ensures.0

pub returns-in_err-append : goal.returns-in_err-append
returns-in_err-append g c =
    none_written g.S.HallStore _ c.check_versions.new.self _ (c.check_versions.ensures.opened ∙ (search rules)) refl refl c.args.change.now c.check_versions.result _
    c.check_versions.ensures.checked c.in_err-append.ensures.items _ c.from_residual-in_err-append.ensures.0

pub returns : goal.returns
returns g c =
    written g.S.HallStore _ c.check_versions.new.self _ (c.check_versions.ensures.opened ∙ (search rules)) refl refl c.args.change.now _
    (rw c.writes.ensures at (rw c.in_ok-check_versions.was at c.check_versions.ensures.checked))
    (c.in_ok-append.ensures.items ∙ ap (λ xs. writes_of c.check_versions.new.self ++ xs) (c.in_ok-writes.ensures ∙ c.writes-2.ensures)) _
