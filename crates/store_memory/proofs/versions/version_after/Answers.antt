use Rattle.std.proofs.Common.{sym, ap, ◌∙◌}
use Rattle.store_memory.{specs.Prelude.{written, version_of}, proofs.VersionLemmas.{put_here, put_other, gone_here, gone_other}}
use Rattle.store_memory.proofs.versions.version_after.Goals as goal

pub returns-then-eq : goal.returns-then-eq
returns-then-eq c = λ h was. put_here h c.args.id c.in-PutMachine.machine c.in-PutMachine.was (sym c.eq.ensures ∙ c.if-eq.true) ∙ ap (λ w. version_of (written w h) c.args.id) (sym c.in-PutMachine.is)

pub returns-else-eq : goal.returns-else-eq
returns-else-eq c = λ h was. was ∙ (put_other h c.args.id c.in-PutMachine.machine c.in-PutMachine.was (sym c.eq.ensures ∙ c.if-eq.false) ∙ ap (λ w. version_of (written w h) c.args.id) (sym c.in-PutMachine.is))

pub returns-then-eq-2 : goal.returns-then-eq-2
returns-then-eq-2 c = λ h was. gone_here h c.args.id c.in-MachineGone.gone (sym c.eq-in-MachineGone.ensures ∙ c.if-eq-2.true) ∙ ap (λ w. version_of (written w h) c.args.id) (sym c.in-MachineGone.is)

pub returns-else-eq-2 : goal.returns-else-eq-2
returns-else-eq-2 c = λ h was. was ∙ (gone_other h c.args.id c.in-MachineGone.gone (sym c.eq-in-MachineGone.ensures ∙ c.if-eq-2.false) ∙ ap (λ w. version_of (written w h) c.args.id) (sym c.in-MachineGone.is))
