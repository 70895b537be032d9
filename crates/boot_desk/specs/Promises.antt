-- What the desk's answers keep to.
use Rattle.std.specs.Prelude.{◌≡◌, ℕ, List, Some}
use Rattle.hall_types.specs.declared.kinds.{Progress.Progress, Stage.{Stage, TheVariants.{Offered, Started}}}
use Rattle.hall_types.specs.declared.kinds.Progress.TheVariants as report
use Rattle.boot_desk.specs.declared.views.ReportView.{ReportView}

-- a boot that is offered takes every report; one that has started takes a verdict
abbrev pub Takes : Stage → Progress → Type 0
Takes Offered progress = Unit {0}
Takes Started report.Started = ⊥
Takes Started progress = Unit {0}
Takes other progress = ⊥

-- what a report that counts is
pub record CountsFor (r : ReportView) (token : List ℕ) (progress : Progress) : Type 0 where
  pub token_is : r.asked.token ≡ token
  pub current : r.at.machine.boot ≡ Some r.asked.number
  pub takes : Takes r.asked.stage progress
