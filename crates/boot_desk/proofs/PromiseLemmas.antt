-- Why the desk's answers keep to what they promise.
use Rattle.std.{proofs.Common.{◌≡◌, ℕ, List, [], ap, ◌∙◌}, specs.Prelude.{Some, Ok, Err}}
use Rattle.hall_types.specs.declared.{change.RowWrite.RowWrite, kinds.{OrderStage.TheVariants.Waiting, Outcome.Outcome, Progress.Progress}, status.Status.TheVariants.{Deployed, ExitingRescue}}
use Rattle.boot_desk.specs.{declared.{fault.Verdict.{Verdict, TheVariants.{Counted, Repeat}}, class.ScriptClass.TheVariants.Local, views.{BootView.BootView, OrderView.OrderView, ReportView.ReportView}}, Class.{class_in, class_of}, DecisionLaws.{answered_cases, reported_cases}, Fetch.{fetched, fetched_by}, OrderAnswer.answered, Promises.CountsFor, Report.{Judged, reported}, Texts.local_script}

-- a script of the class Local
local : (host : List ℕ) (v : BootView) (moment : ℕ) (fresh : List ℕ) → class_of v.machine ≡ Local → fetched host v moment fresh ≡ Ok ([], local_script v.machine.arch)
unfolding fetched
local host v moment fresh is = ap (λ class. fetched_by class host v moment fresh) is

pub deployed : (host : List ℕ) (v : BootView) (moment : ℕ) (fresh : List ℕ) → v.machine.status ≡ Deployed → fetched host v moment fresh ≡ Ok ([], local_script v.machine.arch)
unfolding class_in
deployed host v moment fresh is = local host v moment fresh (ap (λ status. class_in status v.machine.back) is)

pub leaving_rescue : (host : List ℕ) (v : BootView) (moment : ℕ) (fresh : List ℕ) → v.machine.status ≡ ExitingRescue → v.machine.back ≡ Some Deployed
    → fetched host v moment fresh ≡ Ok ([], local_script v.machine.arch)
unfolding class_in
leaving_rescue host v moment fresh is back =
    local host v moment fresh (ap (λ status. class_in status v.machine.back) is ∙ ap (λ back. class_in ExitingRescue back) back)

-- ---- what counts

abbrev verdict_in : Judged → Verdict
verdict_in (Ok decision) = decision.1
verdict_in (Err refusal) = Repeat

repeats : Repeat ≡ Counted → ⊥
repeats is = cc

apart : (rows : List RowWrite) → ◌≡◌ {A = Judged} (Ok ([], Repeat)) (Ok (rows, Counted)) → ⊥
apart rows is = repeats (ap verdict_in is)

pub counted_report : (r : ReportView) (token : List ℕ) (progress : Progress) (moment : ℕ) (rows : List RowWrite)
    → reported (Some r) token progress moment ≡ Ok (rows, Counted) → CountsFor r token progress
counted_report r token progress moment rows =
    reported_cases r token progress moment (λ j. j ≡ Ok (rows, Counted) → CountsFor r token progress) (λ refusal is. cc) (λ is. absurd (apart rows is)) (λ counts is. counts.0)

pub counted_answer : (r : OrderView) (o : Outcome) (moment : ℕ) (rows : List RowWrite)
    → answered (Some r) o moment ≡ Ok (rows, Counted) → r.asked.stage ≡ Waiting
counted_answer r o moment rows =
    answered_cases r o moment (λ j. j ≡ Ok (rows, Counted) → r.asked.stage ≡ Waiting) (λ refusal is. cc) (λ is. absurd (apart rows is)) (λ waits is. waits)
