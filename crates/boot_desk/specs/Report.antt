-- What becomes of a report of a boot.
use Rattle.std.specs.{Prelude.{ℕ, ◌==◌, Bool, true, false, List, [], ◌∷◌, Option, Some, None, Result, Ok, Err, if◌then◌else◌}, Str.bytes_eq}
use Rattle.hall_types.specs.{Kinds.stage_after, declared.{kinds.{Progress.Progress, Purpose.Purpose, Stage.{Stage, TheVariants.{Offered, Started, Done, Failed}}}, status.Status.{Status, TheVariants.Rescue}, change.RowWrite.{RowWrite, TheVariants.PutBoot}, refusal.Refusal.{Refusal, TheVariants.{NoBoot, Spent, Stale, WrongStage}}}}
use Rattle.hall_types.specs.declared.kinds.Progress.TheVariants as report
use Rattle.hall_types.specs.declared.kinds.Purpose.TheVariants as purpose
use Rattle.life_cycle.specs.{Table.step_of, declared.signal.Signal.TheVariants.Report}
use Rattle.boot_desk.specs.{declared.{fault.Verdict.{Verdict, TheVariants.{Counted, Repeat}}, reporting.Standing.{Standing, TheVariants.{Repeated, Contradicted, News}}, views.ReportView.ReportView}, Following.{followed, answering}}

-- the rows to write and what is answered, or a refusal
abbrev pub Judged : Type 0
Judged = Result (List RowWrite × Verdict) Refusal

-- what a report is to a boot of a stage; once there is a verdict, the boot has started too
abbrev pub standing_of : Stage → Progress → Standing
standing_of Offered progress = News
standing_of Started report.Started = Repeated
standing_of Started progress = News
standing_of Done report.Failed = Contradicted
standing_of Done progress = Repeated
standing_of Failed report.Done = Contradicted
standing_of Failed progress = Repeated

abbrev pub is_current : Option ℕ → ℕ → Bool
is_current None number = false
is_current (Some current) number = current == number

-- a rescue is never reported done
abbrev pub is_rescue_boot : Purpose → Bool
is_rescue_boot purpose.Rescue = true
is_rescue_boot other = false

-- and it can't fail once the machine is in Rescue mode
abbrev pub fails_too_late : Status → Bool
fails_too_late Rescue = true
fails_too_late other = false

abbrev pub is_wrong_stage : Progress → Purpose → Status → Bool
is_wrong_stage report.Started purpose status = false
is_wrong_stage report.Done purpose status = is_rescue_boot purpose
is_wrong_stage report.Failed purpose status = fails_too_late status

-- the boot takes the stage, and the machine takes the step that the table has for it
abbrev pub counted : ReportView → Progress → ℕ → Judged
counted r progress moment =
    answering Counted (
    followed (PutBoot (record r.asked { stage = stage_after progress }) ∷ []) r.at moment (step_of r.at.machine (Report progress))
    )

abbrev pub judged : Standing → ReportView → Progress → ℕ → Judged
judged Repeated r progress moment = Ok ([], Repeat)
judged Contradicted r progress moment = Err Spent
judged News r progress moment =
    if is_current r.at.machine.boot r.asked.number then
    (if is_wrong_stage progress r.asked.purpose r.at.machine.status then Err WrongStage else counted r progress moment)
    else Err Stale

-- what becomes of a report with this token, at this moment
unfoldable pub reported : Option ReportView → List ℕ → Progress → ℕ → Judged
reported None token progress moment = Err NoBoot
reported (Some r) token progress moment =
    if bytes_eq r.asked.token token then judged (standing_of r.asked.stage progress) r progress moment else Err NoBoot
