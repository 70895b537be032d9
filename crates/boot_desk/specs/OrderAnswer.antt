-- What becomes of the power program's answer to an order.
use Rattle.std.specs.Prelude.{ℕ, [], ◌∷◌, Option, Some, None, Ok, Err}
use Rattle.hall_types.specs.{Number.next_version, declared.{kinds.{Outcome.Outcome, OrderStage.OrderStage}, machine.Machine.Machine, change.RowWrite.{RowWrite, TheVariants.PutOrder}, refusal.Refusal.TheVariants.{NoOrder, Spent, Withdrawn}}}
use Rattle.hall_types.specs.declared.kinds.Outcome.TheVariants as outcome
use Rattle.hall_types.specs.declared.kinds.OrderStage.TheVariants as stage
use Rattle.life_cycle.specs.{Table.step_of, Entering.entered, declared.{step.Step.Step, signal.Signal.TheVariants.Answer}}
use Rattle.boot_desk.specs.{declared.{fault.Verdict.TheVariants.{Counted, Repeat}, views.{BootView.BootView, OrderView.OrderView}}, Following.{machine_row, with_entry, answering}, Report.Judged}

abbrev pub stage_for : Outcome → OrderStage
stage_for outcome.Done = stage.Done
stage_for outcome.Failed = stage.Failed

-- the machine waits for no order any more
abbrev pub idle : Machine → Machine
idle m = record m { waiting = None; version = next_version m.version }

-- The machine takes the step that the table has for the outcome. An order that was answered isn't withdrawn.
abbrev pub answered_with : RowWrite → BootView → ℕ → Option Step → Judged
answered_with write v moment None = Ok (write ∷ machine_row v.machine (idle v.machine) ∷ [], Counted)
answered_with write v moment (Some step) =
    answering Counted (with_entry (write ∷ []) v.machine None (entered v.machine step moment v.numbers))

-- an order that waits takes the outcome; one that has an outcome has it for good
abbrev pub answered_as : OrderStage → OrderView → Outcome → ℕ → Judged
answered_as stage.Waiting r answer moment =
    answered_with (PutOrder (record r.asked { stage = stage_for answer })) r.at moment (step_of r.at.machine (Answer answer))
answered_as stage.Done r outcome.Done moment = Ok ([], Repeat)
answered_as stage.Done r outcome.Failed moment = Err Spent
answered_as stage.Failed r outcome.Done moment = Err Spent
answered_as stage.Failed r outcome.Failed moment = Ok ([], Repeat)
answered_as stage.Withdrawn r answer moment = Err Withdrawn

-- what becomes of an answer at this moment
unfoldable pub answered : Option OrderView → Outcome → ℕ → Judged
answered None answer moment = Err NoOrder
answered (Some r) answer moment = answered_as r.asked.stage r answer moment
