-- The rows that a machine's entry into a status writes.
use Rattle.std.specs.Prelude.{ℕ, List, [], ◌∷◌, ◌++◌, Option, Some, None, Result, Ok, Err}
use Rattle.hall_types.specs.declared.{order.Order.Order, kinds.OrderStage.TheVariants.Withdrawn, machine.Machine.Machine, number.Numbers.Numbers, change.RowWrite.{RowWrite, TheVariants.{PutMachine, PutOrder, PutNumbers}}, refusal.Refusal.{Refusal, TheVariants.Exhausted}}
use Rattle.life_cycle.specs.{declared.{step.Step.Step, entering.Entered.Entered}, Entering.entered}
use Rattle.boot_desk.specs.declared.views.BootView.{BootView}

-- a machine's row in the place of the one that it had
abbrev pub machine_row : Machine → Machine → RowWrite
machine_row before after = PutMachine after (Some before.version)

-- the order that waited is withdrawn
abbrev pub withdrawn_row : Option Order → List RowWrite
withdrawn_row None = []
withdrawn_row (Some o) = PutOrder (record o { stage = Withdrawn }) ∷ []

-- an order that is queued is the last one issued
abbrev pub queued_rows : Option Order → Numbers → List RowWrite
queued_rows None numbers = []
queued_rows (Some o) numbers = PutOrder o ∷ PutNumbers numbers ∷ []

-- the machine, the order that waited, the order that is queued
abbrev pub entry_rows : Machine → Option Order → Entered → List RowWrite
entry_rows before waiting e =
    machine_row before e.machine ∷ withdrawn_row waiting ++ queued_rows e.order e.numbers

-- the rows of an entry after some others, or Exhausted
abbrev pub with_entry : List RowWrite → Machine → Option Order → Option Entered → Result (List RowWrite) Refusal
with_entry first before waiting None = Err Exhausted
with_entry first before waiting (Some e) = Ok (first ++ entry_rows before waiting e)

-- some rows, and then those of the step that a machine takes, if it takes one
unfoldable pub followed : List RowWrite → BootView → ℕ → Option Step → Result (List RowWrite) Refusal
followed first v moment None = Ok first
followed first v moment (Some step) =
    with_entry first v.machine v.order (entered v.machine step moment v.numbers)

-- what is answered with the rows
abbrev pub answering : {A : Type 0} → A → Result (List RowWrite) Refusal → Result (List RowWrite × A) Refusal
answering answer (Ok rows) = Ok (rows, answer)
answering answer (Err refusal) = Err refusal
