-- What a decision writes into a hall: each decision writes in one of these ways.
use Rattle.std.specs.Prelude.{◌≡◌, ◌≢◌, ◌⊎◌, ⊤, ℕ, Bool, true, false, List, [], ◌∷◌, ◌++◌, Option, Some, None}
use Rattle.hall_types.specs.Rows.{at}
use Rattle.hall_types.specs.declared.change.RowWrite.TheVariants as write
use Rattle.hall_events.specs.declared.command.MachineCommand.TheVariants as on
use Rattle.hall_events.specs.declared.event.Event.TheVariants as event
use Rattle.life_cycle.specs.{Table.step_of, declared.{signal.Signal.TheVariants.Report, step.Step.Step}}
use Rattle.boot_desk.specs.{Fetch.booted, Texts.hold_script}
use Rattle.hall_laws.specs.{Prelude.{Arch, edit_of, Client, Hall, pair, stage_after, next_number, next_version, Boot, RowWrite, Waiting, Outcome, Progress, Purpose, Interface, Machine, Operator, Order, Port, blank_machine, IsFree, Keeps, Content, counted, done, machine_gone, machine_is, script, HallCommand, AddImage, AddMachine, OnMachine, MachineCommand, Event, entered, permission_for, who_acts, Action, Entered, Signal, Answer, By, Expired, FourthBoot, Work, class_of, is_due, is_fourth, new_boot, offered_boot, entry_rows, machine_row, idle, stage_for, Takes, row_at, action_of, receipt_of, sender, prepared}, Decision.Decided}

-- ---- why a machine takes a step of the table

-- an operator who may act commands it, and the machine enters its status with what the command sets
pub record IsCommanded (h : Hall) (e : Event) (m entering : Machine) (signal : Signal) : Type 0 where
  pub operator : Operator
  pub bearer : Option (List ℕ)
  pub key : List ℕ
  pub version : Option ℕ
  pub command : MachineCommand
  pub action : Action
  pub member : Bool
  pub event_is : e ≡ event.Command bearer key (OnMachine m.id version command)
  pub sender_is : sender h bearer ≡ Some operator
  pub acts : action_of command ≡ Some action
  pub may : permission_for (who_acts action) operator m member ≡ None
  pub sets : entering ≡ prepared command operator m
  pub signal_is : signal ≡ By action

-- a report of its current boot counts, which brings the boot's token and moves the boot's stage on
pub record IsReported (h : Hall) (e : Event) (content : Content) (m : Machine) (b : Boot) (progress : Progress) : Type 0 where
  pub token : List ℕ
  pub event_is : e ≡ event.Report b.number token progress
  pub answer : content ≡ counted
  pub recorded : at h.boots b.number ≡ Some b
  pub its : b.machine ≡ m.id
  pub current : m.boot ≡ Some b.number
  pub token_is : b.token ≡ token
  pub takes : Takes b.stage progress

-- an answer to the order that it waits for counts
pub record IsOrderAnswered (h : Hall) (e : Event) (content : Content) (m : Machine) (o : Order) (outcome : Outcome) : Type 0 where
  pub bearer : Option (List ℕ)
  pub event_is : e ≡ event.OrderAnswer bearer o.number outcome
  pub answer : content ≡ counted
  pub recorded : at h.orders o.number ≡ Some o
  pub its : o.machine ≡ m.id
  pub waits : o.stage ≡ Waiting

-- its deadline has come at a quiet moment
pub record IsExpired (e : Event) (moment : ℕ) (m : Machine) (signal : Signal) : Type 0 where
  pub event_is : e ≡ event.Quiet
  pub due : is_due m.deadline moment ≡ true
  pub signal_is : signal ≡ Expired

-- it asks for a fourth boot of its status, none being offered, and is held
pub record IsFourth (h : Hall) (e : Event) (content : Content) (m : Machine) (signal : Signal) : Type 0 where
  pub mac : List ℕ
  pub interface : Interface
  pub recorded : at h.interfaces mac ≡ Some interface
  pub its : interface.machine ≡ m.id
  pub not_offered : offered_boot (row_at h.boots m.boot) ≡ None
  pub event_is : e ≡ event.Script mac
  pub answer : content ≡ script hold_script
  pub fourth : is_fourth m ≡ true
  pub signal_is : signal ≡ FourthBoot

-- what is written before a machine enters a status: nothing, the boot that was reported, or the order that was answered
pub data First : Type 0 where
  nothing_first : First
  boot_first : Boot → Progress → First
  order_first : Order → Outcome → First

abbrev pub first_rows : First → List RowWrite
first_rows nothing_first = []
first_rows (boot_first b progress) = write.PutBoot (record b { stage = stage_after progress }) ∷ []
first_rows (order_first o outcome) = write.PutOrder (record o { stage = stage_for outcome }) ∷ []

-- the order that is withdrawn: the one that waited, unless it was answered
abbrev pub withdrawn_at : Hall → Machine → First → Option Order
withdrawn_at h m nothing_first = row_at h.orders m.waiting
withdrawn_at h m (boot_first b progress) = row_at h.orders m.waiting
withdrawn_at h m (order_first o outcome) = None

-- the machine enters its status as it is
abbrev pub CauseOf : Hall → Event → ℕ → Content → Machine → Machine → Signal → First → Type 0
CauseOf h e moment content m entering signal nothing_first =
    IsCommanded h e m entering signal ⊎ ((entering ≡ m) × (IsExpired e moment m signal ⊎ IsFourth h e content m signal))
CauseOf h e moment content m entering signal (boot_first b progress) =
    (entering ≡ m) × (signal ≡ Report progress) × IsReported h e content m b progress
CauseOf h e moment content m entering signal (order_first o outcome) =
    (entering ≡ m) × (signal ≡ Answer outcome) × IsOrderAnswered h e content m o outcome

-- ---- the ways

-- a machine takes a step of the table, and enters another status
pub record IsEntering (h : Hall) (e : Event) (moment : ℕ) (rows : List RowWrite) (content : Content) : Type 0 where
  pub machine : Machine
  pub entering : Machine
  pub signal : Signal
  pub first : First
  pub step : Step
  pub new : Entered
  pub found : at h.machines machine.id ≡ Some machine
  pub cause : CauseOf h e moment content machine entering signal first
  pub leads : step_of machine signal ≡ Some step
  pub enters : entered entering step moment h.last ≡ Some new
  pub rows_are : rows ≡ first_rows first ++ entry_rows machine (withdrawn_at h machine first) new

-- a new machine has one interface, and the next number
pub record IsMaking (h : Hall) (rows : List RowWrite) : Type 0 where
  pub machine : Machine
  pub interface : Interface
  pub new : machine ≡ blank_machine machine.id machine.arch machine.pool machine.uuid
  pub next : next_number h.last.machine ≡ Some machine.id
  pub its : interface.machine ≡ machine.id
  pub free : IsFree h.interfaces interface.mac
  pub rows_are : rows ≡ write.PutMachine machine None ∷ write.PutInterface interface ∷ write.PutNumbers (record h.last { machine = machine.id }) ∷ []

-- the client of a frame is enlisted, or an operator adds a machine
abbrev pub AsksForMachine : Event → Type 0
AsksForMachine e =
    ((port : Port) × (client : Client) × (e ≡ event.Frame port client))
    ⊎ ((bearer : Option (List ℕ)) × (key mac : List ℕ) × (arch : Arch) × (pool : List ℕ) × (uuid : Option (List ℕ)) × (e ≡ event.Command bearer key (AddMachine mac arch pool uuid)))

-- an operator deletes the machine
pub record IsDeleting (h : Hall) (e : Event) (id : ℕ) : Type 0 where
  pub operator : Operator
  pub bearer : Option (List ℕ)
  pub key : List ℕ
  pub version : Option ℕ
  pub event_is : e ≡ event.Command bearer key (OnMachine id version on.Delete)
  pub sender_is : sender h bearer ≡ Some operator

-- a boot is issued for a machine that asks for its script
pub record IsIssuing (h : Hall) (e : Event) (fresh : List ℕ) (rows : List RowWrite) : Type 0 where
  pub machine : Machine
  pub number : ℕ
  pub purpose : Purpose
  pub mac : List ℕ
  pub event_is : e ≡ event.Script mac
  pub found : at h.machines machine.id ≡ Some machine
  pub works : class_of machine ≡ Work purpose
  pub next : next_number h.last.boot ≡ Some number
  pub rows_are : rows ≡
      machine_row machine (booted number machine)
      ∷ write.PutBoot (new_boot number machine purpose fresh)
      ∷ write.PutNumbers (record h.last { boot = number })
      ∷ []

-- a report counts that leads its machine nowhere
pub record IsNoted (h : Hall) (e : Event) (rows : List RowWrite) (content : Content) : Type 0 where
  pub machine : Machine
  pub boot : Boot
  pub progress : Progress
  pub found : at h.machines machine.id ≡ Some machine
  pub cause : IsReported h e content machine boot progress
  pub stays : step_of machine (Report progress) ≡ None
  pub rows_are : rows ≡ first_rows (boot_first boot progress)

-- an answer to an order counts that leads its machine nowhere: the machine waits no more
pub record IsIdled (h : Hall) (e : Event) (rows : List RowWrite) (content : Content) : Type 0 where
  pub machine : Machine
  pub order : Order
  pub outcome : Outcome
  pub found : at h.machines machine.id ≡ Some machine
  pub cause : IsOrderAnswered h e content machine order outcome
  pub stays : step_of machine (Answer outcome) ≡ None
  pub rows_are : rows ≡ write.PutOrder (record order { stage = stage_for outcome }) ∷ machine_row machine (idle machine) ∷ []

-- an interface of the machine is recorded with the address
abbrev pub HasInterface : Hall → Machine → List ℕ → Type 0
HasInterface h m mac = (i : Interface) × (at h.interfaces mac ≡ Some i) × (i.machine ≡ m.id)

-- no interface, a new one of the machine, or one of it that goes
abbrev pub EditsInterfaces : Hall → Machine → List RowWrite → Type 0
EditsInterfaces h m [] = ⊤
EditsInterfaces h m (write.PutInterface i ∷ []) = IsFree h.interfaces i.mac × (i.machine ≡ m.id)
EditsInterfaces h m (write.InterfaceGone mac ∷ []) = HasInterface h m mac
EditsInterfaces h m other = ⊥

-- a machine changes as an edit does, or its interfaces do, and its version is the next one
pub record IsEditing (h : Hall) (rows : List RowWrite) : Type 0 where
  pub machine : Machine
  pub after : Machine
  pub interfaces : List RowWrite
  pub found : at h.machines machine.id ≡ Some machine
  pub same : after ≡ edit_of machine after
  pub edits : EditsInterfaces h machine interfaces
  pub version : after.version ≡ next_version machine.version
  -- where no interface changes, another column does
  pub changes : interfaces ≡ [] → record after { version = machine.version } ≢ machine
  pub rows_are : rows ≡ machine_row machine after ∷ interfaces

-- a row of an operator, a pool, a member, an image or a live image; an operator keeps its digest, and an image is new by the
-- command that brings it
abbrev pub IsOfNoMachine : RowWrite → Hall → Event → Type 0
IsOfNoMachine (write.PutOperator o) h e = (was : Operator) → at h.operators o.name ≡ Some was → was.digest ≡ o.digest
IsOfNoMachine (write.PutPool p) h e = ⊤
IsOfNoMachine (write.PutMember m) h e = ⊤
IsOfNoMachine (write.PutImage i) h e = (bearer : Option (List ℕ)) × (key : List ℕ) × (e ≡ event.Command bearer key (AddImage i))
IsOfNoMachine (write.ImageGone name) h e = ⊤
IsOfNoMachine (write.PutLive l) h e = ⊤
IsOfNoMachine other h e = ⊥

-- one row of these is written, by the tables' rules
pub record IsWriteOfNoMachine (h : Hall) (e : Event) (rows : List RowWrite) : Type 0 where
  pub row : RowWrite
  pub aside : IsOfNoMachine row h e
  pub keeps : Keeps row h
  pub rows_are : rows ≡ row ∷ []

abbrev pub is_command : Event → Bool
is_command (event.Command bearer key command) = true
is_command other = false

pub data Writes (h : Hall) (e : Event) (moment : ℕ) (fresh : List ℕ) (rows : List RowWrite) (content : Content) : Type 0 where
  -- no report and no answer counts by writing nothing
  writes_nothing : content ≢ counted → rows ≡ [] → Writes h e moment fresh rows content
  makes_machine : AsksForMachine e → IsMaking h rows → Writes h e moment fresh rows content
  issues_boot : IsIssuing h e fresh rows → Writes h e moment fresh rows content
  enters_status : IsEntering h e moment rows content → Writes h e moment fresh rows content
  notes_report : IsNoted h e rows content → Writes h e moment fresh rows content
  ends_waiting : IsIdled h e rows content → Writes h e moment fresh rows content
  edits_machine : is_command e ≡ true → IsEditing h rows → Writes h e moment fresh rows content
  machine_goes : (id : ℕ) → IsDeleting h e id → rows ≡ write.MachineGone id ∷ [] → Writes h e moment fresh rows content
  writes_aside : is_command e ≡ true → IsWriteOfNoMachine h e rows → Writes h e moment fresh rows content

-- what an operator's command that is carried out is answered
abbrev pub is_done : Content → Bool
is_done (machine_is id status version) = true
is_done (machine_gone id) = true
is_done done = true
is_done other = false

-- an operator's command leaves a receipt after its own rows, where there was none
pub record LeavesReceipt (h : Hall) (e : Event) (own : List RowWrite) (decided : Decided) : Type 0 where
  pub operator : Operator
  pub bearer : Option (List ℕ)
  pub key : List ℕ
  pub command : HallCommand
  pub event_is : e ≡ event.Command bearer key command
  pub sender_is : sender h bearer ≡ Some operator
  pub recorded : at h.operators operator.name ≡ Some operator
  pub enabled : operator.enabled ≡ true
  pub new : IsFree h.receipts (pair operator.name key)
  pub says : is_done decided.content ≡ true
  pub rows_are : decided.rows ≡ own ++ write.PutReceipt (receipt_of operator key command decided.content) ∷ []

-- what all decisions write; a command that leaves no receipt writes nothing
pub data WritesAll (h : Hall) (e : Event) (moment : ℕ) (fresh : List ℕ) (decided : Decided) : Type 0 where
  without_receipt : (is_command e ≡ true → decided.rows ≡ []) → Writes h e moment fresh decided.rows decided.content → WritesAll h e moment fresh decided
  with_receipt : (own : List RowWrite) → Writes h e moment fresh own decided.content → LeavesReceipt h e own decided → WritesAll h e moment fresh decided
