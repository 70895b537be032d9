-- What the desk answers to what it was asked (the contents of its answers and their texts are those of hall_events).
use Rattle.std.specs.Prelude.{◌≡◌, ◌⊎◌, ℕ, List}
use Rattle.hall_types.specs.{Hall.second, declared.{order.Order.Order, refusal.Refusal.Refusal}}
use Rattle.hall_events.specs.{Reply.{Content, ListedMachine, refused, machine_is, machine_gone, done, waiting_orders, machine_list, counted, repeated, one_machine, reply_of}, declared.{command.{HallCommand.{HallCommand, TheVariants.{AddMachine, OnMachine}}, MachineCommand.{MachineCommand, TheVariants.Delete}}, reply.{Reply.{Reply, TheVariants.Http}, BodyKind.TheVariants.Json}}}
use Rattle.hallctl_texts.specs.declared.answers.{DeskAnswer.DeskAnswer, Due.Due, MachineState.MachineState, Question.Question}
use Rattle.hallctl_texts.specs.declared.answers.DeskAnswer.TheVariants as says
use Rattle.hallctl_texts.specs.declared.answers.Question.TheVariants as asks
use Rattle.hallctl_texts.specs.declared.answers.Due.TheVariants as due

-- ---- commands

abbrev pub due_on : ℕ → MachineCommand → Due
due_on machine Delete = due.Gone machine
due_on machine other = due.Machine machine

-- what a command is answered that was carried out: nothing more, the number of the machine that it deleted, the machine that it names, or a new one
abbrev pub due_to : HallCommand → Due
due_to (OnMachine machine version command) = due_on machine command
due_to (AddMachine mac arch pool uuid) = due.NewMachine
due_to other = due.Nothing

-- the answer and its content say that a machine is so
abbrev pub IsStateOf : MachineState → DeskAnswer → Content → Type 0
IsStateOf state answer content = (answer ≡ says.Machine state) × (content ≡ machine_is state.id state.status state.version)

-- such an answer, with its content
abbrev pub IsDue : Due → DeskAnswer → Content → Type 0
IsDue due.Nothing answer content = (answer ≡ says.Done) × (content ≡ done)
IsDue (due.Gone machine) answer content = (answer ≡ says.Deleted machine) × (content ≡ machine_gone machine)
IsDue (due.Machine machine) answer content = (state : MachineState) × (state.id ≡ machine) × IsStateOf state answer content
IsDue due.NewMachine answer content = (state : MachineState) × IsStateOf state answer content

-- ---- the answer to an order

-- it was counted, or had been before
abbrev pub IsNoted : DeskAnswer → Content → Type 0
IsNoted answer content = ((answer ≡ says.Counted) × (content ≡ counted)) ⊎ ((answer ≡ says.Repeated) × (content ≡ repeated))

-- ---- all that is asked

-- the answer gives what is asked for: the list, the machine with this number, or what the answer to an order or the command is answered
abbrev pub Gives : Question → DeskAnswer → Content → Type 0
Gives asks.Machines answer content = (answer ≡ says.Listed) × ((machines : List ListedMachine) × (content ≡ machine_list machines))
Gives (asks.Machine id) answer content = (answer ≡ says.Listed) × ((listed : ListedMachine) × (listed.machine.id ≡ id) × (content ≡ one_machine listed))
Gives asks.Orders answer content = (answer ≡ says.Listed) × ((orders : List Order) × (content ≡ waiting_orders orders))
Gives asks.Answer answer content = IsNoted answer content
Gives (asks.Command command) answer content = IsDue (due_to command.now) answer content

-- the answer says why what is asked for isn't given
abbrev pub Refuses : DeskAnswer → Content → Type 0
Refuses answer content = (refusal : Refusal) × (answer ≡ says.Refused refusal) × (content ≡ refused refusal)

abbrev pub Answers : Question → DeskAnswer → Content → Type 0
Answers question answer content = Gives question answer content ⊎ Refuses answer content

-- the reply is that of a content that is so
pub record IsReplyOf (IsSo : Content → Type 0) (reply : Reply) : Type 0 where
  pub content : Content
  pub so : IsSo content
  pub text : reply_of second content ≡ reply

-- this status and these octets are the text of a content that is so
abbrev pub IsTextOf : (Content → Type 0) → ℕ → List ℕ → Type 0
IsTextOf IsSo status body = IsReplyOf IsSo (Http status Json body)
