-- Machines as the desk lists them (the list's text is that of hall_events).
use Rattle.std.specs.Prelude.{◌≡◌, ℕ, List, map}
use Rattle.hall_types.specs.Hall.{second}
use Rattle.hall_events.specs.{Reply.{ListedMachine, listed, machine_list, reply_of}, declared.reply.{Reply.TheVariants.Http, BodyKind.TheVariants.Json}}
use Rattle.hallview_state.specs.declared.listed.Listed.{Listed}

-- a machine with its interfaces, as the text of a list has it
abbrev pub listed_of : Listed → ListedMachine
listed_of one = listed one.machine one.interfaces.items

-- this status and these octets are the desk's answer that lists these machines, and no others
abbrev pub IsListOf : List Listed → ℕ → List ℕ → Type 0
IsListOf machines status body = reply_of second (machine_list (map listed_of machines)) ≡ Http status Json body
