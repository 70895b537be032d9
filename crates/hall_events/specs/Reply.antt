-- What the desk answers, with its text (statuses: RFC 9110 section 15).
use Rattle.std.specs.Prelude.{ℕ, true, false, List, [], ◌∷◌, ◌++◌, map, fold, Option, codes}
use Rattle.serde_json.specs.{Data.{Data, string, boolean, array}, View.items_of, Written.{comma_if, compact_text}}
use Rattle.ipxe_script.specs.{Script.{spelling, IsScript}, declared.command.Command.Command}
use Rattle.pxe_vendor.specs.Arch.{arch_text}
use Rattle.hall_types.specs.{Hall.{Schema, first, second}, Kinds.{erase_text, order_kind_text}, Number.IsNumber, Refusal.{refusal_name, refusal_status}, Status.status_text, declared.{kinds.Erase.Erase, machine.{Interface.Interface, Machine.Machine}, order.Order.Order, refusal.Refusal.Refusal, status.Status.Status}}
use Rattle.hall_events.specs.{Object.{Member, object_of, list_object, or_null, count}, Command.{mac_data, uuid_data}, Listing.Listing, declared.reply.{Reply.{Reply, TheVariants.{Http, File, Nothing}}, BodyKind.TheVariants.{Text, Json}}}

-- a machine with the addresses of its interfaces
pub record ListedMachine : Type 0 where
  pub machine : Machine
  pub macs : List (List ℕ)

-- a machine with these interfaces, in this order
abbrev pub listed : Machine → List Interface → ListedMachine
listed machine interfaces = record { machine = machine; macs = map (λ i. i.mac) interfaces }

-- what an answer says
pub data Content : Type 0 where
  script : List Command → Content
  refused : Refusal → Content
  -- a report or the answer to an order was counted, or had been before
  counted : Content
  repeated : Content
  -- a machine's number, its status and its version after a command
  machine_is : ℕ → Status → ℕ → Content
  machine_gone : ℕ → Content
  -- any other command was carried out
  done : Content
  waiting_orders : List Order → Content
  machine_list : List ListedMachine → Content
  one_machine : ListedMachine → Content
  -- the answer that a receipt keeps, with its status
  stored : ℕ → List ℕ → Content
  boot_file : List ℕ → Content
  nothing : Content

-- the name of the cause
abbrev pub refusal_data : Refusal → Data
refusal_data refusal = object_of ((codes "refusal", string (refusal_name refusal)) ∷ [])

-- a word for what was done
abbrev pub result_data : List ℕ → Data
result_data word = object_of ((codes "result", string word) ∷ [])

-- a machine's number
abbrev pub id_data : ℕ → Data
id_data id = object_of ((codes "id", count id) ∷ [])

-- a machine's number, status and version
abbrev pub status_data : ℕ → Status → ℕ → Data
status_data id status version =
    object_of ((codes "id", count id) ∷ (codes "status", string (status_text status)) ∷ (codes "version", count version) ∷ [])

-- an order's kind, machine and number
abbrev pub order_data : Order → Data
order_data o =
    object_of ((codes "kind", string (order_kind_text o.kind)) ∷ (codes "machine", count o.machine) ∷ (codes "number", count o.number) ∷ [])

-- ---- machines

-- the first schema keeps no kind of erasing
abbrev pub erase_members : Schema → Option Erase → List Member
erase_members first erase = []
erase_members second erase = (codes "erase", or_null (λ e. string (erase_text e)) erase) ∷ []

-- the members of a machine in the order of their names' octets, in three parts: `arch` to `id`, `image` to `order`, and those from `owner` on
abbrev pub first_members : Schema → Machine → List Member
first_members schema m =
    (codes "arch", string (arch_text m.arch))
    ∷ (codes "boot", or_null count m.boot)
    ∷ (codes "deadline", or_null count m.deadline)
    ∷ erase_members schema m.erase
    ++ (codes "id", count m.id)
    ∷ []

abbrev pub middle_members : ListedMachine → List Member
middle_members listed =
    (codes "image", or_null string listed.machine.image)
    ∷ (codes "interfaces", array (items_of (map mac_data listed.macs)))
    ∷ (codes "locked", boolean listed.machine.locked)
    ∷ (codes "order", or_null count listed.machine.waiting)
    ∷ []

abbrev pub last_members : Machine → List Member
last_members m =
    (codes "owner", or_null string m.owner)
    ∷ (codes "pool", string m.pool)
    ∷ (codes "status", string (status_text m.status))
    ∷ (codes "uuid", or_null uuid_data m.uuid)
    ∷ (codes "version", count m.version)
    ∷ []

-- a machine as answers list it
unfoldable pub machine_data : Schema → ListedMachine → Data
machine_data schema listed = object_of (first_members schema listed.machine ++ middle_members listed ++ last_members listed.machine)

-- ---- answers

-- an answer of JSON, whose request was carried out
abbrev pub ok : Data → Reply
ok body = Http 200 Json (compact_text body)

-- the answer that says this
unfoldable pub reply_of : Schema → Content → Reply
reply_of schema (script commands) = Http 200 Text (spelling commands)
reply_of schema (refused refusal) = Http (refusal_status refusal) Json (compact_text (refusal_data refusal))
reply_of schema counted = ok (result_data (codes "counted"))
reply_of schema repeated = ok (result_data (codes "repeat"))
reply_of schema (machine_is id status version) = ok (status_data id status version)
reply_of schema (machine_gone id) = ok (id_data id)
reply_of schema done = ok (object_of [])
reply_of schema (waiting_orders orders) = ok (list_object (codes "orders") (map order_data orders))
reply_of schema (machine_list machines) = ok (list_object (codes "machines") (map (machine_data schema) machines))
reply_of schema (one_machine listed) = ok (machine_data schema listed)
reply_of schema (stored status body) = Http status Json body
reply_of schema (boot_file file) = File file
reply_of schema nothing = Nothing

-- an answer whose content can be read: neither a list nor kept by a receipt, a script within its limits, numbers in their range
abbrev pub IsReadable : Content → Type 0
IsReadable (script commands) = IsScript commands
IsReadable (machine_is id status version) = IsNumber id × IsNumber version
IsReadable (machine_gone id) = IsNumber id
IsReadable (waiting_orders orders) = ⊥
IsReadable (machine_list machines) = ⊥
IsReadable (one_machine listed) = ⊥
IsReadable (stored status body) = ⊥
IsReadable other = Unit {0}

-- ---- a list of machines that is written machine by machine

-- before the first machine
abbrev pub no_machine : Listing
no_machine = record { text = codes "{\"machines\":["; any = false }

-- with one machine more
unfoldable pub with_machine : Listing → ListedMachine → Listing
with_machine list machine =
    record { text = list.text ++ (comma_if list.any ++ compact_text (machine_data second machine)); any = true }

-- after these machines
abbrev pub listing : List ListedMachine → Listing
listing machines = fold with_machine no_machine machines
