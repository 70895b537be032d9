-- What a client's frame is answered (PXE 2.1).
use Rattle.std.specs.Prelude.{ℕ, ◌==◌, nat_lt, nat_le, not, Bool, true, false, List, [], ◌∷◌, length, Option, Some, None, option_map, if◌then◌else◌}
use Rattle.pxe_vendor.specs.declared.clients.{Client.Client, Kind.{Kind, TheVariants.{Discover, Request}}}
use Rattle.hall_types.specs.{Hall.{Hall, default_pool}, Lookup.machine_with_uuid, Number.next_number, Rows.{at, size}, declared.{machine.{Machine.Machine, TheConstants.MAX_MACHINES}, number.Numbers.Numbers, port.Port.Port, change.RowWrite.{RowWrite, TheVariants.{PutMachine, PutInterface, PutNumbers}}}, Machine.blank_machine}
use Rattle.hall_types.specs.declared.port.Port.TheVariants as port
use Rattle.boot_desk.specs.declared.frames.{Decision.{Decision, TheVariants.{Loader, ScriptUrl, Enlist, Silent}}, Silence.TheVariants.{WrongPort, EchoTooLong, KnownUuid, Full, Exhausted}, FrameView.FrameView}

-- ---- the view

-- the machine that a UUID is recorded with, if there is one
abbrev pub machine_with : Hall → Option (List ℕ) → Option Machine
machine_with h None = None
machine_with h (Some uuid) = machine_with_uuid h uuid

-- what the hall has of a client: the machines of its address and of its UUID, how many machines there are, and the last
-- numbers
abbrev pub frame_view : Hall → Client → FrameView
frame_view h client = record {
  by_mac = option_map (λ i. i.machine) (at h.interfaces client.mac);
  by_uuid = option_map (λ m. m.id) (machine_with h client.uuid);
  machines = size h.machines;
  numbers = h.last;
}

-- ---- the decision

-- a DISCOVER is for the DHCP server's port, a REQUEST for the boot server's
abbrev pub is_port_of : Kind → Port → Bool
is_port_of Discover port.Discover = true
is_port_of Discover port.Boot = false
is_port_of Request port.Discover = false
is_port_of Request port.Boot = true

-- a length octet can't hold the length of the identifier, which an answer has to give back
abbrev pub is_echo_long : Option (List ℕ) → Bool
is_echo_long None = false
is_echo_long (Some identifier) = nat_lt 255 (length identifier)

-- the UUID is another machine's
abbrev pub is_uuid_of_other : Option ℕ → Option ℕ → Bool
is_uuid_of_other None by_mac = false
is_uuid_of_other (Some id) None = true
is_uuid_of_other (Some id) (Some own) = not (id == own)

-- iPXE is given its script, all others the loader for their architecture
abbrev pub file_for : Client → Decision
file_for client = if client.ipxe then ScriptUrl else Loader

-- an unknown client is enlisted if there is room and a number for it
abbrev pub if_number : Option ℕ → Decision
if_number None = Silent Exhausted
if_number (Some id) = Enlist

abbrev pub for_unknown : FrameView → Decision
for_unknown v =
    if nat_le MAX_MACHINES v.machines then Silent Full else if_number (next_number v.numbers.machine)

abbrev pub for_address : Option ℕ → FrameView → Client → Decision
for_address (Some id) v client = file_for client
for_address None v client = for_unknown v

-- what a frame is answered, or the first cause of silence
unfoldable pub frame_decision : FrameView → Port → Client → Decision
frame_decision v port client =
    if not (is_port_of client.kind port) then Silent WrongPort
    else if is_echo_long client.echo97 then Silent EchoTooLong
    else if is_uuid_of_other v.by_uuid v.by_mac then Silent KnownUuid
    else for_address v.by_mac v client

-- ---- enlisting

-- a new machine of the default pool with the client's architecture and UUID
abbrev pub new_machine : ℕ → Client → Machine
new_machine id client = blank_machine id client.arch default_pool client.uuid

-- the machine with its one interface
abbrev pub enlisted_as : Option ℕ → Client → Numbers → List RowWrite
enlisted_as None client numbers = []
enlisted_as (Some id) client numbers =
    PutMachine (new_machine id client) None
    ∷ PutInterface (record { mac = client.mac; machine = id })
    ∷ PutNumbers (record numbers { machine = id })
    ∷ []

abbrev pub enlisted : Client → Numbers → List RowWrite
enlisted client numbers = enlisted_as (next_number numbers.machine) client numbers
