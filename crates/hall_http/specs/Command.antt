-- What the bodies of requests say: commands with their keys and exactly the members of their kinds, the progress of boots,
-- the outcomes of orders.
use Rattle.std.specs.Prelude.{ℕ, List, [], ◌∷◌, Option, Some, None, Bool, true, not, codes, if◌then◌else◌, IsTrue, IsUtf8}
use Rattle.pxe_vendor.specs.Blank.{is_blank}
use Rattle.hall_events.specs.Command.{kind_with_word, request_text}
use Rattle.hall_events.specs.declared.command.HallCommand.TheVariants as command
use Rattle.hall_events.specs.declared.command.MachineCommand.TheVariants as machine
use Rattle.hall_events.specs.declared.command.MachineKind.TheVariants as kind
use Rattle.hall_http.specs.{Prelude.{Data, string, object_of, compact_text, Outcome, outcome_text, Progress, BootImage, IsImage, IsName, AreOctets, HallCommand, MachineCommand, CommandKind, AddOperator, DisableOperator, AddPool, Grant, AddImage, DeleteImage, SetLive, AddMachine, OnMachine, MachineKind, IsCommand}, declared.command.KeyedCommand.KeyedCommand, Body.{data_of, fits}, Member.{text_at, number_at, name_at, uri_at, key_at, version_at, mac_at, digest_at, uuid_at, arch_at, role_at, tests_at, erase_at, words_at, progress_at, outcome_at}, Steps.◌>>=◌, Value.image_of}

-- ---- members

-- what each command must have
abbrev pub common_members : CommandKind → List (List ℕ)
common_members (OnMachine kind) = codes "key" ∷ codes "command" ∷ codes "machine" ∷ []
common_members other = codes "key" ∷ codes "command" ∷ []

-- what a command on a machine must have besides
abbrev pub machine_members : MachineKind → List (List ℕ)
machine_members kind.AddInterface = codes "mac" ∷ []
machine_members kind.RemoveInterface = codes "mac" ∷ []
machine_members kind.SetPool = codes "pool" ∷ []
machine_members kind.Commission = codes "tests" ∷ []
machine_members kind.Deploy = codes "image" ∷ []
machine_members kind.Release = codes "erase" ∷ []
machine_members other = []

-- what a command must have besides
abbrev pub own_members : CommandKind → List (List ℕ)
own_members AddOperator = codes "operator" ∷ codes "role" ∷ codes "digest" ∷ []
own_members DisableOperator = codes "operator" ∷ []
own_members AddPool = codes "pool" ∷ []
own_members Grant = codes "pool" ∷ codes "operator" ∷ []
own_members AddImage = codes "image" ∷ codes "arch" ∷ codes "kernel" ∷ codes "initrd" ∷ codes "args" ∷ []
own_members DeleteImage = codes "image" ∷ []
own_members SetLive = codes "image" ∷ []
own_members AddMachine = codes "mac" ∷ codes "arch" ∷ codes "pool" ∷ []
own_members (OnMachine kind) = machine_members kind

-- what a command may have
abbrev pub optional_members : CommandKind → List (List ℕ)
optional_members AddMachine = codes "uuid" ∷ []
optional_members (OnMachine kind) = codes "version" ∷ []
optional_members other = []

-- ---- commands to the hall

abbrev pub operator_command : Data → Option HallCommand
operator_command json = do
  operator ← name_at (codes "operator") json
  role ← role_at json
  digest ← digest_at json
  Some (command.AddOperator operator role digest)

-- a command with one name
abbrev pub named_command : (List ℕ → HallCommand) → List ℕ → Data → Option HallCommand
named_command made member json = do
  name ← name_at member json
  Some (made name)

abbrev pub grant_command : Data → Option HallCommand
grant_command json = do
  pool ← name_at (codes "pool") json
  operator ← name_at (codes "operator") json
  Some (command.Grant pool operator)

abbrev pub image_at : Data → Option BootImage
image_at json = do
  name ← name_at (codes "image") json
  arch ← arch_at json
  kernel ← uri_at (codes "kernel") json
  initrd ← uri_at (codes "initrd") json
  args ← words_at json
  image_of (record { name = name; arch = arch; kernel = kernel; initrd = initrd; args = args })

abbrev pub image_command : Data → Option HallCommand
image_command json = do
  image ← image_at json
  Some (command.AddImage image)

abbrev pub new_machine_command : Data → Option HallCommand
new_machine_command json = do
  mac ← mac_at json
  arch ← arch_at json
  pool ← name_at (codes "pool") json
  uuid ← uuid_at json
  Some (command.AddMachine mac arch pool uuid)

-- ---- commands on machines

abbrev pub with_mac : (List ℕ → MachineCommand) → Data → Option MachineCommand
with_mac made json = do
  mac ← mac_at json
  Some (made mac)

abbrev pub with_name : (List ℕ → MachineCommand) → List ℕ → Data → Option MachineCommand
with_name made member json = do
  name ← name_at member json
  Some (made name)

abbrev pub commission_command : Data → Option MachineCommand
commission_command json = do
  tests ← tests_at json
  Some (machine.Commission tests)

abbrev pub release_command : Data → Option MachineCommand
release_command json = do
  erase ← erase_at json
  Some (machine.Release erase)

-- what is done to the machine
unfoldable pub machine_command : MachineKind → Data → Option MachineCommand
machine_command kind.AddInterface json = with_mac machine.AddInterface json
machine_command kind.RemoveInterface json = with_mac machine.RemoveInterface json
machine_command kind.SetPool json = with_name machine.SetPool (codes "pool") json
machine_command kind.Commission json = commission_command json
machine_command kind.Delete json = Some machine.Delete
machine_command kind.Deploy json = with_name machine.Deploy (codes "image") json
machine_command kind.Release json = release_command json
machine_command (kind.Act act) json = Some (machine.Act act)

abbrev pub on_machine : MachineKind → Data → Option HallCommand
on_machine kind json = do
  number ← number_at (codes "machine") json
  version ← version_at json
  act ← machine_command kind json
  Some (command.OnMachine number version act)

-- ---- requests with a command

-- the command of this kind
unfoldable pub command_of : CommandKind → Data → Option HallCommand
command_of AddOperator json = operator_command json
command_of DisableOperator json = named_command command.DisableOperator (codes "operator") json
command_of AddPool json = named_command command.AddPool (codes "pool") json
command_of Grant json = grant_command json
command_of AddImage json = image_command json
command_of DeleteImage json = named_command command.DeleteImage (codes "image") json
command_of SetLive json = named_command command.SetLive (codes "image") json
command_of AddMachine json = new_machine_command json
command_of (OnMachine kind) json = on_machine kind json

-- the members are those of this kind
abbrev pub fits_kind : CommandKind → Data → Bool
fits_kind kind json = fits (common_members kind) (own_members kind) (optional_members kind) json

abbrev pub with_key : CommandKind → Data → Option KeyedCommand
with_key kind json = do
  key ← key_at json
  command ← command_of kind json
  Some (record { key = key; command = command })

-- the kind that the command's word names
abbrev pub kind_at : Data → Option CommandKind
kind_at json = do
  word ← text_at (codes "command") json
  kind_with_word word

-- the command of an object with exactly the members of its kind
unfoldable pub keyed_command : Data → Option KeyedCommand
keyed_command json = do
  kind ← kind_at json
  if fits_kind kind json then with_key kind json else None

-- ---- bodies

-- the command of a body
unfoldable pub command_in : List ℕ → Option KeyedCommand
command_in body = do
  json ← data_of body
  keyed_command json

-- an object with this one member
abbrev pub is_sole : List ℕ → Data → Bool
is_sole name json = fits (name ∷ []) [] [] json

-- the progress that a report's body says
unfoldable pub progress_in : List ℕ → Option Progress
progress_in body = do
  json ← data_of body
  if is_sole (codes "stage") json then progress_at json else None

-- the body of an order's answer
abbrev pub outcome_data : Outcome → Data
outcome_data outcome = object_of ((codes "outcome", string (outcome_text outcome)) ∷ [])

unfoldable pub answer_text : Outcome → List ℕ
answer_text outcome = compact_text (outcome_data outcome)

-- the outcome that the body of an order's answer says
unfoldable pub outcome_in : List ℕ → Option Outcome
outcome_in body = do
  json ← data_of body
  if is_sole (codes "outcome") json then outcome_at json else None

-- ---- which commands the text of a request can bring

-- a pool and an image are named by names
abbrev pub HasNames : MachineCommand → Type 0
HasNames (machine.SetPool pool) = IsName pool
HasNames (machine.Deploy image) = IsName image
HasNames other = Unit {0}

-- the texts of a command are of their kinds
abbrev pub HasParts : HallCommand → Type 0
HasParts (command.AddOperator operator role digest) = IsName operator
HasParts (command.DisableOperator operator) = IsName operator
HasParts (command.AddPool pool) = IsName pool
HasParts (command.Grant pool operator) = IsName pool × IsName operator
HasParts (command.AddImage image) = IsName image.name × IsImage image
HasParts (command.DeleteImage image) = IsName image
HasParts (command.SetLive image) = IsName image
HasParts (command.AddMachine mac arch pool uuid) = IsName pool
HasParts (command.OnMachine machine version c) = HasNames c

-- 16 octets that are all 0 or all 255 identify no machine
abbrev pub identifies : Option (List ℕ) → Bool
identifies None = true
identifies (Some octets) = not (is_blank octets)

-- a UUID that a command brings identifies a machine
abbrev pub is_identified : HallCommand → Bool
is_identified (command.AddMachine mac arch pool uuid) = identifies uuid
is_identified other = true

-- a command that a request can bring: octets and numbers are in their ranges, and its text is UTF-8
pub record IsSendableCommand (key : List ℕ) (c : HallCommand) : Type 0 where
  pub sixteen : AreOctets 16 key
  pub whole : IsCommand c
  pub parts : HasParts c
  pub identity : IsTrue (is_identified c)
  pub text : IsUtf8 (request_text key c)
