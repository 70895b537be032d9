-- Commands, their kinds and the word of each, and the text by which a receipt keeps a command: compact JSON of all but
-- the request key.
use Rattle.std.specs.{Prelude.{ℕ, true, false, List, [], ◌∷◌, ◌++◌, map, Option, Some, None, option_map, codes, IfSome}, Option.option_or}
use Rattle.hex.specs.Hex.{encode_lower}
use Rattle.uuid.specs.Text.{hyphenated_text, lower}
use Rattle.pxe_vendor.specs.{MacText.mac_text, Arch.arch_text}
use Rattle.serde_json.specs.{Data.{Data, string, boolean, array}, View.items_of, Written.compact_text}
use Rattle.hall_types.specs.{Act.{act_of_text, act_text}, Kinds.{role_text, erase_text, with_text}, Number.IsNumber, Octets.AreOctets, declared.kinds.Erase.{Erase, TheVariants.{Quick, Full}}}
use Rattle.hall_events.specs.{Object.{Member, object_of, member_if, count}, declared.command.{CommandKind.CommandKind, MachineKind.MachineKind, HallCommand.{HallCommand, TheVariants.{AddOperator, DisableOperator, AddPool, Grant, AddImage, DeleteImage, SetLive, AddMachine, OnMachine}}, MachineCommand.{MachineCommand, TheVariants.{AddInterface, RemoveInterface, SetPool, Commission, Delete, Deploy, Release, Act}}}}
use Rattle.hall_events.specs.declared.command.CommandKind.TheVariants as of_hall
use Rattle.hall_events.specs.declared.command.MachineKind.TheVariants as kind

-- the word of a command on a machine
unfoldable pub machine_word : MachineKind → List ℕ
machine_word kind.AddInterface = codes "add_interface"
machine_word kind.RemoveInterface = codes "remove_interface"
machine_word kind.SetPool = codes "set_pool"
machine_word kind.Commission = codes "commission"
machine_word kind.Delete = codes "delete"
machine_word kind.Deploy = codes "deploy"
machine_word kind.Release = codes "release"
machine_word (kind.Act act) = act_text act

-- the word of a command
unfoldable pub kind_word : CommandKind → List ℕ
kind_word of_hall.AddOperator = codes "add_operator"
kind_word of_hall.DisableOperator = codes "disable_operator"
kind_word of_hall.AddPool = codes "add_pool"
kind_word of_hall.Grant = codes "grant"
kind_word of_hall.AddImage = codes "add_image"
kind_word of_hall.DeleteImage = codes "delete_image"
kind_word of_hall.SetLive = codes "set_live"
kind_word of_hall.AddMachine = codes "add_machine"
kind_word (of_hall.OnMachine kind) = machine_word kind

-- all kinds but acts
abbrev pub kinds : List CommandKind
kinds =
    of_hall.AddOperator ∷ of_hall.DisableOperator ∷ of_hall.AddPool ∷ of_hall.Grant ∷ of_hall.AddImage
    ∷ of_hall.DeleteImage ∷ of_hall.SetLive ∷ of_hall.AddMachine ∷ of_hall.OnMachine kind.AddInterface
    ∷ of_hall.OnMachine kind.RemoveInterface ∷ of_hall.OnMachine kind.SetPool ∷ of_hall.OnMachine kind.Commission
    ∷ of_hall.OnMachine kind.Delete ∷ of_hall.OnMachine kind.Deploy ∷ of_hall.OnMachine kind.Release ∷ []

-- the act that has this word
abbrev pub act_kind : List ℕ → Option CommandKind
act_kind word = option_map (λ act. of_hall.OnMachine (kind.Act act)) (act_of_text word)

-- the kind that has this word
unfoldable pub kind_with_word : List ℕ → Option CommandKind
kind_with_word word = option_or (with_text kind_word word kinds) (act_kind word)

-- an address in lower case, with a colon between two octets
abbrev pub mac_data : List ℕ → Data
mac_data mac = string (mac_text mac)

-- a UUID in lower case, with its four hyphens
abbrev pub uuid_data : List ℕ → Data
uuid_data uuid = string (hyphenated_text lower uuid)

-- no erasing is false, full erasing is true, quick erasing is its word
abbrev pub erase_data : Option Erase → Data
erase_data None = boolean false
erase_data (Some Full) = boolean true
erase_data (Some Quick) = string (erase_text Quick)

-- the member that names a command of this kind
abbrev pub command_member : CommandKind → Member
command_member kind = (codes "command", string (kind_word kind))

-- the kind of a command on a machine
abbrev pub machine_kind : MachineCommand → MachineKind
machine_kind (AddInterface mac) = kind.AddInterface
machine_kind (RemoveInterface mac) = kind.RemoveInterface
machine_kind (SetPool pool) = kind.SetPool
machine_kind (Commission tests) = kind.Commission
machine_kind Delete = kind.Delete
machine_kind (Deploy image) = kind.Deploy
machine_kind (Release erase) = kind.Release
machine_kind (Act act) = kind.Act act

-- the kind of a command
abbrev pub command_kind : HallCommand → CommandKind
command_kind (AddOperator operator role digest) = of_hall.AddOperator
command_kind (DisableOperator operator) = of_hall.DisableOperator
command_kind (AddPool pool) = of_hall.AddPool
command_kind (Grant pool operator) = of_hall.Grant
command_kind (AddImage image) = of_hall.AddImage
command_kind (DeleteImage image) = of_hall.DeleteImage
command_kind (SetLive image) = of_hall.SetLive
command_kind (AddMachine mac arch pool uuid) = of_hall.AddMachine
command_kind (OnMachine machine version c) = of_hall.OnMachine (machine_kind c)

-- the member that only this command on a machine has
abbrev pub own_members : MachineCommand → List Member
own_members (AddInterface mac) = (codes "mac", mac_data mac) ∷ []
own_members (RemoveInterface mac) = (codes "mac", mac_data mac) ∷ []
own_members (SetPool pool) = (codes "pool", string pool) ∷ []
own_members (Commission tests) = (codes "tests", boolean tests) ∷ []
own_members (Deploy image) = (codes "image", string image) ∷ []
own_members (Release erase) = (codes "erase", erase_data erase) ∷ []
own_members other = []

-- the members of a command
unfoldable pub members_of : HallCommand → List Member
members_of (AddOperator operator role digest) =
    command_member of_hall.AddOperator
    ∷ (codes "digest", string (encode_lower digest))
    ∷ (codes "operator", string operator)
    ∷ (codes "role", string (role_text role))
    ∷ []
members_of (DisableOperator operator) = command_member of_hall.DisableOperator ∷ (codes "operator", string operator) ∷ []
members_of (AddPool pool) = command_member of_hall.AddPool ∷ (codes "pool", string pool) ∷ []
members_of (Grant pool operator) =
    command_member of_hall.Grant ∷ (codes "operator", string operator) ∷ (codes "pool", string pool) ∷ []
members_of (AddImage image) =
    command_member of_hall.AddImage
    ∷ (codes "arch", string (arch_text image.arch))
    ∷ (codes "args", array (items_of (map string image.args)))
    ∷ (codes "image", string image.name)
    ∷ (codes "initrd", string image.initrd)
    ∷ (codes "kernel", string image.kernel)
    ∷ []
members_of (DeleteImage image) = command_member of_hall.DeleteImage ∷ (codes "image", string image) ∷ []
members_of (SetLive image) = command_member of_hall.SetLive ∷ (codes "image", string image) ∷ []
members_of (AddMachine mac arch pool uuid) =
    command_member of_hall.AddMachine
    ∷ (codes "arch", string (arch_text arch))
    ∷ (codes "mac", mac_data mac)
    ∷ (codes "pool", string pool)
    ∷ member_if (codes "uuid") (option_map uuid_data uuid)
members_of (OnMachine machine version c) =
    command_member (of_hall.OnMachine (machine_kind c))
    ∷ (codes "machine", count machine)
    ∷ own_members c
    ++ member_if (codes "version") (option_map count version)

-- a command as JSON
abbrev pub command_data : HallCommand → Data
command_data c = object_of (members_of c)

-- the text of a command
unfoldable pub command_text : HallCommand → List ℕ
command_text c = compact_text (command_data c)

-- a request with a command as JSON: the key of the request is one more member
abbrev pub request_data : List ℕ → HallCommand → Data
request_data key c = object_of ((codes "key", uuid_data key) ∷ members_of c)

-- the text of a request with a command
unfoldable pub request_text : List ℕ → HallCommand → List ℕ
request_text key c = compact_text (request_data key c)

-- ---- what commands are made of

-- an address is six octets
abbrev pub IsMachineCommand : MachineCommand → Type 0
IsMachineCommand (AddInterface mac) = AreOctets 6 mac
IsMachineCommand (RemoveInterface mac) = AreOctets 6 mac
IsMachineCommand other = Unit {0}

-- addresses, digests, UUIDs and numbers are in their ranges; texts are any octets
abbrev pub IsCommand : HallCommand → Type 0
IsCommand (AddOperator operator role digest) = AreOctets 32 digest
IsCommand (AddMachine mac arch pool uuid) = AreOctets 6 mac × IfSome uuid (AreOctets 16)
IsCommand (OnMachine machine version c) = IsNumber machine × IfSome version IsNumber × IsMachineCommand c
IsCommand other = Unit {0}
