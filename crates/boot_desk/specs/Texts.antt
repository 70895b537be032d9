-- The scripts that machines are given (https://ipxe.org/cmd).
use Rattle.std.specs.{Prelude.{ℕ, List, [], ◌∷◌, ◌++◌, Option, Some, None, codes}, Fmt.decimal}
use Rattle.hex.specs.Hex.{encode_lower}
use Rattle.ipxe_script.specs.declared.command.Command.{Command}
use Rattle.ipxe_script.specs.declared.command.Command.TheVariants as line
use Rattle.pxe_vendor.specs.declared.arch.Arch.{Arch}
use Rattle.pxe_vendor.specs.declared.arch.Arch.TheVariants as arch
use Rattle.hall_types.specs.{Image.BootImage, Kinds.{purpose_text, erase_text}, declared.{kinds.{Purpose.Purpose, Erase.Erase}, boot.Boot.Boot, machine.Machine.Machine}}
use Rattle.hall_types.specs.declared.kinds.Purpose.TheVariants as purpose
use Rattle.boot_desk.specs.{declared.class.ScriptClass.{ScriptClass, TheVariants.{Local, Work, Hold}}, Class.class_of}

-- a machine with a BIOS boots from its first disk by iPXE, the others by their firmware
unfoldable pub local_script : Arch → List Command
local_script arch.Bios = line.Sanboot ∷ []
local_script other = line.Exit ∷ []

-- a machine that is held says so and is turned off
unfoldable pub hold_script : List Command
hold_script =
    line.Echo (codes "This" ∷ codes "machine" ∷ codes "is" ∷ codes "held" ∷ codes "by" ∷ codes "the" ∷ codes "hall" ∷ codes "desk" ∷ [])
    ∷ line.Poweroff
    ∷ []

-- how the disks are to be erased
abbrev pub erase_argument : Purpose → Option Erase → List (List ℕ)
erase_argument purpose.Erase (Some erase) = (codes "hall.erase=" ++ erase_text erase) ∷ []
erase_argument other erase = []

-- the arguments that tell a kernel what to do, for which boot, and whom to report to
abbrev pub desk_arguments : List ℕ → Purpose → Option Erase → Boot → List (List ℕ)
desk_arguments host purpose erase b =
    (codes "hall.purpose=" ++ purpose_text purpose)
    ∷ erase_argument purpose erase
    ++ (codes "hall.boot=" ++ decimal b.number)
    ∷ (codes "hall.token=" ++ encode_lower b.token)
    ∷ (codes "hall.desk=http://" ++ host)
    ∷ []

-- an image's kernel is started with the image's arguments and then the desk's
unfoldable pub work_script : List ℕ → Purpose → Option Erase → Boot → BootImage → List Command
work_script host purpose erase b image =
    line.Kernel image.kernel (image.args ++ desk_arguments host purpose erase b) ∷ line.Initrd image.initrd ∷ line.Boot ∷ []

-- a machine that is to work, but has no boot or image to work with, is held
abbrev pub work_script_if : List ℕ → Purpose → Option Erase → Option (Boot × BootImage) → List Command
work_script_if host purpose erase None = hold_script
work_script_if host purpose erase (Some pair) = work_script host purpose erase pair.0 pair.1

abbrev pub script_by : ScriptClass → List ℕ → Machine → Option (Boot × BootImage) → List Command
script_by Local host m pair = local_script m.arch
script_by Hold host m pair = hold_script
script_by (Work purpose) host m pair = work_script_if host purpose m.erase pair

-- the script for a machine, at this host, with its current boot and the image for that
abbrev pub script_of : List ℕ → Machine → Option (Boot × BootImage) → List Command
script_of host m pair = script_by (class_of m) host m pair
