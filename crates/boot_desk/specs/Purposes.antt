-- What the answer to a script request has a kernel do.
use Rattle.std.specs.Prelude.{◌≡◌, false, List, Option, Some, codes, ◌++◌, ℕ}
use Rattle.hall_types.specs.{Image.{BootImage, has_hall_word}, Kinds.erase_text, declared.{boot.Boot.Boot, kinds.{Erase.Erase, Purpose.Purpose}}}
use Rattle.ipxe_script.specs.{Purpose.HasKernelWord, Script.spelling, declared.command.Command.Command}
use Rattle.boot_desk.specs.{declared.{class.ScriptClass.TheVariants.Work, views.BootView.BootView}, Class.class_of, Fetch.image_for, Texts.work_script}

-- the script boots an image for the purpose that the machine works for
pub record IsWork (host : List ℕ) (v : BootView) (purpose : Purpose) (script : List Command) : Type 0 where
  pub boot : Boot
  pub image : BootImage
  pub class : class_of v.machine ≡ Work purpose
  pub image_is : image_for purpose v ≡ Some image
  pub is : script ≡ work_script host purpose v.machine.erase boot image

-- no argument of an image begins as the desk's own do
abbrev pub HasNoHallWord : Option BootImage → Type 0
HasNoHallWord image = (its : BootImage) → image ≡ Some its → has_hall_word its.args ≡ false

pub record HasNoHallWords (v : BootView) : Type 0 where
  pub live : HasNoHallWord v.live
  pub image : HasNoHallWord v.image

-- the script's text has a kernel erase the disks in this way
abbrev pub ErasesBy : Erase → List Command → Type 0
ErasesBy erase script = HasKernelWord (codes "hall.erase=" ++ erase_text erase) (spelling script)
