-- Boot images, and which arguments of a kernel they may have.
use Rattle.std.specs.{Prelude.{◌≡◌, ◌≤◌, ℕ, Bool, false, List, length, All}, List.list_any}
use Rattle.ipxe_script.specs.Word.{IsUri, IsWord, is_hall_word}
use Rattle.pxe_vendor.specs.declared.arch.Arch.{Arch}

-- an image: its name, its architecture, the URIs of its kernel and its initrd, and its kernel's arguments
pub record BootImage : Type 0 where
  pub name : List ℕ
  pub arch : Arch
  pub kernel : List ℕ
  pub initrd : List ℕ
  pub args : List (List ℕ)

abbrev pub has_hall_word : List (List ℕ) → Bool
has_hall_word words = list_any is_hall_word words

-- an image as it may be made: two URIs, and at most 24 words, none of which begins `hall.`
pub record IsImage (i : BootImage) : Type 0 where
  pub kernel : IsUri i.kernel
  pub initrd : IsUri i.initrd
  pub words : All IsWord i.args
  pub few : length i.args ≤ 24
  pub free : has_hall_word i.args ≡ false
