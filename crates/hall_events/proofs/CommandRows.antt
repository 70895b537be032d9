-- Worked texts of commands, written out by hand.
use Rattle.std.{proofs.Common.{◌≡◌, ℕ, true, List, [], ◌∷◌, Some, None, refl}, specs.{Prelude.{⊤, codes}, Fmt.digits}}
use Rattle.hex.proofs.OnLiterals.{hex_on_literals}
use Rattle.uuid.proofs.OnLiterals.{uuid_on_literals}
use Rattle.json.specs.Print.{escape_byte}
use Rattle.pxe_vendor.specs.{Arch.arch_text, declared.arch.Arch.TheVariants.{Bios, Uefi64}}
use Rattle.hall_types.specs.{Kinds.{role_text, erase_text}, declared.kinds.{Role.TheVariants.Power, Erase.TheVariants.{Quick, Full}}}
use Rattle.hall_events.specs.{Command.{command_text, members_of, kind_word, machine_word}, declared.command.{HallCommand.TheVariants.{AddOperator, AddPool, AddImage, AddMachine, OnMachine}, MachineCommand.TheVariants.{Commission, Deploy, Release}}}

unfoldable texts_on_literals : ⊤
unfolding command_text members_of kind_word machine_word escape_byte digits hex_on_literals uuid_on_literals arch_text role_text erase_text
texts_on_literals = tt

mac : List ℕ
mac = 82 ∷ 84 ∷ 0 ∷ 18 ∷ 52 ∷ 86 ∷ []

uuid : List ℕ
uuid = 0 ∷ 17 ∷ 34 ∷ 51 ∷ 68 ∷ 85 ∷ 102 ∷ 119 ∷ 136 ∷ 153 ∷ 170 ∷ 187 ∷ 204 ∷ 221 ∷ 238 ∷ 255 ∷ []

-- the SHA-256 of `hello`
digest : List ℕ
digest =
    44 ∷ 242 ∷ 77 ∷ 186 ∷ 95 ∷ 176 ∷ 163 ∷ 14 ∷ 38 ∷ 232 ∷ 59 ∷ 42 ∷ 197 ∷ 185 ∷ 226 ∷ 158 ∷ 27 ∷ 22 ∷ 30 ∷ 92 ∷ 31 ∷ 167 ∷ 66 ∷ 94 ∷ 115 ∷ 4 ∷ 51 ∷ 98 ∷ 147 ∷ 139 ∷ 152 ∷ 36 ∷ []

operator_is_added :
    command_text (AddOperator (codes "ann") Power digest) ≡
    codes "{\"command\":\"add_operator\",\"digest\":\"2cf24dba5fb0a30e26e83b2ac5b9e29e1b161e5c1fa7425e73043362938b9824\",\"operator\":\"ann\",\"role\":\"power\"}"
unfolding texts_on_literals digest
operator_is_added = refl

pool_is_added :
    command_text (AddPool (codes "lab")) ≡
    codes "{\"command\":\"add_pool\",\"pool\":\"lab\"}"
unfolding texts_on_literals
pool_is_added = refl

image_is_added :
    command_text (AddImage (record { name = codes "live64"; arch = Uefi64; kernel = codes "http://a/k"; initrd = codes "http://a/i"; args = codes "quiet" ∷ codes "a=b" ∷ [] })) ≡
    codes "{\"arch\":\"uefi64\",\"args\":[\"quiet\",\"a=b\"],\"command\":\"add_image\",\"image\":\"live64\",\"initrd\":\"http://a/i\",\"kernel\":\"http://a/k\"}"
unfolding texts_on_literals
image_is_added = refl

machine_is_added :
    command_text (AddMachine mac Uefi64 (codes "lab") None) ≡
    codes "{\"arch\":\"uefi64\",\"command\":\"add_machine\",\"mac\":\"52:54:00:12:34:56\",\"pool\":\"lab\"}"
unfolding texts_on_literals mac
machine_is_added = refl

machine_is_added_with_uuid :
    command_text (AddMachine mac Bios (codes "lab") (Some uuid)) ≡
    codes "{\"arch\":\"bios\",\"command\":\"add_machine\",\"mac\":\"52:54:00:12:34:56\",\"pool\":\"lab\",\"uuid\":\"00112233-4455-6677-8899-aabbccddeeff\"}"
unfolding texts_on_literals mac uuid
machine_is_added_with_uuid = refl

machine_is_commissioned :
    command_text (OnMachine 1 None (Commission true)) ≡
    codes "{\"command\":\"commission\",\"machine\":1,\"tests\":true}"
unfolding texts_on_literals
machine_is_commissioned = refl

machine_is_commissioned_at_version :
    command_text (OnMachine 1000000000000000 (Some 12) (Commission true)) ≡
    codes "{\"command\":\"commission\",\"machine\":1000000000000000,\"tests\":true,\"version\":12}"
unfolding texts_on_literals
machine_is_commissioned_at_version = refl

machine_is_deployed_at_version :
    command_text (OnMachine 1 (Some 12) (Deploy (codes "jammy"))) ≡
    codes "{\"command\":\"deploy\",\"image\":\"jammy\",\"machine\":1,\"version\":12}"
unfolding texts_on_literals
machine_is_deployed_at_version = refl

machine_is_released_quickly :
    command_text (OnMachine 1 None (Release (Some Quick))) ≡
    codes "{\"command\":\"release\",\"erase\":\"quick\",\"machine\":1}"
unfolding texts_on_literals
machine_is_released_quickly = refl

machine_is_released_and_erased :
    command_text (OnMachine 1 None (Release (Some Full))) ≡
    codes "{\"command\":\"release\",\"erase\":true,\"machine\":1}"
unfolding texts_on_literals
machine_is_released_and_erased = refl

machine_is_released_alone :
    command_text (OnMachine 1 None (Release None)) ≡
    codes "{\"command\":\"release\",\"erase\":false,\"machine\":1}"
unfolding texts_on_literals
machine_is_released_alone = refl
