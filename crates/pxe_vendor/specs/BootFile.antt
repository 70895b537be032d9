-- The boot file for a client.
use Rattle.std.specs.Prelude.{List, ℕ, ◌++◌, codes, if◌then◌else◌}
use Rattle.pxe_vendor.specs.{MacText.mac_text, Place.Site, declared.{arch.Arch.{Arch, TheVariants.{Bios, Uefi32, Uefi64, Arm64}}, clients.Client.Client}}

-- the loader of an architecture: iPXE, built for it
unfoldable pub loader_file : Arch → List ℕ
loader_file Bios = codes "undionly.kpxe"
loader_file Uefi32 = codes "ipxe-i386.efi"
loader_file Uefi64 = codes "ipxe-x86_64.efi"
loader_file Arm64 = codes "ipxe-arm64.efi"

-- the URL of the script for a machine with this Ethernet address
abbrev pub script_url : List ℕ → List ℕ → List ℕ
script_url host mac = codes "http://" ++ host ++ codes "/ipxe/" ++ mac_text mac

-- the boot file for iPXE is its script, and that for any other client is the loader of its architecture
abbrev pub boot_file_of : Client → Site → List ℕ
boot_file_of client site = if client.ipxe then script_url site.host client.mac else loader_file client.arch
