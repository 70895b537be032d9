-- Processor architectures (RFC 4578 section 2.1, and the registry of RFC 5970 section 3.3).
use Rattle.std.specs.{Prelude.{◌≡◌, ℕ, ◌+◌, ◌*◌, List, [], ◌∷◌, ◌++◌, Option, Some, None, ◌==◌, ◌||◌, ◌&&◌, if◌then◌else◌, codes, Bool, length, nat_le, slice_range, nat_eq}, Option.option_or, List.{AllByRecursion, starts_with, list_all}, Char.is_ascii_digit, Cmp.Lexicographic.pointwise}
use Rattle.pxe_vendor.specs.{Digits.decimal_value, declared.arch.{TheConstants.{DIGITS_START, DIGITS_END}, Arch.{Arch, TheVariants.{Bios, Uefi32, Uefi64, Arm64}}}}

-- the word of an architecture in texts
unfoldable pub arch_text : Arch → List ℕ
arch_text Bios = codes "bios"
arch_text Uefi32 = codes "uefi32"
arch_text Uefi64 = codes "uefi64"
arch_text Arm64 = codes "arm64"

-- the architecture that has this text as its word
unfoldable pub arch_in : List ℕ → Option Arch
arch_in text =
    if pointwise nat_eq text (arch_text Bios) then Some Bios
    else if pointwise nat_eq text (arch_text Uefi32) then Some Uefi32
    else if pointwise nat_eq text (arch_text Uefi64) then Some Uefi64
    else if pointwise nat_eq text (arch_text Arm64) then Some Arm64
    else None

-- the architecture that a number in option 93 or in a vendor class means (RFC 4578 section 2.1), where it is known here
abbrev pub arch_of_dhcp_number : ℕ → Option Arch
arch_of_dhcp_number n =
    if n == 0 then Some Bios
    else if n == 6 then Some Uefi32
    else if (n == 7) || (n == 9) then Some Uefi64
    else if n == 11 then Some Arm64
    else None

-- the numbers that pairs of octets are, the high octet first; a last octet without its pair is ignored
abbrev pub numbers_of : List ℕ → List ℕ
numbers_of [] = []
numbers_of (last ∷ []) = []
numbers_of (high ∷ low ∷ octets) = (256 * high + low) ∷ numbers_of octets

-- a vendor class begins with `PXEClient:Arch:` and five digits, as in `PXEClient:Arch:xxxxx:UNDI:yyyzzz` (PXE 2.1)
abbrev pub names_arch : List ℕ → Bool
names_arch class =
    starts_with nat_eq class (codes "PXEClient:Arch:") && nat_le DIGITS_END (length class) && list_all is_ascii_digit (slice_range class DIGITS_START DIGITS_END)

-- the number of an architecture in a vendor class, if it has one
abbrev pub class_numbers : List ℕ → List ℕ
class_numbers class = if names_arch class then decimal_value (slice_range class DIGITS_START DIGITS_END) ∷ [] else []

-- the architecture that the first number with a known one means
unfoldable pub first_known : List ℕ → Option Arch
first_known [] = None
first_known (n ∷ ns) = option_or (arch_of_dhcp_number n) (first_known ns)

-- one of the numbers means this architecture, and the numbers before it mean none that is known
pub record FirstKnown (numbers : List ℕ) (arch : Arch) : Type 0 where
  pub before : List ℕ
  pub number : ℕ
  pub after : List ℕ
  pub whole : numbers ≡ before ++ number ∷ after
  pub unknown : AllByRecursion (λ n. arch_of_dhcp_number n ≡ None) before
  pub known : arch_of_dhcp_number number ≡ Some arch
