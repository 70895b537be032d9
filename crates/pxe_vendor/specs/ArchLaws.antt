-- Laws of the words of architectures: each is the word of one architecture.
use Rattle.std.{specs.{Prelude.{◌≡◌, ℕ, Bool, true, false, List, Option, Some, if◌then◌else◌, nat_eq}, Cmp.Lexicographic.{pointwise, bytes_decides}}, proofs.{Common.{refl, ap, ◌∙◌, None}, lemmas.Option.same_Some}}
use Rattle.pxe_vendor.specs.{Arch.{arch_text, arch_in}, declared.arch.Arch.{Arch, TheVariants.{Bios, Uefi32, Uefi64, Arm64}}}

-- each architecture's word is read as that architecture
pub arch_in-arch_text : (arch : Arch) → arch_in (arch_text arch) ≡ Some arch
unfolding arch_in arch_text
arch_in-arch_text Bios = refl
arch_in-arch_text other = refl

-- one test of a word, and then the others
arch_at : (text : List ℕ) (here arch : Arch) (others : Option Arch) → (others ≡ Some arch → text ≡ arch_text arch) → (if pointwise nat_eq text (arch_text here) then Some here else others) ≡ Some arch → text ≡ arch_text arch
arch_at text here arch others rest e = by (pointwise nat_eq text (arch_text here)) refl e
  where
    by : (b : Bool) → pointwise nat_eq text (arch_text here) ≡ b → (if b then Some here else others) ≡ Some arch → text ≡ arch_text arch
    by true t e = (bytes_decides text (arch_text here)).0 t ∙ ap arch_text (same_Some here arch e)
    by false t e = rest e

-- no other text is read as an architecture
pub arch_text-from_arch_in : (text : List ℕ) (arch : Arch) → arch_in text ≡ Some arch → text ≡ arch_text arch
unfolding arch_in
arch_text-from_arch_in text arch e =
    arch_at text Bios arch _ (arch_at text Uefi32 arch _ (arch_at text Uefi64 arch _ (arch_at text Arm64 arch None (λ none. cc)))) e
