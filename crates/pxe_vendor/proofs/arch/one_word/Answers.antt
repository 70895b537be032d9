use Rattle.std.proofs.Common.{ap, ◌∙◌}
use Rattle.pxe_vendor.specs.{Arch.arch_in, ArchLaws.{arch_in-arch_text, arch_text-from_arch_in}}
use Rattle.pxe_vendor.proofs.arch.one_word.Goals as goal

pub returns : goal.returns
returns c = λ text arch. (λ is. ap arch_in is ∙ arch_in-arch_text arch, arch_text-from_arch_in text arch)
