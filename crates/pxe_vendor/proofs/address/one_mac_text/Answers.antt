use Rattle.pxe_vendor.specs.MacLaws.{mac_of-from_IsMacText, IsMacText-from_mac_of}
use Rattle.pxe_vendor.proofs.address.one_mac_text.Goals as goal

pub returns : goal.returns
returns c = record { exact = λ text octets. (mac_of-from_IsMacText text octets, IsMacText-from_mac_of text octets) }
