use Rattle.std.proofs.Common.{◌∙◌}
use Rattle.pxe_vendor.{specs.MacLaws.mac_of-from_IsMacText, proofs.MacLemmas.IfSome-mac_of}
use Rattle.pxe_vendor.proofs.address.read_mac.Goals as goal

pub returns-clause-address : goal.returns-clause-address
returns-clause-address c = IfSome-mac_of _ _ c.read_inner.ensures

pub returns-clause-only : goal.returns-clause-only
returns-clause-only c = λ octets is. c.read_inner.ensures ∙ mac_of-from_IsMacText _ octets is
