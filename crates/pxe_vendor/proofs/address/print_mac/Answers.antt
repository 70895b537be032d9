use Rattle.std.{proofs.Common.{◌≡◌, ◌∙◌, ◌++◌, ap, List, ℕ, length, sym, subst, arith}, specs.Prelude.string_bytes}
use Rattle.pxe_vendor.specs.{MacText.{IsMacText, mac_text}, MacLaws.IsMacText-mac_text}
use Rattle.pxe_vendor.proofs.address.print_mac.Goals as goal

pub returns-clause-read : goal.returns-clause-read
returns-clause-read c =
    let address = c.args.address.now in
    let six : length address ≡ 6 = omega arith in
    let text : string_bytes c.push_mac.new.text ≡ mac_text address = c.in_ok-push_mac.ensures ∙ ap (λ (t : List ℕ). t ++ mac_text address) c.in_ok-text.ensures.bytes in
    subst (λ (x : List ℕ). IsMacText x address) (sym text) (IsMacText-mac_text address six (λ k. c.fits-address k))
