use Rattle.std.{proofs.{Common.{◌≡◌, ◌≤◌, ◌++◌, ℕ, List, length, sym, subst, arith}, lemmas.Grind.common_steps}, specs.Prelude.{string_bytes, codes}}
use Rattle.pxe_vendor.{specs.{MacText.mac_text, MacLaws.IsMacText-mac_text}, proofs.FileLemmas.{IsNamed, IsNamed-script_url, length-script_url}}
use Rattle.pxe_vendor.proofs.file.script_url.Goals as goal

pub returns-clause-named : goal.returns-clause-named
returns-clause-named c =
    let mac = c.args.mac.now in
    let six : length mac ≡ 6 = omega arith in
    let same : string_bytes c.push_mac.new.text ≡ codes "http://" ++ c.args.place.now.host ++ codes "/ipxe/" ++ mac_text mac = grind (arith, common_steps) in
    subst (λ (x : List ℕ). IsNamed x) (sym same) (IsNamed-script_url c.args.place.now.host mac (mac_text mac) c.host.ensures.host (IsMacText-mac_text mac six (λ k. c.fits-mac k)))

pub returns-clause-short : goal.returns-clause-short
returns-clause-short c =
    let mac = c.args.mac.now in
    let six : length mac ≡ 6 = omega arith in
    let same : string_bytes c.push_mac.new.text ≡ codes "http://" ++ c.args.place.now.host ++ codes "/ipxe/" ++ mac_text mac = grind (arith, common_steps) in
    subst (λ (x : List ℕ). length x ≤ 127) (sym same) (length-script_url c.args.place.now.host mac (mac_text mac) c.host.ensures.host (IsMacText-mac_text mac six (λ k. c.fits-mac k)))
