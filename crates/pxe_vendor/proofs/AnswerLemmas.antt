-- A reply's fields and options are those of the answer.
use Rattle.std.{proofs.{Common.{◌≡◌, ◌<◌, ◌≤◌, ℕ, length, List, [], ◌∷◌, Some, None, ap, ◌∙◌, refl, subst, arith}, lemmas.List.Elements.All-from_recursion}, specs.Prelude.{◌↔◌, map, codes, Any, All}}
use Rattle.dhcp_frame.specs.{Area.Entry, Reply.{Reply, reply_of, entry_of, area_octets}, declared.reply.{ReplyFields.ReplyFields, DhcpOption.DhcpOption}}
use Rattle.pxe_vendor.specs.{Answer.{answer_options, answer_type, vendor_tags}, Place.Site, declared.clients.Client.Client}

pub reply_of-same : (f : ReplyFields) (os : List DhcpOption) (r : Reply) → reply_of f [] ≡ record r { options = [] } → map entry_of os ≡ r.options → reply_of f os ≡ r
reply_of-same f os r fields options =
    ap (λ (x : Reply). record x { options = map entry_of os }) fields ∙ ap (λ (es : List Entry). record r { options = es }) options

-- the options that each answer has are those of the answer to this client
pub record AreAnswers (client : Client) (site : Site) (kind server class vendor : DhcpOption) : Type 0 where
  pub type : entry_of kind ≡ (53, answer_type client.kind ∷ [])
  pub address : entry_of server ≡ (54, site.server)
  pub pxe : entry_of class ≡ (60, codes "PXEClient")
  pub area : entry_of vendor ≡ (43, area_octets (vendor_tags client.item))

pub options-with_identifier : (client : Client) (site : Site) (kind server class identifier vendor : DhcpOption) (octets : List ℕ) → AreAnswers client site kind server class vendor → entry_of identifier ≡ (97, octets) → client.echo97 ≡ Some octets → map entry_of (kind ∷ server ∷ class ∷ identifier ∷ vendor ∷ []) ≡ answer_options client site
options-with_identifier client site kind server class identifier vendor octets are given is = rw (is, are.type, are.address, are.pxe, given, are.area)

pub options-without_identifier : (client : Client) (site : Site) (kind server class vendor : DhcpOption) → AreAnswers client site kind server class vendor → client.echo97 ≡ None → map entry_of (kind ∷ server ∷ class ∷ vendor ∷ []) ≡ answer_options client site
options-without_identifier client site kind server class vendor are is = rw (is, are.type, are.address, are.pxe, are.area)

-- ---- the identifier is the one value that may be long

pub record AreShort (kind server class vendor : DhcpOption) : Type 0 where
  pub type : length kind.value.now ≤ 255
  pub address : length server.value.now ≤ 255
  pub pxe : length class.value.now ≤ 255
  pub area : length vendor.value.now ≤ 255

-- all values are short just if the identifier is
pub all_short : (kind server class identifier vendor : DhcpOption) → AreShort kind server class vendor → All (λ o. length o.value.now ≤ 255) (kind ∷ server ∷ class ∷ identifier ∷ vendor ∷ []) ↔ (length identifier.value.now ≤ 255)
all_short kind server class identifier vendor are =
    let each = All-from_recursion (λ (o : DhcpOption). length o.value.now ≤ 255) (kind ∷ server ∷ class ∷ identifier ∷ vendor ∷ []) in
    (λ all. all 3 identifier (omega arith), λ short. each (are.type, (are.address, (are.pxe, (short, (are.area, tt))))))

-- all values are short where there is no identifier
pub all_short-without : (kind server class vendor : DhcpOption) → AreShort kind server class vendor → All (λ o. length o.value.now ≤ 255) (kind ∷ server ∷ class ∷ vendor ∷ [])
all_short-without kind server class vendor are =
    All-from_recursion (λ (o : DhcpOption). length o.value.now ≤ 255) (kind ∷ server ∷ class ∷ vendor ∷ []) (are.type, (are.address, (are.pxe, (are.area, tt))))

pub none_long : (kind server class vendor : DhcpOption) → AreShort kind server class vendor → Any (λ o. 255 < length o.value.now) (kind ∷ server ∷ class ∷ vendor ∷ []) → ⊥
none_long kind server class vendor are some =
    let here : length some.1.value.now ≤ 255 = subst (λ (o : DhcpOption). length o.value.now ≤ 255) some.3 (all_short-without kind server class vendor are some.0 some.1 some.2) in
    let long = some.4 in
    omega arith

-- some value is long just if the identifier is
pub any_long : (kind server class identifier vendor : DhcpOption) → AreShort kind server class vendor → Any (λ o. 255 < length o.value.now) (kind ∷ server ∷ class ∷ identifier ∷ vendor ∷ []) ↔ (255 < length identifier.value.now)
any_long kind server class identifier vendor are =
    let all = (all_short kind server class identifier vendor are).1 in
    let not_short : Any (λ (o : DhcpOption). 255 < length o.value.now) (kind ∷ server ∷ class ∷ identifier ∷ vendor ∷ []) → length identifier.value.now ≤ 255 → 1 ≤ 0 =
    λ some short. let here : length some.1.value.now ≤ 255 = subst (λ (o : DhcpOption). length o.value.now ≤ 255) some.3 (all short some.0 some.1 some.2) in let long = some.4 in omega arith in
    (λ some. grind (arith, not_short some), λ long. (3, identifier, omega arith, refl, long))
