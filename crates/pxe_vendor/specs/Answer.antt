-- The answer to a client: an OFFER to a DISCOVER, an ACK to a REQUEST (PXE 2.1; RFC 2131 section 4.3).
use Rattle.std.specs.Prelude.{ℕ, List, [], ◌∷◌, ◌++◌, Option, Some, None, codes}
use Rattle.dhcp_frame.specs.{Area.Entry, Message.Message, Reply.{Reply, area_octets, zeros}, declared.option_codes.TheConstants.{MESSAGE_TYPE, SERVER_IDENTIFIER, VENDOR_CLASS, MACHINE_IDENTIFIER, VENDOR_OPTIONS}}
use Rattle.pxe_vendor.specs.{Place.Site, declared.{numbers.TheConstants.{OFFER, ACK, DISCOVERY_CONTROL, USE_BOOT_FILE, BOOT_ITEM}, clients.{Kind.{Kind, TheVariants.{Discover, Request}}, Client.Client}}}

-- the message type of the answer (RFC 2132 section 9.6)
abbrev pub answer_type : Kind → ℕ
answer_type Discover = OFFER
answer_type Request = ACK

-- the ciaddr field of the answer: the client's own in an ACK, 0 in an OFFER (RFC 2131 section 4.3.1)
abbrev pub answer_ciaddr : Kind → List ℕ → List ℕ
answer_ciaddr Discover ciaddr = zeros 4
answer_ciaddr Request ciaddr = ciaddr

-- an option with this code and value, if there is a value
abbrev pub option_if : ℕ → Option (List ℕ) → List Entry
option_if code None = []
option_if code (Some value) = (code, value) ∷ []

-- the vendor options: the client loads the boot file that the answer names, and gets back the boot item that it asked for
abbrev pub vendor_tags : Option (List ℕ) → List Entry
vendor_tags item = (DISCOVERY_CONTROL, USE_BOOT_FILE ∷ []) ∷ option_if BOOT_ITEM item

-- the message type, the boot server, the vendor class, the client's machine identifier, and the vendor options
abbrev pub answer_options : Client → Site → List Entry
answer_options client site =
    (MESSAGE_TYPE, answer_type client.kind ∷ [])
    ∷ (SERVER_IDENTIFIER, site.server)
    ∷ (VENDOR_CLASS, codes "PXEClient")
    ∷ option_if MACHINE_IDENTIFIER client.echo97 ++ (VENDOR_OPTIONS, area_octets (vendor_tags client.item)) ∷ []

-- the answer to a message that this client sent, with this boot file
abbrev pub answer_to : Message → Client → Site → List ℕ → Reply
answer_to m client site file = record {
  xid = m.xid;
  flags = m.flags;
  ciaddr = answer_ciaddr client.kind m.ciaddr;
  siaddr = site.next;
  giaddr = m.giaddr;
  chaddr = m.chaddr;
  file = file;
  options = answer_options client site;
}
