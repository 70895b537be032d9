-- The PXE client that sent a DHCP message (PXE 2.1; RFC 4578; RFC 3004).
use Rattle.std.specs.{Prelude.{◌≡◌, ℕ, Bool, false, List, [], ◌∷◌, ◌++◌, Option, Some, None, unwrap_or, take, length, ◌==◌, ◌&&◌, ◌||◌, not, if◌then◌else◌, codes, nat_eq}, Cmp.Lexicographic.pointwise}
use Rattle.dhcp_frame.specs.{Area.{Entry, Reads, value_of}, Message.Message, declared.option_codes.TheConstants.{VENDOR_OPTIONS, MESSAGE_TYPE, VENDOR_CLASS, USER_CLASS, CLIENT_ARCHITECTURES, MACHINE_IDENTIFIER}}
use Rattle.pxe_vendor.specs.{declared.{numbers.TheConstants.{DISCOVER, REQUEST, BOOT_ITEM, BOOT_ITEM_LEN, UUID_LEN, UUID_TYPE}, clients.{Kind.{Kind, TheVariants.{Discover, Request}}, Client.Client}}, Arch.{numbers_of, class_numbers, FirstKnown}, Blank.is_blank}

-- the type of a client's message (RFC 2132 section 9.6)
abbrev pub message_type : Kind → ℕ
message_type Discover = DISCOVER
message_type Request = REQUEST

-- the numbers of architectures in a message: those of option 93, and then that of the vendor class
abbrev pub arch_numbers : List Entry → List ℕ
arch_numbers es = numbers_of (unwrap_or (value_of CLIENT_ARCHITECTURES es) []) ++ class_numbers (unwrap_or (value_of VENDOR_CLASS es) [])

-- the UUID in option 97: after type 0, 16 octets that are not all 0 and not all 255 (RFC 4578 section 2.3)
abbrev pub uuid_of : Option (List ℕ) → Option (List ℕ)
uuid_of (Some (kind ∷ octets)) =
    if not (kind == UUID_TYPE) || is_blank octets then None
    else if length octets == UUID_LEN then Some octets
    else None
uuid_of (Some []) = None
uuid_of None = None

-- option 77 is `iPXE`, as a bare text or as a user class after its length (RFC 3004 section 4)
abbrev pub is_ipxe : Option (List ℕ) → Bool
is_ipxe None = false
is_ipxe (Some class) = pointwise nat_eq class (codes "iPXE") || pointwise nat_eq class (4 ∷ codes "iPXE")

-- the value of the first PXE_BOOT_ITEM of four octets (PXE 2.1)
abbrev pub boot_item : List Entry → Option (List ℕ)
boot_item [] = None
boot_item (tag ∷ tags) = if (tag.0 == BOOT_ITEM) && (length tag.1 == BOOT_ITEM_LEN) then Some tag.1 else boot_item tags

-- the boot item of a message is in option 43 of a REQUEST, an option area (RFC 2132 section 8.4); a DISCOVER has none
abbrev pub HasItem : Kind → Option (List ℕ) → Option (List ℕ) → Type 0
HasItem Discover area item = item ≡ None
HasItem Request None item = item ≡ None
HasItem Request (Some area) item = (tags : List Entry) × Reads area tags × (item ≡ boot_item tags)

-- this client sent the message
pub record IsClient (message : Message) (client : Client) : Type 0 where
  pub type : value_of MESSAGE_TYPE message.entries ≡ Some (message_type client.kind ∷ [])
  pub class : (more : List ℕ) × (value_of VENDOR_CLASS message.entries ≡ Some (codes "PXEClient" ++ more))
  pub arch : FirstKnown (arch_numbers message.entries) client.arch
  pub item : HasItem client.kind (value_of VENDOR_OPTIONS message.entries) client.item
  pub mac : client.mac ≡ take 6 message.chaddr
  pub uuid : client.uuid ≡ uuid_of (value_of MACHINE_IDENTIFIER message.entries)
  pub echo97 : client.echo97 ≡ value_of MACHINE_IDENTIFIER message.entries
  pub ipxe : client.ipxe ≡ is_ipxe (value_of USER_CLASS message.entries)
