-- A client's DHCP message (RFC 2131 section 2): its fields, and its options in order.
use Rattle.std.specs.Prelude.{◌≡◌, ◌≤◌, ℕ, Bool, true, false, List, [], ◌++◌, drop, length, Some, slice_index, slice_range}
use Rattle.byteorder.specs.Endian.{big_number}
use Rattle.dhcp_frame.specs.{Area.{Entry, Reads, value_of}, Overload.overload_of, declared.{overload.Overload.Overload, option_codes.TheConstants.OVERLOAD, layout.TheConstants.{OP, HTYPE, HLEN, XID, SECS, FLAGS, CIADDR, YIADDR, GIADDR, CHADDR, SNAME, FILE, COOKIE, OPTIONS, BOOT_REQUEST, ETHERNET, ETHERNET_LEN, MAGIC_COOKIE}}}

-- a message: the fields that are read, and the options in order
pub record Message : Type 0 where
  pub xid : ℕ
  pub flags : ℕ
  pub ciaddr : List ℕ
  pub giaddr : List ℕ
  pub chaddr : List ℕ
  pub entries : List Entry

-- ---- the fields that hold options

-- the server name field
abbrev pub sname_area : List ℕ → List ℕ
sname_area octets = slice_range octets SNAME FILE

-- the file field
abbrev pub file_area : List ℕ → List ℕ
file_area octets = slice_range octets FILE COOKIE

-- the options field after its cookie
abbrev pub options_area : List ℕ → List ℕ
options_area octets = drop OPTIONS octets

-- the message with the fields of these octets and with these options
abbrev pub message_of : List ℕ → List Entry → Message
message_of octets entries = record {
  xid = big_number 4 (slice_range octets XID SECS);
  flags = big_number 2 (slice_range octets FLAGS CIADDR);
  ciaddr = slice_range octets CIADDR YIADDR;
  giaddr = slice_range octets GIADDR CHADDR;
  chaddr = slice_range octets CHADDR SNAME;
  entries = entries;
}

-- the octets begin with the header and the cookie of a client's message over Ethernet (RFC 2131 sections 2 and 3)
pub record HasHeader (octets : List ℕ) : Type 0 where
  pub long : OPTIONS ≤ length octets
  pub request : slice_index octets OP ≡ BOOT_REQUEST
  pub ethernet : slice_index octets HTYPE ≡ ETHERNET
  pub six : slice_index octets HLEN ≡ ETHERNET_LEN
  pub cookie : slice_range octets COOKIE OPTIONS ≡ MAGIC_COOKIE

-- an area that is in use holds these options, and an area that isn't gives none
abbrev pub ReadsIf : Bool → List ℕ → List Entry → Type 0
ReadsIf true area entries = Reads area entries
ReadsIf false area entries = entries ≡ []

-- The octets are a frame that carries this message. Its options are those of the options field, and then
-- those of the file field and of the server name field where option 52 of the options field names them.
pub record IsFrame (octets : List ℕ) (message : Message) : Type 0 where
  pub header : HasHeader octets
  pub own : List Entry
  pub overload : Overload
  pub in_file : List Entry
  pub in_sname : List Entry
  pub reads_own : Reads (options_area octets) own
  pub overloads : overload_of (value_of OVERLOAD own) ≡ Some overload
  pub reads_file : ReadsIf overload.file (file_area octets) in_file
  pub reads_sname : ReadsIf overload.sname (sname_area octets) in_sname
  pub whole : message ≡ message_of octets (own ++ in_file ++ in_sname)
