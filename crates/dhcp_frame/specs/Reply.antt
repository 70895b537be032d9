-- A server's reply (RFC 2131 section 2): its fields and options, and its octets.
use Rattle.std.specs.{Prelude.{◌≢◌, ℕ, ◌-◌, ◌==◌, List, [], ◌∷◌, ◌++◌, length, map, replicate}, List.{flat_map, before_first, AllByRecursion}}
use Rattle.byteorder.specs.Endian.{big_bytes}
use Rattle.dhcp_frame.specs.{Area.Entry, Message.file_area, declared.{layout.TheConstants.{YIADDR, SIADDR, SNAME, FILE, COOKIE, BOOT_REPLY, ETHERNET, ETHERNET_LEN, MAGIC_COOKIE}, option_codes.TheConstants.{PAD, END}, reply.{TheConstants.MIN_REPLY_LEN, ReplyFields.ReplyFields, DhcpOption.DhcpOption}}}

-- the code and the value of an option
abbrev pub entry_of : DhcpOption → Entry
entry_of o = (o.code, o.value.now)

-- this many zero octets
abbrev pub zeros : ℕ → List ℕ
zeros n = replicate n 0

-- a reply: the fields that differ between replies, and the options
pub record Reply : Type 0 where
  pub xid : ℕ
  pub flags : ℕ
  pub ciaddr : List ℕ
  pub siaddr : List ℕ
  pub giaddr : List ℕ
  pub chaddr : List ℕ
  pub file : List ℕ
  pub options : List Entry

-- the reply with these fields and options
abbrev pub reply_of : ReplyFields → List DhcpOption → Reply
reply_of f os = record {
  xid = f.xid;
  flags = f.flags;
  ciaddr = f.ciaddr;
  siaddr = f.siaddr;
  giaddr = f.giaddr;
  chaddr = f.chaddr;
  file = f.file.now;
  options = map entry_of os;
}

-- op, htype, hlen, hops 0, xid, secs 0, flags
abbrev pub start_octets : ℕ → ℕ → List ℕ
start_octets xid flags = BOOT_REPLY ∷ ETHERNET ∷ ETHERNET_LEN ∷ 0 ∷ big_bytes 4 xid ++ 0 ∷ 0 ∷ big_bytes 2 flags

-- ciaddr, yiaddr 0, siaddr, giaddr, chaddr
abbrev pub address_octets : List ℕ → List ℕ → List ℕ → List ℕ → List ℕ
address_octets ciaddr siaddr giaddr chaddr = ciaddr ++ zeros (SIADDR - YIADDR) ++ siaddr ++ giaddr ++ chaddr

-- sname 0, the file filled up with zeros, and the cookie
abbrev pub name_octets : List ℕ → List ℕ
name_octets file = zeros (FILE - SNAME) ++ file ++ zeros (COOKIE - FILE - length file) ++ MAGIC_COOKIE

-- the octets before the options
abbrev pub header_octets : Reply → List ℕ
header_octets r =
    start_octets r.xid r.flags ++ address_octets r.ciaddr r.siaddr r.giaddr r.chaddr ++ name_octets r.file

-- an option's code, length and value
abbrev pub option_octets : Entry → List ℕ
option_octets e = e.0 ∷ length e.1 ∷ e.1

-- options, and the end octet
abbrev pub area_octets : List Entry → List ℕ
area_octets es = flat_map option_octets es ++ END ∷ []

-- octets filled up with zeros to the minimum that a BOOTP client takes (RFC 1542 section 2.1)
abbrev pub padded : List ℕ → List ℕ
padded octets = octets ++ zeros (MIN_REPLY_LEN - length octets)

-- the octets of a reply
unfoldable pub reply_octets : Reply → List ℕ
reply_octets r = padded (header_octets r ++ area_octets r.options)

-- the code is neither that of padding nor that of the end
abbrev pub HasCode : Entry → Type 0
HasCode e = (e.0 ≢ PAD) × (e.0 ≢ END)

-- each has the code of an option
abbrev pub AreOptions : List Entry → Type 0
AreOptions es = AllByRecursion HasCode es

-- the name in a message's file field, which the first zero octet ends
abbrev pub file_name : List ℕ → List ℕ
file_name octets = before_first (λ octet. octet == 0) (file_area octets)
