-- Reading a frame up to its first fault: the program for `IsFrame`.
use Rattle.std.specs.{Cmp.Lexicographic.pointwise, Prelude.{ℕ, nat_eq, slice_range, Bool, true, false, List, [], ◌++◌, length, Result, Ok, Err, ok_or, nat_lt, not, ◌==◌, ◌&&◌, if◌then◌else◌, slice_index}}
use Rattle.dhcp_frame.specs.{Area.{Entry, reading, value_of}, Overload.overload_of, Message.{Message, message_of, options_area, file_area, sname_area}, declared.{layout.TheConstants.{OP, HTYPE, HLEN, COOKIE, OPTIONS, BOOT_REQUEST, ETHERNET, ETHERNET_LEN, MAGIC_COOKIE}, option_codes.TheConstants.OVERLOAD, fault.FrameFault.{FrameFault, TheVariants.{Short, NotRequest, NotEthernet, NoCookie, BadOverload, CutOption}}}}

-- a step, and then another one, up to the first fault
infixl 10 ◌>>=◌
abbrev pub ◌>>=◌ : {A B : Type 0} → Result A FrameFault → (A → Result B FrameFault) → Result B FrameFault
(Ok x) >>= f = f x
(Err fault) >>= f = Err fault

-- the options field begins with the cookie
unfoldable pub has_cookie : List ℕ → Bool
has_cookie octets = pointwise nat_eq (slice_range octets COOKIE OPTIONS) MAGIC_COOKIE

-- the first fault before the options, if there is one
unfoldable pub header : List ℕ → Result (Unit {0}) FrameFault
header octets =
    if nat_lt (length octets) OPTIONS then Err Short
    else if not (slice_index octets OP == BOOT_REQUEST) then Err NotRequest
    else if not ((slice_index octets HTYPE == ETHERNET) && (slice_index octets HLEN == ETHERNET_LEN)) then Err NotEthernet
    else if not (has_cookie octets) then Err NoCookie
    else Ok tt

-- the options of an area
abbrev pub options_in : List ℕ → Result (List Entry) FrameFault
options_in area = ok_or (reading area) CutOption

-- the options of an area if it is in use
abbrev pub options_if : Bool → List ℕ → Result (List Entry) FrameFault
options_if true area = options_in area
options_if false area = Ok []

-- the message that the octets carry, or their first fault
unfoldable pub understood : List ℕ → Result Message FrameFault
understood octets = do
  checked ← header octets
  own ← options_in (options_area octets)
  overload ← ok_or (overload_of (value_of OVERLOAD own)) BadOverload
  in_file ← options_if overload.file (file_area octets)
  in_sname ← options_if overload.sname (sname_area octets)
  Ok (message_of octets (own ++ in_file ++ in_sname))
