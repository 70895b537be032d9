-- Identifying the client that sent a message, up to the first cause not to serve it: the program for `IsClient`.
use Rattle.std.specs.{Prelude.{◌≡◌, ◌⊎◌, ℕ, List, [], ◌∷◌, Option, Some, None, Result, Ok, Err, MatchResult, ok_or, unwrap_or, ◌++◌, take, ◌==◌, if◌then◌else◌, codes, nat_eq}, List.starts_with, Option.option_map}
use Rattle.dhcp_frame.specs.{Area.{reading, value_of}, Message.Message, declared.option_codes.TheConstants.{USER_CLASS, MACHINE_IDENTIFIER}}
use Rattle.pxe_vendor.specs.{declared.{numbers.TheConstants.{DISCOVER, REQUEST}, arch.Arch.Arch, clients.{Kind.{Kind, TheVariants.{Discover, Request}}, Client.Client}, values.Values.Values, serve.NotServed.{NotServed, TheVariants.{NoType, OtherType, NotPxe, NoArch, BadVendor, Memory}}}, Arch.{numbers_of, class_numbers, first_known}, Client.{uuid_of, is_ipxe, boot_item}, Values.values_of}

-- a step, and then another one, up to the first cause
infixl 10 ◌>>=◌
abbrev pub ◌>>=◌ : {A B : Type 0} → Result A NotServed → (A → Result B NotServed) → Result B NotServed
(Ok x) >>= f = f x
(Err cause) >>= f = Err cause

-- the kind of message that option 53 means
unfoldable pub kind_of : Option (List ℕ) → Result Kind NotServed
kind_of (Some (n ∷ [])) = if n == DISCOVER then Ok Discover else if n == REQUEST then Ok Request else Err OtherType
kind_of value = Err NoType

-- the vendor class of a PXE client
unfoldable pub class_of : Option (List ℕ) → Result (List ℕ) NotServed
class_of None = Err NotPxe
class_of (Some class) = if starts_with nat_eq class (codes "PXEClient") then Ok class else Err NotPxe

-- the boot item in option 43
unfoldable pub item_of : Kind → Option (List ℕ) → Result (Option (List ℕ)) NotServed
item_of Discover area = Ok None
item_of Request None = Ok None
item_of Request (Some area) = ok_or (option_map boot_item (reading area)) BadVendor

-- the kind, the architecture and the boot item in joined values, or the first cause not to serve
unfoldable pub decided : Values → Result (Kind × Arch × Option (List ℕ)) NotServed
decided v = do
  kind ← kind_of v.message_type
  class ← class_of v.class
  arch ← ok_or (first_known (numbers_of (unwrap_or v.architectures []) ++ class_numbers class)) NoArch
  item ← item_of kind v.vendor
  Ok (kind, arch, item)

-- the client that sent a message, or the first cause not to serve it
unfoldable pub client_of : Message → Result Client NotServed
client_of m = do
  (kind, arch, item) ← decided (values_of m.entries)
  Ok (record {
    mac = take 6 m.chaddr;
    kind = kind;
    arch = arch;
    uuid = uuid_of (value_of MACHINE_IDENTIFIER m.entries);
    echo97 = value_of MACHINE_IDENTIFIER m.entries;
    item = item;
    ipxe = is_ipxe (value_of USER_CLASS m.entries);
  })

-- a result is this, unless memory ran out
abbrev pub Answers : {X : Type 0} → Result X NotServed → Result X NotServed → Type 0
Answers result is = MatchResult result (λ x. is ≡ Ok x) (λ cause. (cause ≡ Memory) ⊎ (is ≡ Err cause))
