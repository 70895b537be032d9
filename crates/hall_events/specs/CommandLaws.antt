-- Laws of commands' texts, for the proofs of callers: a text is that of one command alone.
use Rattle.std.{proofs.{Common.{◌≡◌, ◌<◌, ◌^◌, ℕ, Bool, false, List, [], ◌∷◌, ◌++◌, Option, Some, None, refl, sym, ap, ◌∙◌, inl, arith}, lemmas.List.get_or_default}, specs.{Prelude.{codes, map, unwrap_or, if◌then◌else◌, option_map}, List.AllByRecursion, Result.result_unwrap_or, Str.bytes_eq}}
use Rattle.hex.{specs.Hex.{IsBytes, decode_of, encode_lower, encode_with}, proofs.HexLemmas.decode_of-encode_lower}
use Rattle.uuid.{specs.Text.{lower, parsed}, proofs.RoundTrips.parses_hyphenated}
use Rattle.pxe_vendor.specs.{MacText.mac_text, Arch.arch_text, declared.arch.Arch.{Arch, TheVariants.{Bios}}}
use Rattle.serde_json.specs.{Data.{Data, string, boolean}, Find.get}
use Rattle.hall_types.specs.{Act.{act_text, acts}, Kinds.{archs, with_text, role_text, role_of_text, erase_text}, KindLaws.role_by_text, Number.IsNumber, Octets.AreOctets, declared.kinds.{Role.{Role, TheVariants.Admin}, Erase.{Erase, TheVariants.{Quick, Full}}}}
use Rattle.hall_types.specs.declared.act.Act.TheVariants as does
use Rattle.hall_events.specs.{Object.{Member, member_if, count}, ObjectLaws.{IsPlain, IsPlain-object, ItemsArePlain-texts, value_in, value_in-compact_text, text_in, texts_in, texts_of-texts, number_in}, Command.{command_data, command_text, request_data, machine_kind, members_of, own_members, uuid_data, IsCommand, IsMachineCommand, kind_word, machine_word}, declared.command.{HallCommand.{HallCommand, TheVariants.{AddOperator, DisableOperator, AddPool, Grant, AddImage, DeleteImage, SetLive, AddMachine, OnMachine}}, MachineCommand.{MachineCommand, TheVariants.{AddInterface, RemoveInterface, SetPool, Commission, Delete, Deploy, Release, Act}}}}

-- ---- commands are plain values

pub number_fits : (n : ℕ) → IsNumber n → n < 2 ^ 64
number_fits n h = omega arith

ArePlain : List Member → Type 0
ArePlain ms = AllByRecursion (λ m. IsPlain m.1 1) ms

uuid_plain : (uuid : Option (List ℕ)) → ArePlain (member_if (codes "uuid") (option_map uuid_data uuid))
unfolding ArePlain
uuid_plain None = tt
uuid_plain (Some uuid) = (tt, tt)

own_plain : (c : MachineCommand) (more : List Member) → ArePlain more → ArePlain (own_members c ++ more)
unfolding ArePlain
own_plain Delete more h = h
own_plain (Act a) more h = h
own_plain (Release (Some Full)) more h = (tt, h)
own_plain c more h = (tt, h)

members_plain : (c : HallCommand) → IsCommand c → ArePlain (members_of c)
unfolding members_of ArePlain
members_plain (AddOperator operator role digest) h = (tt, (tt, (tt, (tt, tt))))
members_plain (Grant pool operator) h = (tt, (tt, (tt, tt)))
members_plain (AddImage image) h = (tt, (tt, (ItemsArePlain-texts image.args 0, (tt, (tt, (tt, tt))))))
members_plain (AddMachine mac a pool uuid) h = (tt, (tt, (tt, (tt, uuid_plain uuid))))
members_plain (OnMachine machine None c) h = (tt, (number_fits machine h.0, own_plain c [] tt))
members_plain (OnMachine machine (Some version) c) h =
    (tt, (number_fits machine h.0, own_plain c ((codes "version", count version) ∷ []) (number_fits version h.1, tt)))
members_plain other h = (tt, (tt, tt))

pub IsPlain-command : (c : HallCommand) → IsCommand c → IsPlain (command_data c) 2
unfolding ArePlain
IsPlain-command c h = IsPlain-object (members_of c) 1 (members_plain c h)

-- so is a command with the key of its request
pub IsPlain-request : (key : List ℕ) (c : HallCommand) → IsCommand c → IsPlain (request_data key c) 2
unfolding ArePlain
IsPlain-request key c h = IsPlain-object ((codes "key", uuid_data key) ∷ members_of c) 1 (tt, members_plain c h)

-- ---- a command from its value

abbrev truth_in : Option Data → Bool
truth_in (Some (boolean b)) = b
truth_in other = false

abbrev erase_in : Option Data → Option Erase
erase_in (Some (boolean b)) = if b then Some Full else None
erase_in other = Some Quick

abbrev uuid_in : Option Data → Option (List ℕ)
uuid_in (Some (string text)) = parsed text
uuid_in other = None

uuid_in-text : (octets : List ℕ) → AreOctets 16 octets → uuid_in (Some (uuid_data octets)) ≡ Some octets
uuid_in-text octets h = sym (parses_hyphenated lower octets (inl refl) h.0 (λ i d below. rw (get_or_default octets i d 0 below) (h.1 i)))

octets_in : List ℕ → List ℕ
octets_in text = result_unwrap_or (decode_of text) []

octets_in-encode_lower : (octets : List ℕ) → IsBytes octets → octets_in (encode_lower octets) ≡ octets
unfolding octets_in
octets_in-encode_lower octets h = rw (decode_of-encode_lower octets h) refl

-- the digits of an address, without what stands after every two
without_colons : List ℕ → List ℕ
without_colons (high ∷ low ∷ colon ∷ rest) = high ∷ low ∷ without_colons rest
without_colons other = other

without_colons-mac_text : (octets : List ℕ) → without_colons (mac_text octets) ≡ encode_lower octets
unfolding without_colons encode_with
without_colons-mac_text [] = refl
without_colons-mac_text (octet ∷ []) = refl
without_colons-mac_text (octet ∷ next ∷ octets) = ap (λ rest. encode_lower (octet ∷ []) ++ rest) (without_colons-mac_text (next ∷ octets))

mac_in : List ℕ → List ℕ
mac_in text = octets_in (without_colons text)

mac_in-mac_text : (octets : List ℕ) → AreOctets 6 octets → mac_in (mac_text octets) ≡ octets
unfolding mac_in
mac_in-mac_text octets h = ap octets_in (without_colons-mac_text octets) ∙ octets_in-encode_lower octets h.1

arch_in : List ℕ → Arch
arch_in text = unwrap_or (with_text arch_text text archs) Bios

arch_in-arch_text : (a : Arch) → arch_in (arch_text a) ≡ a
unfolding arch_in arch_text
arch_in-arch_text Bios = refl
arch_in-arch_text other = refl

role_in : List ℕ → Role
role_in text = unwrap_or (role_of_text text) Admin

role_in-role_text : (r : Role) → role_in (role_text r) ≡ r
unfolding role_in
role_in-role_text r = ap (λ o. unwrap_or o Admin) ((role_by_text (role_text r) r).1 refl)

-- the commands on a machine that may have these members
machine_commands : Data → List MachineCommand
machine_commands d =
    let mac = mac_in (text_in (get (codes "mac") d)) in
    AddInterface mac
    ∷ RemoveInterface mac
    ∷ SetPool (text_in (get (codes "pool") d))
    ∷ Commission (truth_in (get (codes "tests") d))
    ∷ Deploy (text_in (get (codes "image") d))
    ∷ Release (erase_in (get (codes "erase") d))
    ∷ map Act acts

machine_command_in : List ℕ → Data → MachineCommand
machine_command_in name d = unwrap_or (with_text (λ c. machine_word (machine_kind c)) name (machine_commands d)) Delete

-- the command with these members and this name
command_in : List ℕ → Data → HallCommand
command_in name d =
    let operator = text_in (get (codes "operator") d) in
    let pool = text_in (get (codes "pool") d) in
    let image = text_in (get (codes "image") d) in
    let arch = arch_in (text_in (get (codes "arch") d)) in
    if bytes_eq name (codes "add_operator") then AddOperator operator (role_in (text_in (get (codes "role") d))) (octets_in (text_in (get (codes "digest") d)))
    else if bytes_eq name (codes "disable_operator") then DisableOperator operator
    else if bytes_eq name (codes "add_pool") then AddPool pool
    else if bytes_eq name (codes "grant") then Grant pool operator
    else if bytes_eq name (codes "add_image") then AddImage record {
      name = image;
      arch = arch;
      kernel = text_in (get (codes "kernel") d);
      initrd = text_in (get (codes "initrd") d);
      args = texts_in (get (codes "args") d);
    }
    else if bytes_eq name (codes "delete_image") then DeleteImage image
    else if bytes_eq name (codes "set_live") then SetLive image
    else if bytes_eq name (codes "add_machine") then AddMachine (mac_in (text_in (get (codes "mac") d))) arch pool (uuid_in (get (codes "uuid") d))
    else OnMachine (unwrap_or (number_in (get (codes "machine") d)) 0) (number_in (get (codes "version") d)) (machine_command_in name d)

command_of : Data → HallCommand
command_of d = command_in (text_in (get (codes "command") d)) d

-- a command on a machine is found, with a version or without
on_machine : (machine : ℕ) (version : Option ℕ) (c : MachineCommand) → IsMachineCommand c → command_of (command_data (OnMachine machine version c)) ≡ OnMachine machine version c
unfolding command_of command_in machine_command_in machine_commands members_of kind_word machine_word act_text erase_text
on_machine machine None (AddInterface mac) h = rw (mac_in-mac_text mac h) refl
on_machine machine (Some version) (AddInterface mac) h = rw (mac_in-mac_text mac h) refl
on_machine machine None (RemoveInterface mac) h = rw (mac_in-mac_text mac h) refl
on_machine machine (Some version) (RemoveInterface mac) h = rw (mac_in-mac_text mac h) refl
on_machine machine None (Release (Some Full)) h = refl
on_machine machine (Some version) (Release (Some Full)) h = refl
on_machine machine None (Act does.Test) h = refl
on_machine machine None c h = refl
on_machine machine (Some version) (Act does.Test) h = refl
on_machine machine (Some version) c h = refl

command_of-command_data : (c : HallCommand) → IsCommand c → command_of (command_data c) ≡ c
unfolding command_of command_in members_of kind_word
command_of-command_data (AddOperator operator r digest) h = rw (role_in-role_text r, octets_in-encode_lower digest h.1) refl
command_of-command_data (AddImage image) h = rw (arch_in-arch_text image.arch, texts_of-texts image.args) refl
command_of-command_data (AddMachine mac a pool None) h = rw (arch_in-arch_text a, mac_in-mac_text mac h.0) refl
command_of-command_data (AddMachine mac a pool (Some uuid)) h = rw (arch_in-arch_text a, mac_in-mac_text mac h.0, uuid_in-text uuid h.1) refl
command_of-command_data (OnMachine machine version c) h = on_machine machine version c h.2
command_of-command_data other h = refl

-- ---- a command from its text

found : (c : HallCommand) → IsCommand c → command_of (value_in (command_text c)) ≡ c
unfolding command_text
found c h = ap command_of (value_in-compact_text (command_data c) 2 (IsPlain-command c h) (omega arith)) ∙ command_of-command_data c h

-- commands with equal texts are equal
pub one_command : (c d : HallCommand) → IsCommand c → IsCommand d → command_text c ≡ command_text d → c ≡ d
one_command c d hc hd e = sym (found c hc) ∙ ap (λ (text : List ℕ). command_of (value_in text)) e ∙ found d hd
