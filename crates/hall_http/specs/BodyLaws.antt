-- Laws of bodies: the text of a request with a command has at most 16,384 octets, and the desk reads it as that command
-- with that key.
use Rattle.std.{proofs.{Common.{◌≡◌, ◌≤◌, lit≤, ℕ, true, false, List, [], ◌∷◌, Option, Some, None, map, length, refl, sym, ap, ◌∙◌, inl, arith, append-nil}, lemmas.{Bool.{le-leb, not-true}, List.{get_or_default, Elements.recursion_from_All}, Str.is_utf8-from_IsUtf8}}, specs.{Prelude.{codes, option_and_then, option_map, if◌then◌else◌, IfSome, IsTrue}, List.AllByRecursion, Str.is_utf8}}
use Rattle.json.specs.Json as json
use Rattle.pxe_vendor.specs.Arch.{arch_text}
use Rattle.hall_types.specs.{Kinds.{role_text, erase_text, outcome_text}, Act.act_text}
use Rattle.hall_types.specs.declared.kinds.Erase.TheVariants as erase
use Rattle.hall_types.specs.declared.act.Act.TheVariants as does
use Rattle.hall_events.specs.{Object.count, Command.{request_text, members_of, kind_with_word, kind_word, machine_word}}
use Rattle.hall_events.specs.declared.command.HallCommand.TheVariants as hall
use Rattle.hall_events.specs.declared.command.MachineCommand.TheVariants as act
use Rattle.hall_events.specs.declared.command.CommandKind.TheVariants as kind
use Rattle.hall_events.specs.declared.command.MachineKind.TheVariants as done
use Rattle.hex.proofs.HexLemmas.{decode_sized-encode_lower}
use Rattle.uuid.proofs.RoundTrips.{parses_hyphenated}
use Rattle.json.specs.Print.{escape_byte}
use Rattle.json.proofs.Printed.{Utf8.IsUtf8-are_ascii, Tokens.tokens-print, Trees.{value-json_tokens, ArePrintable-json_tokens}}
use Rattle.serde_json.proofs.{Numbers.number_of-decimal, Texts.print-outline}
use Rattle.hall_events.specs.{ObjectLaws.{IsPlain, IsPlain-object, numbers, shallow}, CommandLaws.{IsPlain-request, number_fits}}
use Rattle.hall_http.specs.{Prelude.{encode_lower, lower, parsed, hyphenated_text, mac_text, mac_of, IsMacText-mac_text, mac_of-from_IsMacText, arch_in-arch_text, is_blank, Token, json_tokens, Data, string, read, of_json, of_items, max_depth, items_of, compact_text, outline, items_outline, IsWord, IsUri, BootImage, IsImage, role_of_text, role_by_text, outcome_by_text, Outcome, Done, Failed, IsName, name_of, unless_blank, IsNumber, number_in, AreOctets, octets_of_text, Role, member_if, command_member, own_members, uuid_data, request_data, machine_kind, IsCommand, IsMachineCommand, HallCommand, MachineCommand, CommandKind, MachineKind}, Command.{HasNames, HasParts, IsSendableCommand, answer_text, is_sole, outcome_data, outcome_in, command_in, command_of, fits_kind, is_identified, keyed_command, kind_at, machine_command, on_machine}, Member.{key_at, number_at, outcome_at, version_at}, SizeLaws.{member_size, total, object_fits, total-append, text_fits, count_fits, truth_fits, name_fits, uri_fits, uuid_fits, mac_fits, digest_fits, arch_fits, role_fits, args_fit}, Steps.◌>>=◌, Value.{uri_of, words_of, image_of, uuid_of_text}}

-- ---- the value of a text

-- a plain value's text is read as what its outline says
read-compact_text : (d : Data) (levels : ℕ) → IsPlain d levels → levels ≤ max_depth → read (compact_text d) ≡ of_json (outline d)
read-compact_text d levels h few =
    ap (λ (text : List ℕ). read text) (sym (print-outline d))
    ∙ ap (λ (ts : List Token). option_and_then of_json (option_and_then (λ p. json.if_last p.0 p.1) (json.value max_depth ts)))
    (tokens-print (json_tokens (outline d)) (ArePrintable-json_tokens (outline d) (numbers d levels h)) ∙ sym (append-nil (json_tokens (outline d))))
    ∙ ap (λ o. option_and_then of_json (option_and_then (λ p. json.if_last p.0 p.1) o))
    (value-json_tokens (outline d) max_depth [] (at_most (shallow d levels h) few))
  where
    at_most : {a b c : ℕ} → a ≤ b → b ≤ c → a ≤ c
    at_most h g = omega arith

-- ---- what members mean

key_is : (key : List ℕ) → AreOctets 16 key → parsed (hyphenated_text lower key) ≡ Some key
key_is key h = sym (parses_hyphenated lower key (inl refl) h.0 (λ i d below. rw (get_or_default key i d 0 below) (h.1 i)))

mac_is : (mac : List ℕ) → AreOctets 6 mac → mac_of (mac_text mac) ≡ Some mac
mac_is mac h = mac_of-from_IsMacText (mac_text mac) mac (IsMacText-mac_text mac h.0 h.1)

digest_is : (digest : List ℕ) → AreOctets 32 digest → octets_of_text 32 (encode_lower digest) ≡ Some digest
digest_is digest h = rw (decode_sized-encode_lower digest 32 h.0 h.1) refl

name_is : (name : List ℕ) → IsName name → name_of name ≡ Some name
name_is name h = rw h refl

uri_is : (uri : List ℕ) → IsUri uri → uri_of uri ≡ Some uri
uri_is uri h = rw h refl

pub number_is : (n : ℕ) → IsNumber n → number_in n ≡ Some n
number_is n h = rw (le-leb 1 n h.0, le-leb n 1000000000000000 h.1) refl

role_is : (r : Role) → role_of_text (role_text r) ≡ Some r
role_is r = (role_by_text (role_text r) r).1 refl

uuid_is : (uuid : List ℕ) → AreOctets 16 uuid → is_blank uuid ≡ false → uuid_of_text (hyphenated_text lower uuid) ≡ Some uuid
uuid_is uuid h some = ap (λ o. o >>= unless_blank) (key_is uuid h) ∙ kept
  where
    kept : unless_blank uuid ≡ Some uuid
    kept = rw some refl

words_are : (words : List (List ℕ)) → AllByRecursion IsWord words → words_of (items_of (map string words)) ≡ Some words
words_are [] h = refl
words_are (word ∷ words) h = rw (h.0, words_are words h.1) refl

items_are : (words : List (List ℕ)) → of_items (items_outline (items_of (map string words))) ≡ Some (items_of (map string words))
items_are [] = refl
items_are (word ∷ words) = rw (items_are words) refl

image_is : (i : BootImage) → IsImage i → image_of i ≡ Some i
image_is i h = rw (le-leb (length i.args) 24 h.few, h.free) refl

-- ---- the commands

-- an object with a kind's members, its key and its command
keyed : (json : Data) (k : CommandKind) (key : List ℕ) (c : HallCommand) → kind_at json ≡ Some k → fits_kind k json ≡ true
    → key_at json ≡ Some key → command_of k json ≡ Some c → keyed_command json ≡ Some (record { key = key; command = c })
unfolding keyed_command
keyed json k key c by_kind fits by_key by_command = rw (by_kind, fits, by_key, by_command) refl

-- the value is found in its outline, and is that of a request with this key and this command
record IsRead (json : Data) (number : List ℕ) (c : HallCommand) : Type 0 where
  found : of_json (outline json) ≡ Some json
  said : keyed_command json ≡ Some (record { key = number; command = c })

-- what is done to a machine, with the machine and its version
on_machine_is : (json : Data) (k : MachineKind) (n : ℕ) (version : Option ℕ) (c : MachineCommand) → number_at (codes "machine") json ≡ Some n
    → version_at json ≡ Some version → machine_command k json ≡ Some c → on_machine k json ≡ Some (hall.OnMachine n version c)
on_machine_is json k n version c by_number by_version by_act = rw (by_number, by_version, by_act) refl

act_is : (json : Data) (key : List ℕ) (n : ℕ) (version : Option ℕ) (c : MachineCommand) → of_json (outline json) ≡ Some json
    → kind_at json ≡ Some (kind.OnMachine (machine_kind c)) → fits_kind (kind.OnMachine (machine_kind c)) json ≡ true → key_at json ≡ Some key
    → number_at (codes "machine") json ≡ Some n → version_at json ≡ Some version → machine_command (machine_kind c) json ≡ Some c
    → IsRead json key (hall.OnMachine n version c)
unfolding command_of
act_is json key n version c found by_kind fits by_key by_number by_version by_act = record {
  found = found;
  said = keyed json (kind.OnMachine (machine_kind c)) key (hall.OnMachine n version c) by_kind fits by_key
      (on_machine_is json (machine_kind c) n version c by_number by_version by_act);
}

-- with no version
act_reads : (key : List ℕ) (n : ℕ) (c : MachineCommand) → AreOctets 16 key → IsNumber n → IsMachineCommand c → HasNames c
    → IsRead (request_data key (hall.OnMachine n None c)) key (hall.OnMachine n None c)
unfolding members_of kind_with_word kind_word machine_word act_text machine_command erase_text
act_reads key n (act.AddInterface mac) k h w p =
    act_is _ key n None (act.AddInterface mac) (rw (number_of-decimal n (number_fits n h)) refl) refl refl (key_is key k) (number_is n h) refl (rw (mac_is mac w) refl)
act_reads key n (act.RemoveInterface mac) k h w p =
    act_is _ key n None (act.RemoveInterface mac) (rw (number_of-decimal n (number_fits n h)) refl) refl refl (key_is key k) (number_is n h) refl (rw (mac_is mac w) refl)
act_reads key n (act.SetPool pool) k h w p =
    act_is _ key n None (act.SetPool pool) (rw (number_of-decimal n (number_fits n h)) refl) refl refl (key_is key k) (number_is n h) refl (rw (name_is pool p) refl)
act_reads key n (act.Deploy image) k h w p =
    act_is _ key n None (act.Deploy image) (rw (number_of-decimal n (number_fits n h)) refl) refl refl (key_is key k) (number_is n h) refl (rw (name_is image p) refl)
act_reads key n (act.Release (Some erase.Full)) k h w p =
    act_is _ key n None (act.Release (Some erase.Full)) (rw (number_of-decimal n (number_fits n h)) refl) refl refl (key_is key k) (number_is n h) refl refl
act_reads key n (act.Act does.Test) k h w p =
    act_is _ key n None (act.Act does.Test) (rw (number_of-decimal n (number_fits n h)) refl) refl refl (key_is key k) (number_is n h) refl refl
act_reads key n c k h w p =
    act_is _ key n None c (rw (number_of-decimal n (number_fits n h)) refl) refl refl (key_is key k) (number_is n h) refl refl

-- with a version
act_reads_at : (key : List ℕ) (n v : ℕ) (c : MachineCommand) → AreOctets 16 key → IsNumber n → IsNumber v → IsMachineCommand c → HasNames c
    → IsRead (request_data key (hall.OnMachine n (Some v) c)) key (hall.OnMachine n (Some v) c)
unfolding members_of kind_with_word kind_word machine_word act_text machine_command erase_text
act_reads_at key n v (act.AddInterface mac) k h g w p =
    act_is _ key n (Some v) (act.AddInterface mac) (rw (number_of-decimal n (number_fits n h), number_of-decimal v (number_fits v g)) refl) refl refl (key_is key k) (number_is n h) (ap (option_map Some) (number_is v g)) (rw (mac_is mac w) refl)
act_reads_at key n v (act.RemoveInterface mac) k h g w p =
    act_is _ key n (Some v) (act.RemoveInterface mac) (rw (number_of-decimal n (number_fits n h), number_of-decimal v (number_fits v g)) refl) refl refl (key_is key k) (number_is n h) (ap (option_map Some) (number_is v g)) (rw (mac_is mac w) refl)
act_reads_at key n v (act.SetPool pool) k h g w p =
    act_is _ key n (Some v) (act.SetPool pool) (rw (number_of-decimal n (number_fits n h), number_of-decimal v (number_fits v g)) refl) refl refl (key_is key k) (number_is n h) (ap (option_map Some) (number_is v g)) (rw (name_is pool p) refl)
act_reads_at key n v (act.Deploy image) k h g w p =
    act_is _ key n (Some v) (act.Deploy image) (rw (number_of-decimal n (number_fits n h), number_of-decimal v (number_fits v g)) refl) refl refl (key_is key k) (number_is n h) (ap (option_map Some) (number_is v g)) (rw (name_is image p) refl)
act_reads_at key n v (act.Release (Some erase.Full)) k h g w p =
    act_is _ key n (Some v) (act.Release (Some erase.Full)) (rw (number_of-decimal n (number_fits n h), number_of-decimal v (number_fits v g)) refl) refl refl (key_is key k) (number_is n h) (ap (option_map Some) (number_is v g)) refl
act_reads_at key n v (act.Act does.Test) k h g w p =
    act_is _ key n (Some v) (act.Act does.Test) (rw (number_of-decimal n (number_fits n h), number_of-decimal v (number_fits v g)) refl) refl refl (key_is key k) (number_is n h) (ap (option_map Some) (number_is v g)) refl
act_reads_at key n v c k h g w p =
    act_is _ key n (Some v) c (rw (number_of-decimal n (number_fits n h), number_of-decimal v (number_fits v g)) refl) refl refl (key_is key k) (number_is n h) (ap (option_map Some) (number_is v g)) refl

-- each command
command_reads : (key : List ℕ) (c : HallCommand) → AreOctets 16 key → IsCommand c → HasParts c → IsTrue (is_identified c) → IsRead (request_data key c) key c
unfolding members_of kind_with_word kind_word command_of machine_word act_text
command_reads key (hall.AddOperator operator role digest) k w p i = record {
  found = refl;
  said = keyed _ kind.AddOperator key _ refl refl (key_is key k) (rw (name_is operator p, role_is role, digest_is digest w) refl);
}
command_reads key (hall.DisableOperator operator) k w p i = record {
  found = refl;
  said = keyed _ kind.DisableOperator key _ refl refl (key_is key k) (rw (name_is operator p) refl);
}
command_reads key (hall.AddPool pool) k w p i = record {
  found = refl;
  said = keyed _ kind.AddPool key _ refl refl (key_is key k) (rw (name_is pool p) refl);
}
command_reads key (hall.Grant pool operator) k w p i = record {
  found = refl;
  said = keyed _ kind.Grant key _ refl refl (key_is key k) (rw (name_is pool p.0, name_is operator p.1) refl);
}
command_reads key (hall.AddImage image) k w p i = record {
  found = rw (items_are image.args) refl;
  said =
      keyed _ kind.AddImage key _ refl refl (key_is key k)
      (rw (name_is image.name p.0, arch_in-arch_text image.arch, uri_is image.kernel p.1.kernel, uri_is image.initrd p.1.initrd, words_are image.args (recursion_from_All IsWord image.args p.1.words), image_is image p.1) refl);
}
command_reads key (hall.DeleteImage image) k w p i = record {
  found = refl;
  said = keyed _ kind.DeleteImage key _ refl refl (key_is key k) (rw (name_is image p) refl);
}
command_reads key (hall.SetLive image) k w p i = record {
  found = refl;
  said = keyed _ kind.SetLive key _ refl refl (key_is key k) (rw (name_is image p) refl);
}
command_reads key (hall.AddMachine mac arch pool None) k w p i = record {
  found = refl;
  said = keyed _ kind.AddMachine key _ refl refl (key_is key k) (rw (mac_is mac w.0, arch_in-arch_text arch, name_is pool p) refl);
}
command_reads key (hall.AddMachine mac arch pool (Some uuid)) k w p i = record {
  found = refl;
  said = keyed _ kind.AddMachine key _ refl refl (key_is key k) (rw (mac_is mac w.0, arch_in-arch_text arch, name_is pool p, uuid_is uuid w.1 (not-true (is_blank uuid) i)) refl);
}
command_reads key (hall.OnMachine n None c) k w p i = act_reads key n c k w.0 w.2 p
command_reads key (hall.OnMachine n (Some v) c) k w p i = act_reads_at key n v c k w.0 w.1 w.2 p

-- ---- sizes

-- the word of each command is short
machine_word_fits : (k : MachineKind) → length (machine_word k) ≤ 64
unfolding machine_word act_text
machine_word_fits (done.Act does.Test) = lit≤ tt
machine_word_fits k = lit≤ tt

kind_word_fits : (k : CommandKind) → length (kind_word k) ≤ 64
unfolding kind_word
kind_word_fits (kind.OnMachine k) = machine_word_fits k
kind_word_fits k = lit≤ tt

own_fits : (c : MachineCommand) → IsMachineCommand c → HasNames c → total (own_members c) ≤ 1000
unfolding erase_text
own_fits (act.AddInterface mac) w p = omega (arith, text_fits (codes "mac") (mac_text mac) 64 (lit≤ tt) (mac_fits mac w))
own_fits (act.RemoveInterface mac) w p = omega (arith, text_fits (codes "mac") (mac_text mac) 64 (lit≤ tt) (mac_fits mac w))
own_fits (act.SetPool pool) w p = omega (arith, text_fits (codes "pool") pool 32 (lit≤ tt) (name_fits pool p))
own_fits (act.Commission tests) w p = omega (arith, truth_fits (codes "tests") tests (lit≤ tt))
own_fits (act.Deploy image) w p = omega (arith, text_fits (codes "image") image 32 (lit≤ tt) (name_fits image p))
own_fits (act.Release None) w p = omega (arith, truth_fits (codes "erase") false (lit≤ tt))
own_fits (act.Release (Some erase.Full)) w p = omega (arith, truth_fits (codes "erase") true (lit≤ tt))
own_fits (act.Release (Some erase.Quick)) w p = omega (arith, text_fits (codes "erase") (codes "quick") 5 (lit≤ tt) (lit≤ tt))
own_fits c w p = lit≤ tt

version_fits : (version : Option ℕ) → IfSome version IsNumber → total (member_if (codes "version") (option_map count version)) ≤ 68
version_fits None h = lit≤ tt
version_fits (Some v) h = omega (arith, count_fits (codes "version") v (lit≤ tt) h)

uuid_member_fits : (uuid : Option (List ℕ)) → total (member_if (codes "uuid") (option_map uuid_data uuid)) ≤ 500
uuid_member_fits None = lit≤ tt
uuid_member_fits (Some uuid) = omega (arith, text_fits (codes "uuid") (hyphenated_text lower uuid) 64 (lit≤ tt) (uuid_fits uuid))

kind_fits : (k : CommandKind) → member_size (command_member k) ≤ 438
kind_fits k = text_fits (codes "command") (kind_word k) 64 (lit≤ tt) (kind_word_fits k)

members_fit : (c : HallCommand) → IsCommand c → HasParts c → total (members_of c) ≤ 8000
unfolding members_of
members_fit (hall.AddOperator operator role digest) w p =
    omega (
      arith,
      kind_fits kind.AddOperator,
      text_fits (codes "digest") (encode_lower digest) 64 (lit≤ tt) (digest_fits digest w),
      text_fits (codes "operator") operator 32 (lit≤ tt) (name_fits operator p),
      text_fits (codes "role") (role_text role) 64 (lit≤ tt) (role_fits role),
    )
members_fit (hall.DisableOperator operator) w p =
    omega (arith, kind_fits kind.DisableOperator, text_fits (codes "operator") operator 32 (lit≤ tt) (name_fits operator p))
members_fit (hall.AddPool pool) w p = omega (arith, kind_fits kind.AddPool, text_fits (codes "pool") pool 32 (lit≤ tt) (name_fits pool p))
members_fit (hall.Grant pool operator) w p =
    omega (
      arith,
      kind_fits kind.Grant,
      text_fits (codes "operator") operator 32 (lit≤ tt) (name_fits operator p.1),
      text_fits (codes "pool") pool 32 (lit≤ tt) (name_fits pool p.0),
    )
members_fit (hall.AddImage image) w p =
    omega (
      arith,
      kind_fits kind.AddImage,
      text_fits (codes "arch") (arch_text image.arch) 64 (lit≤ tt) (arch_fits image.arch),
      args_fit image.args (recursion_from_All IsWord image.args p.1.words) p.1.few,
      text_fits (codes "image") image.name 32 (lit≤ tt) (name_fits image.name p.0),
      text_fits (codes "initrd") image.initrd 128 (lit≤ tt) (uri_fits image.initrd p.1.initrd),
      text_fits (codes "kernel") image.kernel 128 (lit≤ tt) (uri_fits image.kernel p.1.kernel),
    )
members_fit (hall.DeleteImage image) w p = omega (arith, kind_fits kind.DeleteImage, text_fits (codes "image") image 32 (lit≤ tt) (name_fits image p))
members_fit (hall.SetLive image) w p = omega (arith, kind_fits kind.SetLive, text_fits (codes "image") image 32 (lit≤ tt) (name_fits image p))
members_fit (hall.AddMachine mac arch pool uuid) w p =
    omega (
      arith,
      kind_fits kind.AddMachine,
      text_fits (codes "arch") (arch_text arch) 64 (lit≤ tt) (arch_fits arch),
      text_fits (codes "mac") (mac_text mac) 64 (lit≤ tt) (mac_fits mac w.0),
      text_fits (codes "pool") pool 32 (lit≤ tt) (name_fits pool p),
      uuid_member_fits uuid,
    )
members_fit (hall.OnMachine machine version c) w p =
    omega (
      arith,
      kind_fits (kind.OnMachine (machine_kind c)),
      count_fits (codes "machine") machine (lit≤ tt) w.0,
      own_fits c w.2 p,
      total-append (own_members c) (member_if (codes "version") (option_map count version)),
      version_fits version w.1,
    )

-- the text of a request with a command is short
pub short-request_text : (key : List ℕ) (c : HallCommand) → IsCommand c → HasParts c → length (request_text key c) ≤ 16384
unfolding request_text
short-request_text key c w p =
    omega (
      arith,
      object_fits ((codes "key", uuid_data key) ∷ members_of c),
      text_fits (codes "key") (hyphenated_text lower key) 64 (lit≤ tt) (uuid_fits key),
      members_fit c w p,
    )

-- ---- the text of a request

-- the desk reads the text of a command's request as the command with its key
pub command_in-request_text : (key : List ℕ) (c : HallCommand) → IsSendableCommand key c → command_in (request_text key c) ≡ Some (record { key = key; command = c })
unfolding command_in request_text
command_in-request_text key c h =
    let reads = command_reads key c h.sixteen h.whole h.parts h.identity in
    ap (λ o. o >>= keyed_command)
    (ap (λ o. option_and_then (λ text. read text) o) is_text
    ∙ read-compact_text (request_data key c) 2 (IsPlain-request key c h.whole) (omega arith) ∙ reads.found)
    ∙ reads.said
  where
    is_text : (if is_utf8 (request_text key c) then Some (request_text key c) else None) ≡ Some (request_text key c)
    is_text = rw (is_utf8-from_IsUtf8 (request_text key c) h.text) refl

-- ---- the answer to an order

word_fits : (outcome : Outcome) → length (outcome_text outcome) ≤ 6
unfolding outcome_text
word_fits Done = lit≤ tt
word_fits Failed = lit≤ tt

-- its body is short
pub short-answer_text : (outcome : Outcome) → length (answer_text outcome) ≤ 16384
unfolding answer_text
short-answer_text outcome =
    omega (
      arith,
      object_fits ((codes "outcome", string (outcome_text outcome)) ∷ []),
      text_fits (codes "outcome") (outcome_text outcome) 6 (lit≤ tt) (word_fits outcome),
    )

-- what the object of an answer says
abbrev outcome_of : Data → Option Outcome
outcome_of json = if is_sole (codes "outcome") json then outcome_at json else None

outcome_is : (outcome : Outcome) → outcome_of (outcome_data outcome) ≡ Some outcome
outcome_is outcome = (outcome_by_text (outcome_text outcome) outcome).1 refl

answer_is_utf8 : (outcome : Outcome) → is_utf8 (answer_text outcome) ≡ true
unfolding answer_text outcome_text escape_byte
answer_is_utf8 Done = is_utf8-from_IsUtf8 (answer_text Done) (IsUtf8-are_ascii (answer_text Done) refl)
answer_is_utf8 Failed = is_utf8-from_IsUtf8 (answer_text Failed) (IsUtf8-are_ascii (answer_text Failed) refl)

answer_is_text : (outcome : Outcome) → (if is_utf8 (answer_text outcome) then Some (answer_text outcome) else None) ≡ Some (answer_text outcome)
answer_is_text outcome = rw (answer_is_utf8 outcome) refl

answer_is_plain : (outcome : Outcome) → IsPlain (outcome_data outcome) 1
answer_is_plain outcome = IsPlain-object ((codes "outcome", string (outcome_text outcome)) ∷ []) 0 (tt, tt)

-- the desk reads the body of an order's answer as the outcome
pub outcome_in-answer_text : (outcome : Outcome) → outcome_in (answer_text outcome) ≡ Some outcome
unfolding outcome_in answer_text
outcome_in-answer_text outcome =
    ap (λ o. o >>= outcome_of)
    (ap (λ o. option_and_then (λ text. read text) o) (answer_is_text outcome)
    ∙ read-compact_text (outcome_data outcome) 1 (answer_is_plain outcome) (omega arith))
    ∙ outcome_is outcome
