-- The desk's words are words of a script.
use Rattle.std.{proofs.{Common.{◌≡◌, ◌≤◌, ◌/◌, ◌%◌, ◌++◌, ◌^◌, ◌<◌, ℕ, suc, true, List, [], ◌∷◌, length, slice_index, refl, ap, arith, append_assoc}, lemmas.{Bool.{agree_below_at, and_from, and_parts, leb-true}, List.Elements.All-from_recursion}}, specs.{Prelude.{All, Option, Some, codes, ◌&&◌, ◌||◌, ◌==◌, nat_le, IsTrue}, Char.is_ascii_alphanumeric, List.list_all, Fmt.decimal}}
use Rattle.hex.{specs.Hex.{encode_lower, encode_with, lower_digits}, proofs.HexLemmas.length-encode_with}
use Rattle.pxe_vendor.specs.{Place.{is_host, is_host_octet}, declared.arch.Arch.Arch}
use Rattle.pxe_vendor.specs.declared.arch.Arch.TheVariants as arch
use Rattle.ipxe_script.specs.{Script.{IsLine, IsScript, spelling}, ScriptLaws.IsScript-boot, declared.command.Command.TheVariants.{Kernel, Initrd, Boot, Sanboot, Exit}, Word.{IsWord, IsUri, AreWordOctets, is_word, is_first_octet, is_word_octet}, WordLaws.{IsWord-append, IsWord-append-decimal, AreWordOctets-host}}
use Rattle.hall_types.specs.{Hall.default_pool, Name.{IsName, is_name}, Kinds.{purpose_text, erase_text}, Octets.AreOctets, declared.kinds.{Purpose.Purpose, Erase.Erase}}
use Rattle.boot_desk.specs.Texts.{erase_argument, local_script, hold_script}
use Rattle.hall_types.specs.declared.kinds.Purpose.TheVariants as purpose
use Rattle.hall_types.specs.declared.kinds.Erase.TheVariants as erase

pub purpose_word : (p : Purpose) → IsWord (codes "hall.purpose=" ++ purpose_text p)
unfolding is_word is_first_octet is_word_octet purpose_text
purpose_word purpose.Commission = refl
purpose_word other = refl

pub erase_word : (e : Erase) → IsWord (codes "hall.erase=" ++ erase_text e)
unfolding is_word is_first_octet is_word_octet erase_text
erase_word erase.Quick = refl
erase_word erase.Full = refl

boot_start : IsWord (codes "hall.boot=")
unfolding is_word is_first_octet is_word_octet
boot_start = refl

pub boot_word : (n : ℕ) → n < 2 ^ 64 → IsWord (codes "hall.boot=" ++ decimal n)
boot_word n fits = IsWord-append-decimal (codes "hall.boot=") n boot_start fits (omega arith)

-- ---- digits

digit : (value : ℕ) → value < 16 → is_word_octet (slice_index lower_digits value) ≡ true
unfolding is_first_octet is_word_octet
digit value small = agree_below_at (λ (v : ℕ). is_word_octet (slice_index lower_digits v)) (λ (v : ℕ). true) 16 value refl small

digits : (octets : List ℕ) → ((i : ℕ) → slice_index octets i < 256) → AreWordOctets (encode_lower octets)
unfolding encode_with
digits [] small = refl
digits (octet ∷ octets) small =
    let first : octet < 256 = small 0 in
    and_from (is_word_octet (slice_index lower_digits (octet / 16))) _ (digit (octet / 16) (omega arith))
    (and_from (is_word_octet (slice_index lower_digits (octet % 16))) (list_all is_word_octet (encode_with lower_digits octets)) (digit (octet % 16) (omega arith)) (digits octets (λ i. small (suc i))))

token_start : IsWord (codes "hall.token=")
unfolding is_word is_first_octet is_word_octet
token_start = refl

pub token_word : (octets : List ℕ) → AreOctets 16 octets → IsWord (codes "hall.token=" ++ encode_lower octets)
token_word octets are =
    let long = length-encode_with lower_digits octets in
    IsWord-append (codes "hall.token=") (encode_lower octets) token_start (digits octets are.1) (omega (arith, long, are.0))

-- ---- hosts

desk_start : IsWord (codes "hall.desk=http://")
unfolding is_word is_first_octet is_word_octet
desk_start = refl

first_of_host : (octet : ℕ) → is_ascii_alphanumeric octet ≡ true → is_host_octet octet ≡ true
first_of_host octet h = ap (λ b. b || (octet == 45) || (octet == 46) || (octet == 58)) h

-- a host has few octets, each of which may stand in a word
host_octets : (host : List ℕ) → IsTrue (is_host host) → AreWordOctets host × (length host ≤ 64)
unfolding is_host
host_octets [] is = cc
host_octets (first ∷ others) is =
    let both_parts = and_parts (is_ascii_alphanumeric first && nat_le (length (first ∷ others)) 64) (list_all is_host_octet others) is in
    let start = and_parts (is_ascii_alphanumeric first) (nat_le (length (first ∷ others)) 64) both_parts.0 in (
      AreWordOctets-host (first ∷ others) (and_from (is_host_octet first) (list_all is_host_octet others) (first_of_host first start.0) both_parts.1),
      leb-true (length (first ∷ others)) 64 start.1,
    )

pub desk_word : (host : List ℕ) → IsTrue (is_host host) → IsWord (codes "hall.desk=http://" ++ host)
desk_word host is =
    let octets = host_octets host is in
    IsWord-append (codes "hall.desk=http://") host desk_start octets.0 (omega (arith, octets.1))

-- ---- scripts

pub local_is_script : (a : Arch) → IsScript (local_script a)
unfolding local_script
local_is_script arch.Bios = record { few = omega arith; lines = All-from_recursion IsLine (Sanboot ∷ []) (record { whole = tt; few = omega arith }, tt) }
local_is_script other = record { few = omega arith; lines = All-from_recursion IsLine (Exit ∷ []) (record { whole = tt; few = omega arith }, tt) }

pub hold_is_script : IsScript hold_script
unfolding hold_script is_word is_first_octet is_word_octet
hold_is_script = record {
  few = omega arith;
  lines = All-from_recursion IsLine hold_script (
    record {
      whole = (All-from_recursion IsWord (codes "This" ∷ codes "machine" ∷ codes "is" ∷ codes "held" ∷ codes "by" ∷ codes "the" ∷ codes "hall" ∷ codes "desk" ∷ []) (refl, (refl, (refl, (refl, (refl, (refl, (refl, (refl, tt)))))))), omega arith);
      few = omega arith;
    },
    (record { whole = tt; few = omega arith }, tt),
  );
}

pub held : spelling hold_script ≡ codes "#!ipxe\necho This machine is held by the hall desk\npoweroff\n"
unfolding hold_script
held = refl

pub boot_is_script : (uri : List ℕ) (args : List (List ℕ)) (initrd : List ℕ) → IsUri uri → All IsWord args → IsUri initrd → length args ≤ 29
    → IsScript (Kernel uri args ∷ Initrd initrd ∷ Boot ∷ [])
boot_is_script uri args initrd kernel words file few = IsScript-boot uri args initrd kernel words file (omega arith)

pub default_is_name : IsName default_pool
unfolding is_name
default_is_name = refl

pub few_erase_arguments : (p : Purpose) (e : Option Erase) → length (erase_argument p e) ≤ 1
few_erase_arguments purpose.Erase (Some e) = omega arith
few_erase_arguments other e = omega arith

pub joined_arguments : {A : Type 0} (image erase : List A) (purpose boot token desk : A)
    → ((((image ++ purpose ∷ []) ++ erase) ++ boot ∷ []) ++ token ∷ []) ++ desk ∷ [] ≡ image ++ (purpose ∷ (erase ++ (boot ∷ token ∷ desk ∷ [])))
joined_arguments image erase purpose boot token desk = simp append_assoc
