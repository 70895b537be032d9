-- Texts without an octet that needs an escape.
use Rattle.std.{proofs.{Common.{◌≡◌, ◌<◌, ◌/◌, ◌%◌, ℕ, suc, true, List, [], ◌∷◌, ◌++◌, refl, sym, ap, ◌∙◌, append_assoc, arith}, lemmas.Bool.{agree_below_at, and_parts, Decides.nat_tests}}, specs.List.list_all}
use Rattle.json.specs.Print.{escape, escape_byte, quoted}
use Rattle.hex.specs.Hex.{IsBytes}
use Rattle.pxe_vendor.specs.{MacText.{digit, mac_text, more_text}, MacLaws.mac_text-first}
use Rattle.hall_types.specs.Octets.{AreOctets}
use Rattle.hall_events.specs.WrittenMachine.{is_plain}

plain_octet : (octet : ℕ) → is_plain octet ≡ true → escape_byte octet ≡ octet ∷ []
unfolding escape_byte
plain_octet octet plain = grind (arith, nat_tests, plain)

plain_text : (text : List ℕ) → list_all is_plain text ≡ true → escape text ≡ text
plain_text [] plain = refl
plain_text (octet ∷ text) plain =
    let parts = and_parts (is_plain octet) (list_all is_plain text) plain in
    rw (plain_octet octet parts.0, plain_text text parts.1) refl

in_marks : (t word : List ℕ) → ((t ++ 34 ∷ []) ++ word) ++ 34 ∷ [] ≡ t ++ 34 ∷ (word ++ 34 ∷ [])
in_marks t word = simp append_assoc

-- a text is written between quotation marks
pub text_pushed : (word t u v w : List ℕ) → list_all is_plain word ≡ true → u ≡ t ++ 34 ∷ [] → v ≡ u ++ word → w ≡ v ++ 34 ∷ [] → w ≡ t ++ quoted word
text_pushed word t u v w plain opened written closed =
    closed
    ∙ ap (λ (text : List ℕ). text ++ 34 ∷ []) (written ∙ ap (λ (text : List ℕ). text ++ word) opened)
    ∙ in_marks t word
    ∙ ap (λ (text : List ℕ). t ++ 34 ∷ (text ++ 34 ∷ [])) (sym (plain_text word plain))

-- ---- addresses

digit_plain : (value : ℕ) → value < 16 → is_plain (digit value) ≡ true
digit_plain value h = agree_below_at (λ (v : ℕ). is_plain (digit v)) (λ (v : ℕ). true) 16 value refl h

more_plain : (octets : List ℕ) → IsBytes octets → list_all is_plain (more_text octets) ≡ true
more_plain [] small = refl
more_plain (octet ∷ octets) small =
    let high = digit_plain (octet / 16) (let s : octet < 256 = small 0 in omega arith) in
    let low = digit_plain (octet % 16) (let s : octet < 256 = small 0 in omega arith) in
    rw (high, low, more_plain octets (λ i. small (suc i))) refl

mac_plain : (octets : List ℕ) → IsBytes octets → list_all is_plain (mac_text octets) ≡ true
mac_plain [] small = refl
mac_plain (octet ∷ octets) small =
    let high = digit_plain (octet / 16) (let s : octet < 256 = small 0 in omega arith) in
    let low = digit_plain (octet % 16) (let s : octet < 256 = small 0 in omega arith) in
    rw (mac_text-first octet octets, high, low, more_plain octets (λ i. small (suc i))) refl

-- an address is written between quotation marks, after a comma if there is one
pub mac_pushed : (mac octets s comma t u v w : List ℕ) → AreOctets 6 mac → octets ≡ mac → t ≡ s ++ comma → u ≡ t ++ 34 ∷ [] → v ≡ u ++ mac_text octets → w ≡ v ++ 34 ∷ []
    → w ≡ s ++ (comma ++ quoted (mac_text mac))
mac_pushed mac octets s comma t u v w are same parted opened written closed =
    text_pushed (mac_text mac) t u v w (mac_plain mac are.1) opened (written ∙ ap (λ (o : List ℕ). u ++ mac_text o) same) closed
    ∙ ap (λ (text : List ℕ). text ++ quoted (mac_text mac)) parted
    ∙ append_assoc s comma (quoted (mac_text mac))
