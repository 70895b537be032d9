-- Laws of sizes: how many octets the texts of members and objects have.
use Rattle.std.{proofs.{Common.{◌≡◌, ◌+◌, ◌*◌, ◌/◌, ◌%◌, ◌<◌, ◌⊎◌, inl, inr, sym, ◌≤◌, ℕ, Bool, true, false, cond, List, [], ◌∷◌, ◌++◌, map, length, refl, ap, subst, ◌∙◌, arith, length-append, lit≤}, lemmas.{Bool.{and_parts, and_from, agree_below_at, leb-true, ltb-true, or_left, cases_lt, false≢true}, Fmt.length-decimal-le}}, specs.{Prelude.{codes, nat_eq, nat_lt, nat_le, ◌&&◌}, Char.{digit_char, is_ascii_lowercase}, List.{list_all, AllByRecursion, starts_with}, Ordering.{nat_cmp, match_ordering}, Cmp.Lexicographic.slice_cmp, declared.cmp.Ordering.{Ordering, TheVariants.{Less, Equal, Greater}}}}
use Rattle.pxe_vendor.specs.Arch.{arch_text}
use Rattle.json.specs.Print.{escape_byte}
use Rattle.ipxe_script.specs.Word.{is_first_octet, is_word_octet, is_word, is_uri}
use Rattle.hall_types.specs.{Kinds.role_text, Name.is_name}
use Rattle.hall_events.specs.Object.{count}
use Rattle.hex.proofs.HexLemmas.{length-encode_with}
use Rattle.uuid.proofs.TextLemmas.{by_index_length}
use Rattle.json.proofs.Printed.Strings.{escape_byte_plain}
use Rattle.hall_http.specs.Prelude.{encode_lower, lower_digits, lower, hyphenated_text, mac_text, IsMacText-mac_text, length-IsMacText, Arch, Bios, escape_letter, escape, quoted, Data, boolean, string, array, Members, no_members, member, put, items_of, comma_if, compact_text, items_text, members_text, IsWord, IsUri, IsName, is_name_octet, IsNumber, AreOctets, Role, Admin, Member, put_all, object_of}

-- ---- texts

-- an octet becomes at most six
escaped_octet : (b : ℕ) → length (escape_byte b) ≤ 6
unfolding escape_byte
escaped_octet b = by (nat_lt 0 (escape_letter b)) (nat_lt b 32) (escape_letter b) (digit_char (b / 16)) (digit_char (b % 16))
  where
    by : (short control : Bool) (letter high low : ℕ) → length (cond short (92 ∷ letter ∷ []) (cond control (92 ∷ 117 ∷ 48 ∷ 48 ∷ high ∷ low ∷ []) (b ∷ []))) ≤ 6
    by true control letter high low = omega arith
    by false true letter high low = omega arith
    by false false letter high low = omega arith

escaped : (text : List ℕ) → length (escape text) ≤ 6 * length text
escaped [] = omega arith
escaped (b ∷ text) = omega (arith, length-append (escape_byte b) (escape text), escaped_octet b, escaped text)

length-quoted : (text : List ℕ) → length (quoted text) ≡ length (escape text) + 2
length-quoted text = omega (arith, length-append (escape text) (34 ∷ []))

-- a text in quotes
quoted_fits : (text : List ℕ) (n : ℕ) → length text ≤ n → length (quoted text) ≤ 6 * n + 2
quoted_fits text n h = omega (arith, length-quoted text, escaped text, h)

-- ---- words

word_octet_is_plain : (b : ℕ) → is_word_octet b ≡ true → escape_byte b ≡ b ∷ []
unfolding is_word_octet is_first_octet
word_octet_is_plain b h =
    escape_byte_plain b
    (λ e. false≢true (subst (λ (n : ℕ). is_word_octet n ≡ true) e h))
    (λ e. false≢true (subst (λ (n : ℕ). is_word_octet n ≡ true) e h))
    (high (cases_lt b 32))
  where
    high : (b < 32) ⊎ (32 ≤ b) → 32 ≤ b
    high (inl low) = absurd (false≢true (sym (agree_below_at is_word_octet (λ n. false) 32 b refl low) ∙ h))
    high (inr h) = h

plain_octets : (text : List ℕ) → list_all is_word_octet text ≡ true → length (escape text) ≡ length text
plain_octets [] h = refl
plain_octets (b ∷ text) h =
    let both = and_parts (is_word_octet b) (list_all is_word_octet text) h in
    omega (arith, length-append (escape_byte b) (escape text), ap length (word_octet_is_plain b both.0), plain_octets text both.1)

record IsShortWord (word : List ℕ) : Type 0 where
  short : length word ≤ 128
  plain : length (escape word) ≡ length word

short_word : (word : List ℕ) → IsWord word → IsShortWord word
unfolding is_word is_word_octet
short_word [] h = absurd cc
short_word (first ∷ others) h =
    let both = and_parts (is_first_octet first && list_all is_word_octet others) (nat_lt (length others) 128) h in
    let octets = and_parts (is_first_octet first) (list_all is_word_octet others) both.0 in
    record {
      short = omega (arith, ltb-true (length others) 128 both.1);
      plain = plain_octets (first ∷ others) (and_from (is_word_octet first) (list_all is_word_octet others) (or_left (is_first_octet first) _ octets.0) octets.1);
    }

comma_fits : (later : Bool) → length (comma_if later) ≤ 1
comma_fits true = lit≤ tt
comma_fits false = lit≤ tt

words_fit : (later : Bool) (words : List (List ℕ)) → AllByRecursion IsWord words → length (items_text later (items_of (map string words))) ≤ 131 * length words + 1
words_fit later [] h = omega arith
words_fit later (word ∷ words) h =
    let word_is = short_word word h.0 in
    let rest = items_text true (items_of (map string words)) in
    omega (
      arith,
      length-append (comma_if later) (quoted word ++ rest),
      length-append (quoted word) rest,
      comma_fits later,
      length-quoted word,
      word_is.short,
      word_is.plain,
      words_fit true words h.1,
    )

-- ---- objects

-- what a member takes
abbrev pub member_size : Member → ℕ
member_size m = length (quoted m.0) + length (compact_text m.1) + 2

abbrev pub total : List Member → ℕ
total [] = 0
total (m ∷ ms) = member_size m + total ms

abbrev members_total : Members → ℕ
members_total no_members = 0
members_total (member k d ms) = member_size (k, d) + members_total ms

members_text_fits : (later : Bool) (ms : Members) → length (members_text later ms) ≤ members_total ms + 1
members_text_fits later no_members = omega arith
members_text_fits later (member k d ms) =
    let rest = members_text true ms in
    omega (
      arith,
      length-append (comma_if later) (quoted k ++ 58 ∷ (compact_text d ++ rest)),
      length-append (quoted k) (58 ∷ (compact_text d ++ rest)),
      length-append (compact_text d) rest,
      comma_fits later,
      members_text_fits true ms,
    )

put_total : (k : List ℕ) (d : Data) (ms : Members) → members_total (put k d ms) ≤ member_size (k, d) + members_total ms
put_total k d no_members = omega arith
put_total k d (member l e ms) = by (slice_cmp nat_cmp k l) (put_total k d ms)
  where
    by : (o : Ordering) → members_total (put k d ms) ≤ member_size (k, d) + members_total ms
        → members_total (match_ordering o (member k d (member l e ms)) (member l d ms) (member l e (put k d ms))) ≤ member_size (k, d) + (member_size (l, e) + members_total ms)
    by Less later = omega arith
    by Equal later = omega arith
    by Greater later = omega (arith, later)

put_all_total : (ms : List Member) (old : Members) → members_total (put_all ms old) ≤ total ms + members_total old
put_all_total [] old = omega arith
put_all_total (m ∷ ms) old = omega (arith, put_all_total ms (put m.0 m.1 old), put_total m.0 m.1 old)

pub object_fits : (ms : List Member) → length (compact_text (object_of ms)) ≤ total ms + 2
object_fits ms = omega (arith, members_text_fits false (put_all ms no_members), put_all_total ms no_members)

pub total-append : (ms more : List Member) → total (ms ++ more) ≡ total ms + total more
total-append [] more = omega arith
total-append (m ∷ ms) more = omega (arith, total-append ms more)

-- ---- the texts of members

-- a member with a short name
pub text_fits : (name text : List ℕ) (n : ℕ) → length name ≤ 8 → length text ≤ n → member_size (name, string text) ≤ 6 * n + 54
text_fits name text n a b = omega (arith, quoted_fits name 8 a, quoted_fits text n b)

pub count_fits : (name : List ℕ) (n : ℕ) → length name ≤ 8 → IsNumber n → member_size (name, count n) ≤ 68
count_fits name n a h = omega (arith, quoted_fits name 8 a, length-decimal-le 16 n (omega arith) (omega arith) (omega arith))

pub truth_fits : (name : List ℕ) (b : Bool) → length name ≤ 8 → member_size (name, boolean b) ≤ 57
truth_fits name true a = omega (arith, quoted_fits name 8 a)
truth_fits name false a = omega (arith, quoted_fits name 8 a)

pub name_fits : (name : List ℕ) → IsName name → length name ≤ 32
unfolding is_name
name_fits [] h = absurd cc
name_fits (first ∷ others) h = omega (arith, leb-true (length others) 31 (and_parts (is_ascii_lowercase first && list_all is_name_octet others) (nat_le (length others) 31) h).1)

pub uri_fits : (uri : List ℕ) → IsUri uri → length uri ≤ 128
unfolding is_uri
uri_fits uri h = (short_word uri (and_parts (is_word uri) (starts_with nat_eq uri (codes "http://")) h).0).short

pub uuid_fits : (uuid : List ℕ) → length (hyphenated_text lower uuid) ≤ 64
uuid_fits uuid = let size : length (hyphenated_text lower uuid) ≡ 36 = by_index_length 36 _ in omega (arith, size)

pub mac_fits : (mac : List ℕ) → AreOctets 6 mac → length (mac_text mac) ≤ 64
mac_fits mac h = omega (arith, length-IsMacText (mac_text mac) mac (IsMacText-mac_text mac h.0 h.1))

pub digest_fits : (digest : List ℕ) → AreOctets 32 digest → length (encode_lower digest) ≤ 64
digest_fits digest h = omega (arith, length-encode_with lower_digits digest, h.0)

pub arch_fits : (a : Arch) → length (arch_text a) ≤ 64
unfolding arch_text
arch_fits Bios = lit≤ tt
arch_fits other = lit≤ tt

pub role_fits : (r : Role) → length (role_text r) ≤ 64
unfolding role_text
role_fits Admin = lit≤ tt
role_fits other = lit≤ tt

pub args_fit : (words : List (List ℕ)) → AllByRecursion IsWord words → length words ≤ 24 → member_size (codes "args", array (items_of (map string words))) ≤ 3300
args_fit words h few = omega (arith, quoted_fits (codes "args") 4 (lit≤ tt), words_fit false words h, few)
